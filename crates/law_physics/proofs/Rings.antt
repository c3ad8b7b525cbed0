-- Sums over a grid that is moved along a direction whose ends meet.
use Rattle.std.proofs.Common.{◌≡◌, ℕ, zero, suc, ◌+◌, ◌*◌, ◌<◌, ◌≤◌, arith, refl, sym, ap, ◌∙◌, subst, Bool, true, false, not, ◌&&◌, ◌||◌, ℤ, pos, negsuc, ◌+ℤ◌, ◌-ℤ◌, ◌≤ℤ◌, ◌<ℤ◌, int_lt, int_le}
use Rattle.std.specs.Prelude.{if◌then◌else◌, nat_eq}
use Rattle.std.specs.Int.{int_rem_euclid, int_gap}
use Rattle.std.proofs.lemmas.Int.{ints, int_rem_euclid_is}
use Rattle.std.proofs.lemmas.Bool.{false≢true}
use Rattle.std.proofs.Math.Nat.{mod_self}
use Rattle.cx_grid.specs.declared.boxes.Point.{Point}
use Rattle.cx_grid.specs.declared.shapes.Shape.{Shape}
use Rattle.cx_grid.specs.Boxes.{IsOn, IsIn, along, shifted}
use Rattle.cx_grid.specs.Grid.{IsShape, whole, is_periodic, wrap, in_face, is_boundary}
use Rattle.cx_grid.proofs.Places.{same_point, gap_up}
use Rattle.cx_grid.proofs.WrapLaws.{rem_add, wrap_shifted}
use Rattle.cx_thorn_physics.specs.Offsets.{step}
use Rattle.law_physics.proofs.Totals.{total, total_same, total_turned}
use Rattle.law_physics.proofs.GridTotals.{width, point_of, AreOn, row_total, sheet_total, grid_total, on_grid}

-- ---- points beside one another

-- nothing is moved, and a step there and back
still_along : (c : Bool) (a : ℤ) → a +ℤ (if c then pos 0 else pos 0) ≡ a
still_along true a = omega (arith, ints)
still_along false a = omega (arith, ints)

pub still : (p : Point) (d : ℕ) → shifted p (step d (pos 0)) ≡ p
still p d = same_point (still_along (nat_eq 0 d) p.x) (still_along (nat_eq 1 d) p.y)
    (still_along (nat_eq 2 d) p.z)

back_along : (c : Bool) (a by : ℤ)
    → a +ℤ (if c then by else pos 0) +ℤ (if c then pos 0 -ℤ by else pos 0) ≡ a
back_along true a by = omega (arith, ints)
back_along false a by = omega (arith, ints)

pub there_and_back : (p : Point) (d : ℕ) (by : ℤ)
    → shifted (shifted p (step d by)) (step d (pos 0 -ℤ by)) ≡ p
there_and_back p d by = same_point (back_along (nat_eq 0 d) p.x by)
    (back_along (nat_eq 1 d) p.y by) (back_along (nat_eq 2 d) p.z by)

-- ---- rings

-- A function that is another one's of the neighbour before, along a direction; at the first point
-- it is that of the last one.
pub record Follows (s : Shape) (d : ℕ) (f g : Point → ℤ) : Type 0 where
  pub next : (p : Point) → IsIn (whole s) p → f (shifted p (step d (pos 1))) ≡ g p
  pub first : (p : Point) → IsIn (whole s) p → along p d ≡ pos 0
      → f p ≡ g (shifted p (step d (along s.n d -ℤ pos 1)))

ring : (n : ℕ) (f g : ℕ → ℤ) → 1 ≤ n → ((i : ℕ) → i + 1 < n → f (i + 1) ≡ g i)
    → ((i : ℕ) → i + 1 ≡ n → f 0 ≡ g i) → total 0 n f ≡ total 0 n g
ring zero f g some follows first = absurd (omega (arith, some))
ring (suc last) f g some follows first =
    total_turned last f g (λ i l. follows i (omega (arith, l))) (first last (omega arith))

wide : (n : ℤ) → pos 1 ≤ℤ n → 1 ≤ int_gap (pos 0) n
wide n some =
    let over : pos 0 ≤ℤ n = omega (arith, ints, some) in
    omega (arith, ints, gap_up (pos 0) n over, some)

one_up : (i : ℕ) → pos i +ℤ pos 1 ≡ pos (i + 1)
one_up i = omega (arith, ints)

keeps : (a : ℤ) → a +ℤ pos 0 ≡ a
keeps a = omega (arith, ints)

last_is : (n : ℤ) (i : ℕ) → pos 1 ≤ℤ n → i + 1 ≡ int_gap (pos 0) n → pos 0 +ℤ (n -ℤ pos 1) ≡ pos i
last_is n i some h =
    let over : pos 0 ≤ℤ n = omega (arith, ints, some) in
    omega (arith, ints, gap_up (pos 0) n over, h)

pub turned_x : (s : Shape) (f g : Point → ℤ) → IsShape s → Follows s 0 f g
    → grid_total s f ≡ grid_total s g
turned_x s f g shape follows =
    total_same 0 (width s 2) (λ z. sheet_total s f z) (λ z. sheet_total s g z) (λ z low c.
    total_same 0 (width s 1) (λ y. row_total s f z y) (λ y. row_total s g z y) (λ y lower b.
    ring (width s 0) (λ x. f (point_of x y z)) (λ x. g (point_of x y z))
    (wide s.n.x shape.x.some)
    (λ x l.
    let on : AreOn s x y z = record {
      x = omega (arith, l);
      y = omega (arith, b);
      z = omega (arith, c);
    } in
    ap f (sym (same_point (one_up x) (keeps (pos y)) (keeps (pos z))))
    ∙ follows.next (point_of x y z) (on_grid s x y z shape on))
    (λ x e.
    let on : AreOn s 0 y z = record {
      x = omega (arith, e);
      y = omega (arith, b);
      z = omega (arith, c);
    } in
    follows.first (point_of 0 y z) (on_grid s 0 y z shape on) refl
    ∙ ap g (same_point (last_is s.n.x x shape.x.some e) (keeps (pos y)) (keeps (pos z))))))

pub turned_y : (s : Shape) (f g : Point → ℤ) → IsShape s → Follows s 1 f g
    → grid_total s f ≡ grid_total s g
turned_y s f g shape follows =
    total_same 0 (width s 2) (λ z. sheet_total s f z) (λ z. sheet_total s g z) (λ z low c.
    ring (width s 1) (λ y. row_total s f z y) (λ y. row_total s g z y)
    (wide s.n.y shape.y.some)
    (λ y l.
    total_same 0 (width s 0) (λ x. f (point_of x (y + 1) z)) (λ x. g (point_of x y z))
    (λ x lowest a.
    let on : AreOn s x y z = record {
      x = omega (arith, a);
      y = omega (arith, l);
      z = omega (arith, c);
    } in
    ap f (sym (same_point (keeps (pos x)) (one_up y) (keeps (pos z))))
    ∙ follows.next (point_of x y z) (on_grid s x y z shape on)))
    (λ y e.
    total_same 0 (width s 0) (λ x. f (point_of x 0 z)) (λ x. g (point_of x y z)) (λ x lowest a.
    let on : AreOn s x 0 z = record {
      x = omega (arith, a);
      y = omega (arith, e);
      z = omega (arith, c);
    } in
    follows.first (point_of x 0 z) (on_grid s x 0 z shape on) refl
    ∙ ap g (same_point (keeps (pos x)) (last_is s.n.y y shape.y.some e) (keeps (pos z))))))

pub turned_z : (s : Shape) (f g : Point → ℤ) → IsShape s → Follows s 2 f g
    → grid_total s f ≡ grid_total s g
turned_z s f g shape follows =
    ring (width s 2) (λ z. sheet_total s f z) (λ z. sheet_total s g z)
    (wide s.n.z shape.z.some)
    (λ z l.
    total_same 0 (width s 1) (λ y. row_total s f (z + 1) y) (λ y. row_total s g z y) (λ y lower b.
    total_same 0 (width s 0) (λ x. f (point_of x y (z + 1))) (λ x. g (point_of x y z))
    (λ x lowest a.
    let on : AreOn s x y z = record {
      x = omega (arith, a);
      y = omega (arith, b);
      z = omega (arith, l);
    } in
    ap f (sym (same_point (keeps (pos x)) (keeps (pos y)) (one_up z)))
    ∙ follows.next (point_of x y z) (on_grid s x y z shape on))))
    (λ z e.
    total_same 0 (width s 1) (λ y. row_total s f 0 y) (λ y. row_total s g z y) (λ y lower b.
    total_same 0 (width s 0) (λ x. f (point_of x y 0)) (λ x. g (point_of x y z)) (λ x lowest a.
    let on : AreOn s x y 0 = record {
      x = omega (arith, a);
      y = omega (arith, b);
      z = omega (arith, e);
    } in
    follows.first (point_of x y 0) (on_grid s x y 0 shape on) refl
    ∙ ap g (same_point (keeps (pos x)) (keeps (pos y)) (last_is s.n.z z shape.z.some e)))))

-- ---- points that a periodic grid takes for one another

-- a number of points is behind the one before the first
pub rem_round : (c n : ℤ) → pos 1 ≤ℤ n
    → int_rem_euclid (c +ℤ (n -ℤ pos 1)) n ≡ int_rem_euclid (c +ℤ negsuc 0) n
rem_round c (negsuc m) some = absurd (omega (arith, ints, some))
rem_round c (pos m) some =
    let there : 0 < m = omega (arith, ints, some) in
    let more : c +ℤ (pos m -ℤ pos 1) ≡ pos m +ℤ (c +ℤ negsuc 0) = omega (arith, ints) in
    let nothing : 0 * m ≡ 0 = omega arith in
    let none : int_rem_euclid (pos m) (pos m) ≡ pos 0 =
    int_rem_euclid_is (pos m) (pos m) m 0 m there refl (omega (arith, ints, nothing))
    ∙ ap pos (mod_self m) in
    let less : pos 0 +ℤ (c +ℤ negsuc 0) ≡ c +ℤ negsuc 0 = omega (arith, ints) in
    ap (λ a. int_rem_euclid a (pos m)) more
    ∙ sym (rem_add (pos m) (c +ℤ negsuc 0) m there)
    ∙ ap (λ a. int_rem_euclid (a +ℤ (c +ℤ negsuc 0)) (pos m)) none
    ∙ ap (λ a. int_rem_euclid a (pos m)) less

round_along : (periodic here : Bool) (n c : ℤ) → pos 1 ≤ℤ n → (here ≡ true → periodic ≡ true)
    → (if periodic then int_rem_euclid (c +ℤ (if here then n -ℤ pos 1 else pos 0)) n
    else c +ℤ (if here then n -ℤ pos 1 else pos 0))
    ≡ (if periodic then int_rem_euclid (c +ℤ (if here then negsuc 0 else pos 0)) n
    else c +ℤ (if here then negsuc 0 else pos 0))
round_along periodic false n c some all = refl
round_along true true n c some all = rem_round c n some
round_along false true n c some all = absurd (false≢true (all refl))

-- the neighbour before a point, and the one as far behind as the grid is wide, are one
pub wrap_round_x : (s : Shape) (p : Point) → IsShape s → is_periodic s 0 ≡ true
    → wrap s (shifted p (step 0 (s.n.x -ℤ pos 1))) ≡ wrap s (shifted p (step 0 (negsuc 0)))
wrap_round_x s p shape periodic =
    same_point (round_along (is_periodic s 0) true s.n.x p.x shape.x.some (λ _. periodic)) refl refl

pub wrap_round_y : (s : Shape) (p : Point) → IsShape s → is_periodic s 1 ≡ true
    → wrap s (shifted p (step 1 (s.n.y -ℤ pos 1))) ≡ wrap s (shifted p (step 1 (negsuc 0)))
wrap_round_y s p shape periodic =
    same_point refl (round_along (is_periodic s 1) true s.n.y p.y shape.y.some (λ _. periodic)) refl

pub wrap_round_z : (s : Shape) (p : Point) → IsShape s → is_periodic s 2 ≡ true
    → wrap s (shifted p (step 2 (s.n.z -ℤ pos 1))) ≡ wrap s (shifted p (step 2 (negsuc 0)))
wrap_round_z s p shape periodic =
    same_point refl refl (round_along (is_periodic s 2) true s.n.z p.z shape.z.some (λ _. periodic))

-- points that are one have neighbours that are one
pub wrap_beside : (s : Shape) (p q o : Point) → IsShape s → wrap s p ≡ wrap s q
    → wrap s (shifted p o) ≡ wrap s (shifted q o)
wrap_beside s p q o shape one =
    sym (wrap_shifted s p o shape) ∙ ap (λ r. wrap s (shifted r o)) one ∙ wrap_shifted s q o shape

-- ---- ends of a direction that is not periodic

le_from : (a b : ℤ) → a ≤ℤ b → int_le a b ≡ true
le_from a b h = grind (arith, ints)

lt_from : (a b : ℤ) → a <ℤ b → int_lt a b ≡ true
lt_from a b h = grind (arith, ints)

face_first : (n g c : ℤ) → pos 1 ≤ℤ g → c ≡ pos 0 → (int_lt c g || int_le (n -ℤ g) c) ≡ true
face_first n g c some none =
    let below : c <ℤ g = omega (arith, ints, some, none) in
    ap (λ b. b || int_le (n -ℤ g) c) (lt_from c g below)

pub in_first : (s : Shape) (d : ℕ) (c : ℤ) → is_periodic s d ≡ false → pos 1 ≤ℤ along s.ghost_ d
    → c ≡ pos 0 → in_face s d c ≡ true
in_first s d c flat some none =
    ap (λ b. not b && (int_lt c (along s.ghost_ d) || int_le (along s.n d -ℤ along s.ghost_ d) c))
    flat
    ∙ face_first (along s.n d) (along s.ghost_ d) c some none

or_true : (b : Bool) → (b || true) ≡ true
or_true true = refl
or_true false = refl

pub in_last : (s : Shape) (d : ℕ) (c : ℤ) → is_periodic s d ≡ false → pos 1 ≤ℤ along s.ghost_ d
    → c ≡ along s.n d -ℤ pos 1 → in_face s d c ≡ true
in_last s d c flat some last =
    let far : (along s.n d -ℤ along s.ghost_ d) ≤ℤ c = omega (arith, ints, some, last) in
    ap (λ b. not b && (int_lt c (along s.ghost_ d) || int_le (along s.n d -ℤ along s.ghost_ d) c))
    flat
    ∙ ap (λ b. int_lt c (along s.ghost_ d) || b) (le_from (along s.n d -ℤ along s.ghost_ d) c far)
    ∙ or_true (int_lt c (along s.ghost_ d))

pub boundary_x : (s : Shape) (p : Point) → in_face s 0 p.x ≡ true → is_boundary s p ≡ true
boundary_x s p h = ap (λ b. b || (in_face s 1 p.y || in_face s 2 p.z)) h

pub boundary_y : (s : Shape) (p : Point) → in_face s 1 p.y ≡ true → is_boundary s p ≡ true
boundary_y s p h = ap (λ b. in_face s 0 p.x || (b || in_face s 2 p.z)) h
    ∙ or_true (in_face s 0 p.x)

pub boundary_z : (s : Shape) (p : Point) → in_face s 2 p.z ≡ true → is_boundary s p ≡ true
boundary_z s p h = ap (λ b. in_face s 0 p.x || (in_face s 1 p.y || b)) h
    ∙ ap (λ b. in_face s 0 p.x || b) (or_true (in_face s 1 p.y)) ∙ or_true (in_face s 0 p.x)

-- ---- a direction of the grid

on_last : (n c : ℤ) → pos 1 ≤ℤ n → c ≡ pos 0 → IsOn (pos 0) n (c +ℤ (n -ℤ pos 1))
on_last n c some none = record {
  from = omega (arith, ints, some, none);
  below = omega (arith, ints, some, none);
}

last_along : (n c : ℤ) → c ≡ pos 0 → c +ℤ (n -ℤ pos 1) ≡ n -ℤ pos 1
last_along n c none = omega (arith, ints, none)

on_still : (n c : ℤ) → IsOn (pos 0) n c → IsOn (pos 0) n (c +ℤ pos 0)
on_still n c on = subst (IsOn (pos 0) n) (sym (keeps c)) on

-- A direction: a grid that is moved along it has the same sum where its ends meet; where it is
-- periodic they do, and else both lie in the boundary.
pub record Direction (s : Shape) (d : ℕ) : Type 0 where
  pub turned : (f g : Point → ℤ) → Follows s d f g → grid_total s f ≡ grid_total s g
  pub round : (p : Point) → is_periodic s d ≡ true
      → wrap s (shifted p (step d (along s.n d -ℤ pos 1)))
      ≡ wrap s (shifted p (step d (negsuc 0)))
  pub first : (p : Point) → is_periodic s d ≡ false → pos 1 ≤ℤ along s.ghost_ d
      → along p d ≡ pos 0 → is_boundary s p ≡ true
  pub last_in : (p : Point) → IsIn (whole s) p → along p d ≡ pos 0
      → IsIn (whole s) (shifted p (step d (along s.n d -ℤ pos 1)))
  pub last : (p : Point) → is_periodic s d ≡ false → pos 1 ≤ℤ along s.ghost_ d
      → along p d ≡ pos 0 → is_boundary s (shifted p (step d (along s.n d -ℤ pos 1))) ≡ true

pub direction_x : (s : Shape) → IsShape s → Direction s 0
direction_x s shape =
    record {
      turned = λ f g. turned_x s f g shape;
      round = λ p. wrap_round_x s p shape;
      first = λ p flat some none. boundary_x s p (in_first s 0 p.x flat some none);
      last_in = λ p h none.
          record {
            x = on_last s.n.x p.x shape.x.some none;
            y = on_still s.n.y p.y h.y;
            z = on_still s.n.z p.z h.z;
          };
      last = λ p flat some none.
          boundary_x s (shifted p (step 0 (s.n.x -ℤ pos 1)))
          (in_last s 0 (p.x +ℤ (s.n.x -ℤ pos 1)) flat some (last_along s.n.x p.x none));
    }

pub direction_y : (s : Shape) → IsShape s → Direction s 1
direction_y s shape =
    record {
      turned = λ f g. turned_y s f g shape;
      round = λ p. wrap_round_y s p shape;
      first = λ p flat some none. boundary_y s p (in_first s 1 p.y flat some none);
      last_in = λ p h none.
          record {
            x = on_still s.n.x p.x h.x;
            y = on_last s.n.y p.y shape.y.some none;
            z = on_still s.n.z p.z h.z;
          };
      last = λ p flat some none.
          boundary_y s (shifted p (step 1 (s.n.y -ℤ pos 1)))
          (in_last s 1 (p.y +ℤ (s.n.y -ℤ pos 1)) flat some (last_along s.n.y p.y none));
    }

pub direction_z : (s : Shape) → IsShape s → Direction s 2
direction_z s shape =
    record {
      turned = λ f g. turned_z s f g shape;
      round = λ p. wrap_round_z s p shape;
      first = λ p flat some none. boundary_z s p (in_first s 2 p.z flat some none);
      last_in = λ p h none.
          record {
            x = on_still s.n.x p.x h.x;
            y = on_still s.n.y p.y h.y;
            z = on_last s.n.z p.z shape.z.some none;
          };
      last = λ p flat some none.
          boundary_z s (shifted p (step 2 (s.n.z -ℤ pos 1)))
          (in_last s 2 (p.z +ℤ (s.n.z -ℤ pos 1)) flat some (last_along s.n.z p.z none));
    }
