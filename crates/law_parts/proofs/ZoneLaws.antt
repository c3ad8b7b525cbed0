-- What a sweep of a part's zone reads is there.
use Rattle.std.proofs.Common.{◌≡◌, ℕ, zero, suc, ◌+◌, ◌<◌, Bool, true, false, not, ◌&&◌, ◌||◌, eqb, refl, sym, ap, ◌∙◌, subst, arith, cond, ℤ, pos, neg_ℤ, ◌+ℤ◌, ◌≤ℤ◌, ◌<ℤ◌, int_le, int_lt, List, [], ◌∷◌, length, get_or, Some, None}
use Rattle.std.specs.Prelude.{is_some, nat_lt}
use Rattle.std.specs.List.{list_all, list_any}
use Rattle.std.proofs.lemmas.Int.{ints}
use Rattle.std.proofs.lemmas.Bool.{and_parts, and_from, eqb-true}
use Rattle.std.proofs.lemmas.List.FromFn.{length-map-range_with_len, get_or-map-range_with_len}
use Rattle.cx_grid.specs.declared.boxes.Point.{Point}
use Rattle.cx_grid.specs.declared.boxes.Box3.{Box3}
use Rattle.cx_grid.specs.declared.shapes.Shape.{Shape}
use Rattle.cx_grid.specs.Boxes.{shifted, IsOn, IsIn, point_count, index_in, point_in, points_in, is_on, has_point}
use Rattle.cx_grid.specs.Grid.{is_boundary, source, wrap, whole}
use Rattle.cx_grid.specs.Windows.{reach_box}
use Rattle.cx_grid.proofs.Places.{same_point, index_below, point_at_index, point_inside}
use Rattle.cx_plan.specs.declared.item.Region.{Region}
use Rattle.cx_plan.specs.declared.item.Region.TheVariants.{Interior, Boundary, Everywhere}
use Rattle.cx_plan.specs.declared.flag.Flag.TheVariants.{I, B, G}
use Rattle.cx_plan.specs.Setups.{Setup}
use Rattle.cx_plan.specs.Regions.{within_ghosts, cell_needs, flags_or_none, is_G}
use Rattle.cx_model.specs.Turns.{window_point}
use Rattle.cx_cut.proofs.Boxed.{in_by_along}
use Rattle.cx_cut.specs.Cuts.{owned_low, owned_high, Parts, IsReached, owned, local}
use Rattle.law_parts.specs.Holding.{in_zone}
use Rattle.law_parts.proofs.ListLaws.{not_true}

-- ---- points of a box

pub on_is : (low high c : ℤ) → is_on low high c ≡ true → IsOn low high c
on_is low high c e =
    let p = and_parts (int_le low c) (int_lt c high) e in
    record { from = omega (arith, ints, p.0); below = omega (arith, ints, p.1) }

le_from : (a b : ℤ) → a ≤ℤ b → int_le a b ≡ true
le_from a b h = grind (arith, ints)

lt_from : (a b : ℤ) → a <ℤ b → int_lt a b ≡ true
lt_from a b h = grind (arith, ints)

pub on_from : (low high c : ℤ) → IsOn low high c → is_on low high c ≡ true
on_from low high c h = and_from (int_le low c) (int_lt c high) (le_from low c h.from)
    (lt_from c high h.below)

pub in_is : (b : Box3) (p : Point) → has_point b p ≡ true → IsIn b p
in_is b p e =
    let u = and_parts (is_on b.low.x b.high.x p.x && is_on b.low.y b.high.y p.y)
    (is_on b.low.z b.high.z p.z) e in
    let v = and_parts (is_on b.low.x b.high.x p.x) (is_on b.low.y b.high.y p.y) u.0 in
    record {
      x = on_is b.low.x b.high.x p.x v.0;
      y = on_is b.low.y b.high.y p.y v.1;
      z = on_is b.low.z b.high.z p.z u.1;
    }

pub in_from : (b : Box3) (p : Point) → IsIn b p → has_point b p ≡ true
in_from b p h =
    and_from (is_on b.low.x b.high.x p.x && is_on b.low.y b.high.y p.y) (is_on b.low.z b.high.z p.z)
    (and_from (is_on b.low.x b.high.x p.x) (is_on b.low.y b.high.y p.y)
    (on_from b.low.x b.high.x p.x h.x) (on_from b.low.y b.high.y p.y h.y))
    (on_from b.low.z b.high.z p.z h.z)

-- ---- what a cut owes

-- of part k
pub record Lies (s : Shape) (cut : Parts) (k : ℕ) : Type 0 where
  -- owned points are local ones
  pub own : (p : Point) → IsIn (owned cut k) p → IsIn (local cut k) p
  -- a local point names a point of the grid
  pub names : (p : Point) → IsIn (local cut k) p → IsIn (whole s) (wrap s p)
  -- what is seen within the ghost width from an owned interior point is local
  pub window : (reach : ℕ) (p o : Point) → within_ghosts s reach ≡ true → IsIn (owned cut k) p
      → is_boundary s p ≡ false → IsIn (reach_box s.dims reach) o → IsIn (local cut k) (shifted p o)
  -- the interior point from which a local boundary point takes its number is local
  pub source_is : (p : Point) → IsIn (local cut k) p → is_boundary s p ≡ true
      → IsIn (local cut k) (source s p)

-- ---- offsets of reach 0

zero_side : (b : Bool) (c : ℤ)
    → IsOn (cond b (neg_ℤ (pos 0)) (pos 0)) (cond b (pos (0 + 1)) (pos 1)) c → c ≡ pos 0
zero_side true c h = omega (arith, ints, h.from, h.below)
zero_side false c h = omega (arith, ints, h.from, h.below)

no_shift : (c o : ℤ) → o ≡ pos 0 → c +ℤ o ≡ c
no_shift c o e = omega (arith, ints, e)

stays_put : (dims : ℕ) (p o : Point) → IsIn (reach_box dims 0) o → shifted p o ≡ p
stays_put dims p o h =
    same_point (no_shift p.x o.x (zero_side (nat_lt 0 dims) o.x h.x))
    (no_shift p.y o.y (zero_side (nat_lt 1 dims) o.y h.y))
    (no_shift p.z o.z (zero_side (nat_lt 2 dims) o.z h.z))

put_at : (dims reach : ℕ) (p o : Point) → reach ≡ 0 → IsIn (reach_box dims reach) o
    → p ≡ shifted p o
put_at dims reach p o e h = sym (stays_put dims p o (subst (λ n. IsIn (reach_box dims n) o) e h))

none_some : true ≡ false → ⊥
none_some e = absurd cc

-- ---- zones

module _ (setup : Setup) (cut : Parts) (k : ℕ) (lies : Lies setup.shape cut k) where
  -- every owned point is reached
  pub own_reached : (d : ℕ) (p : Point) → IsIn (owned cut k) p → IsReached cut k d p
  own_reached d p h = record {
    inside = lies.own p h;
    own = λ e l m. in_by_along (owned_low cut k) (owned_high cut k) p h e m;
  }

  pub reached_own : (p : Point) → IsReached cut k 0 p → IsIn (owned cut k) p
  reached_own p h = record {
    x = h.own 0 (omega arith) (omega arith);
    y = h.own 1 (omega arith) (omega arith);
    z = h.own 2 (omega arith) (omega arith);
  }

  -- all local points are, where all directions are done
  pub local_reached : (p : Point) → IsIn (local cut k) p → IsReached cut k 3 p
  local_reached p h = record { inside = h; own = λ e l m. absurd (omega arith) }

  any_reached : (g : Bool) (done : ℕ) (p : Point) → g ≡ true → IsIn (local cut k) p
      → IsReached cut k (cond g 3 done) p
  any_reached true done p e h = local_reached p h
  any_reached false done p e h = absurd cc

  abbrev pub Zoned : Region → Point → Type 0
  Zoned region p = in_zone setup (owned cut k) region p ≡ true

  -- the points that are read of the window of a point of the zone, where the needs of the read are
  -- met
  pub window_reached : (region of : Region) (reach : ℕ) (g : Bool) (done : ℕ) (p o : Point)
      → is_some (cell_needs setup.shape region of reach) ≡ true
      → (list_any is_G (flags_or_none (cell_needs setup.shape region of reach)) ≡ true → g ≡ true)
      → IsIn (local cut k) p → Zoned region p → IsIn (reach_box setup.shape.dims reach) o
      → IsReached cut k (cond g 3 done) (shifted (window_point setup.shape region p) o)
  window_reached Interior Everywhere reach g done p o has met near zoned at =
      go (within_ghosts setup.shape reach) refl
    where
      go : (w : Bool) → within_ghosts setup.shape reach ≡ w
          → IsReached cut k (cond g 3 done) (shifted p o)
      go true e =
          let z = and_parts (has_point (owned cut k) p) (not (is_boundary setup.shape p)) zoned in
          any_reached g done (shifted p o)
          (met (ap (λ w. list_any is_G (flags_or_none (cond w (Some (I ∷ B ∷ G ∷ [])) None)))
          e))
          (lies.window reach p o e (in_is (owned cut k) p z.0)
          (not_true (is_boundary setup.shape p) z.1) at)
      go false e =
          absurd (none_some (sym has ∙ ap (λ w. is_some (cond w (Some (I ∷ B ∷ G ∷ [])) None)) e))
  window_reached Interior Interior reach g done p o has met near zoned at = go (eqb reach 0) refl
    where
      go : (w : Bool) → eqb reach 0 ≡ w → IsReached cut k (cond g 3 done) (shifted p o)
      go true e =
          let z = and_parts (has_point (owned cut k) p) (not (is_boundary setup.shape p)) zoned in
          subst (IsReached cut k (cond g 3 done))
          (put_at setup.shape.dims reach p o (eqb-true reach 0 e) at)
          (own_reached (cond g 3 done) p (in_is (owned cut k) p z.0))
      go false e = absurd (none_some (sym has ∙ ap (λ w. is_some (cond w (Some (I ∷ [])) None)) e))
  window_reached Interior Boundary reach g done p o has met near zoned at = absurd cc
  window_reached Everywhere Everywhere reach g done p o has met near zoned at =
      go (eqb reach 0) refl
    where
      go : (w : Bool) → eqb reach 0 ≡ w → IsReached cut k (cond g 3 done) (shifted p o)
      go true e =
          subst (IsReached cut k (cond g 3 done))
          (put_at setup.shape.dims reach p o (eqb-true reach 0 e) at)
          (any_reached g done p (met
          (ap (λ w. list_any is_G (flags_or_none (cond w (Some (I ∷ B ∷ G ∷ [])) None))) e))
          near)
      go false e =
          absurd (none_some (sym has ∙ ap (λ w. is_some (cond w (Some (I ∷ B ∷ G ∷ [])) None)) e))
  window_reached Everywhere Interior reach g done p o has met near zoned at = absurd cc
  window_reached Everywhere Boundary reach g done p o has met near zoned at = absurd cc
  window_reached Boundary Interior reach g done p o has met near zoned at = go (eqb reach 0) refl
    where
      go : (w : Bool) → eqb reach 0 ≡ w
          → IsReached cut k (cond g 3 done) (shifted (source setup.shape p) o)
      go true e =
          subst (IsReached cut k (cond g 3 done))
          (put_at setup.shape.dims reach (source setup.shape p) o (eqb-true reach 0 e) at)
          (any_reached g done (source setup.shape p)
          (met (ap (λ w. list_any is_G (flags_or_none (cond w (Some (I ∷ G ∷ [])) None))) e))
          (lies.source_is p near zoned))
      go false e =
          absurd (none_some (sym has ∙ ap (λ w. is_some (cond w (Some (I ∷ G ∷ [])) None)) e))
  window_reached Boundary Everywhere reach g done p o has met near zoned at = absurd cc
  window_reached Boundary Boundary reach g done p o has met near zoned at = absurd cc

-- ---- tests over the points of a box

point_there : (b : Box3) (i : ℕ) (d : Point) → i < point_count b
    → get_or (points_in b) i d ≡ point_in b i
point_there b i d l = let z : 0 + i ≡ i = omega arith in
    get_or-map-range_with_len (point_in b) 0 (point_count b) i i d l z

pub all_places : {A : Type 0} (test : A → Bool) (xs : List A) → list_all test xs ≡ true
    → (i : ℕ) (d : A) → i < length xs → test (get_or xs i d) ≡ true
all_places test [] h i d l = absurd (omega arith)
all_places test (x ∷ xs) h zero d l = (and_parts (test x) (list_all test xs) h).0
all_places test (x ∷ xs) h (suc i) d l =
    all_places test xs (and_parts (test x) (list_all test xs) h).1 i d (omega arith)

pub test_at : (b : Box3) (test : Point → Bool) (p : Point) → list_all test (points_in b) ≡ true
    → IsIn b p → test p ≡ true
test_at b test p h inside =
    let l = index_below b p inside in
    let m = length-map-range_with_len (point_in b) 0 (point_count b) in
    ap test (sym (point_there b (index_in b p) p l ∙ point_at_index b p inside))
    ∙ all_places test (points_in b) h (index_in b p) p (subst (λ n. index_in b p < n) (sym m) l)

any_not_all : {A : Type 0} (f g : A → Bool) (xs : List A)
    → ((i : ℕ) (d : A) → i < length xs → f (get_or xs i d) ≡ not (g (get_or xs i d)))
    → list_any f xs ≡ not (list_all g xs)
any_not_all f g [] h = refl
any_not_all f g (x ∷ xs) h =
    ap (λ b. b || list_any f xs) (h 0 x (omega arith))
    ∙ ap (λ b. not (g x) || b) (any_not_all f g xs (λ i d l. h (suc i) d (omega arith)))
    ∙ go (g x) (list_all g xs)
  where
    go : (a b : Bool) → (not a || not b) ≡ not (a && b)
    go true b = refl
    go false b = refl

pub any_is : (b : Box3) (f g : Point → Bool) → ((p : Point) → IsIn b p → f p ≡ not (g p))
    → list_any f (points_in b) ≡ not (list_all g (points_in b))
any_is b f g h =
    let m = length-map-range_with_len (point_in b) 0 (point_count b) in
    any_not_all f g (points_in b) (λ i d l.
    let j : i < point_count b = subst (λ n. i < n) m l in
    ap f (point_there b i d j) ∙ h (point_in b i) (point_inside b i j)
    ∙ ap (λ p. not (g p)) (sym (point_there b i d j)))
