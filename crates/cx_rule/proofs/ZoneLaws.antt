-- Zones: their points are local, and a zone of a region is that region.
use Rattle.std.proofs.Common.{◌≡◌, ℕ, ◌+◌, Bool, true, false, not, ◌&&◌, ◌||◌, eqb, refl, sym, ap, ◌∙◌, subst, arith, cond, ℤ, pos, neg_ℤ, ◌+ℤ◌, ◌-ℤ◌, int_le, int_lt, [], ◌∷◌, Some, None}
use Rattle.std.specs.Prelude.{is_some, nat_lt}
use Rattle.std.specs.Int.{int_min, int_max}
use Rattle.std.specs.Ordering.{int_eq}
use Rattle.std.proofs.lemmas.Bool.Decides.{Decides-int_eq}
use Rattle.std.proofs.lemmas.Int.{ints, clamps}
use Rattle.std.proofs.lemmas.Bool.{and_parts, and_from, or_parts, eqb-true}
use Rattle.std.proofs.Math.Bool.{and-true}
use Rattle.cx_grid.specs.declared.boxes.Point.{Point}
use Rattle.cx_grid.specs.declared.boxes.Box3.{Box3}
use Rattle.cx_grid.specs.declared.shapes.Shape.{Shape}
use Rattle.cx_grid.specs.Boxes.{shifted, IsOn, IsIn, is_on, has_point}
use Rattle.cx_grid.specs.Grid.{is_periodic, in_face, is_boundary, source}
use Rattle.cx_grid.specs.Windows.{reach_box}
use Rattle.cx_grid.proofs.Places.{same_point}
use Rattle.cx_grid.proofs.Points.{in_is, in_from, on_is, on_from}
use Rattle.cx_plan.specs.declared.item.Region.{Region}
use Rattle.cx_plan.specs.declared.item.Region.TheVariants.{Interior, Boundary, Everywhere}
use Rattle.cx_plan.specs.declared.flag.Flag.TheVariants.{I, B, G}
use Rattle.cx_plan.specs.Regions.{within_ghosts, cell_needs}
use Rattle.cx_rule.specs.Sweeps.{in_region, window_point}
use Rattle.cx_rule.specs.Patches.{IsPart}
use Rattle.cx_rule.specs.Zones.{inner, nothing, in_zone, zone_of}
use Rattle.cx_rule.specs.declared.zone.Zone.{Zone}
use Rattle.cx_rule.proofs.PartPoints.{own_local, window_local, source_local}

-- ---- boxes

-- two answers that come to the same
same_answer : (a b : Bool) → (a ≡ true → b ≡ true) → (b ≡ true → a ≡ true) → a ≡ b
same_answer true b f g = sym (f refl)
same_answer false true f g = g refl
same_answer false false f g = refl

not_true : (b : Bool) → not b ≡ true → b ≡ false
not_true true e = absurd cc
not_true false e = refl

not_false : (b : Bool) → b ≡ false → not b ≡ true
not_false b e = rw e refl

none_some : true ≡ false → ⊥
none_some e = absurd cc

-- the coordinates of a span that lie in no face
inner_on : (periodic : Bool) (n g low high c : ℤ)
    → is_on (cond periodic low (int_max low g)) (cond periodic high (int_min high (n -ℤ g))) c
    ≡ (is_on low high c && not (not periodic && (int_lt c g || int_le (n -ℤ g) c)))
inner_on true n g low high c = sym (and-true (is_on low high c))
inner_on false n g low high c =
    same_answer _ _
    (λ e.
    let h = on_is (int_max low g) (int_min high (n -ℤ g)) c e in
    let inside : is_on low high c ≡ true =
    on_from low high c
    (record {
      from = omega (arith, ints, clamps, h.from);
      below = omega (arith, ints, clamps, h.below);
    }) in
    let face : (int_lt c g || int_le (n -ℤ g) c) ≡ false =
    off (record {
      from = omega (arith, ints, clamps, h.from);
      below = omega (arith, ints, clamps, h.below);
    }) in
    and_from (is_on low high c) (not (int_lt c g || int_le (n -ℤ g) c)) inside
    (not_false (int_lt c g || int_le (n -ℤ g) c) face))
    (λ e.
    let u = and_parts (is_on low high c) (not (int_lt c g || int_le (n -ℤ g) c)) e in
    let h = on_is low high c u.0 in
    let f = or_parts (int_lt c g) (int_le (n -ℤ g) c)
    (not_true (int_lt c g || int_le (n -ℤ g) c) u.1) in
    on_from (int_max low g) (int_min high (n -ℤ g)) c
    (record {
      from = omega (arith, ints, clamps, h.from, f.0);
      below = omega (arith, ints, clamps, h.below, f.1);
    }))
  where
    off : IsOn g (n -ℤ g) c → (int_lt c g || int_le (n -ℤ g) c) ≡ false
    off h =
        let a : int_lt c g ≡ false = grind (arith, ints, h.from) in
        let b : int_le (n -ℤ g) c ≡ false = grind (arith, ints, h.below) in
        rw (a, b) refl

-- the order of tests does not matter
sorted : (a b c x y z : Bool)
    → ((a && not x) && (b && not y) && (c && not z)) ≡ ((a && b && c) && not (x || (y || z)))
sorted true true true true y z = refl
sorted true true true false true z = refl
sorted true true true false false true = refl
sorted true true true false false false = refl
sorted true true false true y z = refl
sorted true true false false true z = refl
sorted true true false false false z = refl
sorted true false c true y z = refl
sorted true false c false y z = refl
sorted false b c x y z = refl

-- the points of a box that are no boundary points
pub inner_is : (s : Shape) (b : Box3) (p : Point)
    → has_point (inner s b) p ≡ (has_point b p && not (is_boundary s p))
inner_is s b p =
    ap (λ a. a && is_on (inner s b).low.y (inner s b).high.y p.y
    && is_on (inner s b).low.z (inner s b).high.z p.z)
    (inner_on (is_periodic s 0) s.n.x s.ghost_.x b.low.x b.high.x p.x)
    ∙ ap (λ a. (is_on b.low.x b.high.x p.x && not (in_face s 0 p.x)) && a
    && is_on (inner s b).low.z (inner s b).high.z p.z)
    (inner_on (is_periodic s 1) s.n.y s.ghost_.y b.low.y b.high.y p.y)
    ∙ ap (λ a. (is_on b.low.x b.high.x p.x && not (in_face s 0 p.x))
    && (is_on b.low.y b.high.y p.y && not (in_face s 1 p.y)) && a)
    (inner_on (is_periodic s 2) s.n.z s.ghost_.z b.low.z b.high.z p.z)
    ∙ sorted (is_on b.low.x b.high.x p.x) (is_on b.low.y b.high.y p.y) (is_on b.low.z b.high.z p.z)
    (in_face s 0 p.x) (in_face s 1 p.y) (in_face s 2 p.z)

pub nothing_is : (b : Box3) (p : Point) → has_point (nothing b) p ≡ false
nothing_is b p = go (has_point (nothing b) p) refl
  where
    go : (t : Bool) → has_point (nothing b) p ≡ t → has_point (nothing b) p ≡ false
    go false e = e
    go true e = let h = in_is (nothing b) p e in absurd (omega (arith, ints, h.x.from, h.x.below))

-- ---- zones

-- the points of a region that a part computes: of the interior those that it owns, else all that it
-- holds
abbrev pub in_part : Shape → Box3 → Region → Point → Bool
in_part s owned Interior p = has_point owned p && in_region s Interior p
in_part s owned Boundary p = in_region s Boundary p
in_part s owned Everywhere p = true

-- a zone holds just those of the local points
pub zone_same : (s : Shape) (owned local : Box3) (region : Region) (p : Point) → IsIn local p
    → in_zone (zone_of s owned local region) p ≡ in_part s owned region p
zone_same s owned local Interior p h =
    ap (λ a. has_point (inner s owned) p && not a) (nothing_is owned p)
    ∙ and-true (has_point (inner s owned) p) ∙ inner_is s owned p
zone_same s owned local Boundary p h =
    ap (λ a. a && not (has_point (inner s local) p)) (in_from local p h)
    ∙ ap not (inner_is s local p)
    ∙ ap (λ a. not (a && not (is_boundary s p))) (in_from local p h)
    ∙ twice (is_boundary s p)
  where
    twice : (b : Bool) → not (not b) ≡ b
    twice true = refl
    twice false = refl
zone_same s owned local Everywhere p h =
    ap (λ a. a && not (has_point (nothing local) p)) (in_from local p h)
    ∙ ap not (nothing_is local p)

-- an own interior point
pub record IsOwnInner (s : Shape) (owned : Box3) (p : Point) : Type 0 where
  pub own : IsIn owned p
  pub inner : is_boundary s p ≡ false

pub inner_parts : (s : Shape) (owned local : Box3) (p : Point)
    → in_zone (zone_of s owned local Interior) p ≡ true → IsOwnInner s owned p
inner_parts s owned local p e =
    let a = and_parts (has_point (inner s owned) p) (not (has_point (nothing owned) p)) e in
    let b = and_parts (has_point owned p) (not (is_boundary s p)) (sym (inner_is s owned p) ∙ a.0)
    in
    record { own = in_is owned p b.0; inner = not_true (is_boundary s p) b.1 }

-- a zone's points are local
pub zone_local : (s : Shape) (owned local : Box3) (region : Region) (p : Point)
    → IsPart s owned local
    → in_zone (zone_of s owned local region) p ≡ true → IsIn local p
zone_local s owned local Interior p part e =
    own_local s owned local part p (inner_parts s owned local p e).own
zone_local s owned local Boundary p part e =
    in_is local p (and_parts (has_point local p) (not (has_point (inner s local) p)) e).0
zone_local s owned local Everywhere p part e =
    in_is local p (and_parts (has_point local p) (not (has_point (nothing local) p)) e).0

-- ---- windows

zero_side : (there : Bool) (c : ℤ)
    → IsOn (cond there (neg_ℤ (pos 0)) (pos 0)) (cond there (pos (0 + 1)) (pos 1)) c → c ≡ pos 0
zero_side true c h = omega (arith, ints, h.from, h.below)
zero_side false c h = omega (arith, ints, h.from, h.below)

no_shift : (c o : ℤ) → o ≡ pos 0 → c +ℤ o ≡ c
no_shift c o e = omega (arith, ints, e)

-- an offset of reach 0 moves nothing
stays : (dims : ℕ) (p o : Point) → IsIn (reach_box dims 0) o → shifted p o ≡ p
stays dims p o h =
    same_point (no_shift p.x o.x (zero_side (nat_lt 0 dims) o.x h.x))
    (no_shift p.y o.y (zero_side (nat_lt 1 dims) o.y h.y))
    (no_shift p.z o.z (zero_side (nat_lt 2 dims) o.z h.z))

stays_in : (b : Box3) (dims reach : ℕ) (p o : Point) → eqb reach 0 ≡ true → IsIn b p
    → IsIn (reach_box dims reach) o → IsIn b (shifted p o)
stays_in b dims reach p o e h on =
    subst (IsIn b)
    (sym (stays dims p o (subst (λ n. IsIn (reach_box dims n) o) (eqb-true reach 0 e) on))) h

-- a test that must hold for there to be an answer
holds_if : {A : Type 0} (b : Bool) (x : A) → is_some (cond b (Some x) None) ≡ true → b ≡ true
holds_if true x e = refl
holds_if false x e = absurd cc

-- what a cell's rule sees of a read in the table is local
pub cell_near : (s : Shape) (owned local : Box3) (region of : Region) (reach : ℕ) (p o : Point)
    → IsPart s owned local
    → is_some (cell_needs s region of reach) ≡ true
    → in_zone (zone_of s owned local region) p ≡ true → IsIn (reach_box s.dims reach) o
    → IsIn local (shifted (window_point s region p) o)
cell_near s owned local Interior Everywhere reach p o part has zone on =
    let h = inner_parts s owned local p zone in
    window_local s owned local part reach p o
    (holds_if (within_ghosts s reach) (I ∷ B ∷ G ∷ []) has) h.own h.inner on
cell_near s owned local Interior Interior reach p o part has zone on =
    stays_in local s.dims reach p o (holds_if (eqb reach 0) (I ∷ []) has)
    (zone_local s owned local Interior p part zone) on
cell_near s owned local Interior Boundary reach p o part has zone on = absurd cc
cell_near s owned local Everywhere Everywhere reach p o part has zone on =
    stays_in local s.dims reach p o (holds_if (eqb reach 0) (I ∷ B ∷ G ∷ []) has)
    (zone_local s owned local Everywhere p part zone) on
cell_near s owned local Everywhere Interior reach p o part has zone on = absurd cc
cell_near s owned local Everywhere Boundary reach p o part has zone on = absurd cc
cell_near s owned local Boundary Interior reach p o part has zone on =
    stays_in local s.dims reach (source s p) o (holds_if (eqb reach 0) (I ∷ G ∷ []) has)
    (source_local s owned local part p (zone_local s owned local Boundary p part zone)) on
cell_near s owned local Boundary Everywhere reach p o part has zone on = absurd cc
cell_near s owned local Boundary Boundary reach p o part has zone on = absurd cc

-- ---- zones without points

equal_from : (a b : ℤ) → int_eq a b ≡ true → a ≡ b
equal_from a b e = (Decides-int_eq a b).0 e

-- a hole that is the whole box leaves no point
pub none_within : (z : Zone)
    → ((int_eq z.all.low.x z.hole.low.x
    && (int_eq z.all.low.y z.hole.low.y && int_eq z.all.low.z z.hole.low.z))
    && (int_eq z.all.high.x z.hole.high.x
    && (int_eq z.all.high.y z.hole.high.y && int_eq z.all.high.z z.hole.high.z))) ≡ true
    → (p : Point) → in_zone z p ≡ false
none_within z e p =
    let t = and_parts _ _ e in
    let l = and_parts _ _ t.0 in
    let m = and_parts _ _ l.1 in
    let h = and_parts _ _ t.1 in
    let n = and_parts _ _ h.1 in
    let low : z.all.low ≡ z.hole.low =
    same_point (equal_from z.all.low.x z.hole.low.x l.0) (equal_from z.all.low.y z.hole.low.y m.0)
    (equal_from z.all.low.z z.hole.low.z m.1)
    in
    let high : z.all.high ≡ z.hole.high =
    same_point (equal_from z.all.high.x z.hole.high.x h.0)
    (equal_from z.all.high.y z.hole.high.y n.0) (equal_from z.all.high.z z.hole.high.z n.1)
    in
    ap (λ q. has_point (record { low = q; high = z.all.high }) p && not (has_point z.hole p)) low
    ∙ ap (λ q. has_point (record { low = z.hole.low; high = q }) p && not (has_point z.hole p)) high
    ∙ apart (has_point z.hole p)
  where
    apart : (b : Bool) → (b && not b) ≡ false
    apart true = refl
    apart false = refl
