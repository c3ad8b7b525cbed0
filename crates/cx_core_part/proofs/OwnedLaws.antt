-- The points that parts own are those of the grid together.
use Rattle.std.proofs.Common.{◌≡◌, ℕ, zero, suc, ◌≤◌, ◌^◌, arith, true, ◌&&◌, refl, sym, ap, ◌∙◌, subst, List, [], ◌∷◌, length, filter}
use Rattle.std.proofs.lemmas.List.FromFn.{length-map-range_with_len}
use Rattle.cx_grid.specs.Boxes.{point_count, point_in, points_in, has_point}
use Rattle.cx_grid.specs.Grid.{whole}
use Rattle.cx_cut.specs.Cuts.{Parts, IsWhole, part_count, owned, local}
use Rattle.cx_field.proofs.PartPoints.{own_local}
use Rattle.law_parts.proofs.CountLaws.{sum_same}
use Rattle.law_parts.proofs.PointTotals.{each_once, within_box}
use Rattle.cx_rule.proofs.CutParts.{part_is}
use Rattle.law_network.specs.Machine.{sum_below}

all_kept : {A : Type 0} (xs : List A) → length (filter (λ x. true) xs) ≡ length xs
all_kept [] = refl
all_kept (x ∷ xs) = ap suc (all_kept xs)

ones : (n : ℕ) → sum_below n (λ i. 1) ≡ n
ones zero = refl
ones (suc n) = let rest = ones n in omega (arith, rest)

pub owned_points : (c : Parts) → IsWhole c
    → sum_below (part_count c) (λ k. point_count (owned c k)) ≡ point_count (whole c.shape)
owned_points c w =
    sum_same (part_count c) (λ k. point_count (owned c k))
    (λ k. length (filter (λ p. has_point (owned c k) p && true) (points_in (local c k))))
    (λ k l.
    sym (ones (point_count (owned c k)))
    ∙ sym (within_box (owned c k) (local c k) (λ p. true)
    (own_local c.shape (owned c k) (local c k) (part_is c w k l))))
    ∙ each_once c w.cut (λ k l. own_local c.shape (owned c k) (local c k) (part_is c w k l))
    (λ p. true)
    ∙ all_kept (points_in (whole c.shape))
    ∙ length-map-range_with_len (point_in (whole c.shape)) 0 (point_count (whole c.shape))

-- at most 2^24
pub owned_few : (c : Parts) → IsWhole c
    → sum_below (part_count c) (λ k. point_count (owned c k)) ≤ 2 ^ 24
owned_few c w = subst (λ n. n ≤ 2 ^ 24) (sym (owned_points c w)) w.shape.few
