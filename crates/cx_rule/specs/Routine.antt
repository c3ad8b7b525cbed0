-- What a routine computes, and what a call of it asks.
use Rattle.std.specs.Prelude.{◌≡◌, ◌<◌, ℕ, ℤ, List, [], ◌∷◌, length, map, Option, None, slice_index_or}
use Rattle.std.proofs.Common.{zero, suc, arith, ap, sym}
use Rattle.cx_grid.specs.Boxes.{IsIn}
use Rattle.cx_grid.specs.Grid.{IsShape, whole}
use Rattle.cx_rule.specs.Seen.{Seen, volumes}
use Rattle.cx_rule.specs.declared.place.Place.{Place}
use Rattle.cx_rule.specs.declared.spec.Spec.{Spec}
use Rattle.cx_rule.specs.declared.spec.Want.{Want}

-- what a routine computes: the numbers of a window and a place, one for each write, or none
abbrev pub Rule : Type 0
Rule = Seen → Place → Option (List ℤ)

abbrev pub reach_of : Want → ℕ
reach_of want = want.reach

-- the place is one of the grid; the window has the routine's reads, the place its parameters, the
-- cells its writes
pub record Fits (s : Spec) (w : Seen) (at : Place) (out : List ℤ) : Type 0 where
  pub shape : IsShape at.shape
  pub point : IsIn (whole at.shape) at.at
  pub dims : w.dims ≡ at.shape.dims
  pub reads : w.reaches ≡ map reach_of s.reads
  pub values : length w.values ≡ volumes w.dims w.reaches
  pub params : length at.params ≡ length s.params
  pub writes : length out ≡ length s.writes

-- the rule of the object with this number, and past the last one a rule that gives no numbers
abbrev pub rule_at : List Rule → ℕ → Rule
rule_at rules k = slice_index_or rules k (λ w at. None)

-- what the object with this number has, from the list of what all objects have
pub picked : {X Y : Type 0} (f : X → Y) (xs : List X) (k : ℕ) (r : X) (d : Y)
    → k < length xs → r ≡ slice_index_or xs k r → slice_index_or (map f xs) k d ≡ f r
picked f [] k r d h e = absurd (omega arith)
picked f (x ∷ xs) zero r d h e = ap f (sym e)
picked f (x ∷ xs) (suc k) r d h e = picked f xs k r d (omega arith) e
