-- Sums of what is posted and taken in one direction of an exchange of the undivided state.
use Rattle.std.specs.Prelude.{ℕ, List, Option, Some, None, is_some, cond}
use Rattle.cx_grid.specs.Boxes.{numbers_in}
use Rattle.cx_plan.specs.declared.variable.VarId.{VarId}
use Rattle.cx_model.specs.States.{State}
use Rattle.cx_model.specs.Turns.{values_of}
use Rattle.cx_grid.specs.declared.shapes.Side.{Side}
use Rattle.cx_cut.specs.Cuts.{face_of}
use Rattle.cx_cut.specs.Neighbours.{partner}
use Rattle.law_parts.specs.Runs.{Run, cut_of}
use Rattle.law_parts.specs.Work.{over_variables}
use Rattle.cx_cut.specs.Exchange.{other}
use Rattle.cx_text.specs.Numbers.{word_sum}

-- the sum of the numbers of a face
abbrev pub face_sum : Run → State → List VarId → ℕ → ℕ → Side → ℕ
face_sum r state vars d k side =
    over_variables (λ v. word_sum
    (numbers_in (face_of (cut_of r) k d side) (values_of r.setup state v 0))) vars

-- what a part posts at a side, and what it takes there: the other side of its partner
abbrev pub posted_sum : Run → State → List VarId → ℕ → ℕ → Side → ℕ
posted_sum r state vars d k side =
    cond (is_some (partner (cut_of r) k d side)) (face_sum r state vars d k side) 0

abbrev pub from_partner : Option ℕ → (ℕ → ℕ) → ℕ
from_partner None f = 0
from_partner (Some j) f = f j

abbrev pub taken_sum : Run → State → List VarId → ℕ → ℕ → Side → ℕ
taken_sum r state vars d k side =
    from_partner (partner (cut_of r) k d side) (λ j. face_sum r state vars d j (other side))
