-- What the laws of a run in parts say of one run.
use Rattle.std.specs.Prelude.{ℕ, ◌<◌, ◌≡◌, true, length, AllPairs}
use Rattle.cx_plan.specs.declared.variable.VarId.{VarId}
use Rattle.cx_plan.specs.Regions.{is_among}
use Rattle.cx_model.specs.States.{IsState}
use Rattle.cx_model.specs.Traces.{Trace}
use Rattle.cx_cut.specs.Cuts.{IsCut}
use Rattle.cx_flat.specs.declared.op.Op.TheVariants.{Piece}
use Rattle.cx_flat.specs.Code.{op_at, code}
use Rattle.cx_flat.specs.Ways.{WaysEnd}
use Rattle.cx_core_place.specs.Steps.{PlacesFit}
use Rattle.cx_core_events.specs.Shows.{PaceTells}
use Rattle.law_parts.specs.Laws.{StepsKeep}
use Rattle.law_parts.specs.Runs.{Run, cut_of, parts_in, undivided}
use Rattle.law_reached.specs.Endings.{EndIsTheRuns}
use Rattle.law_reached.specs.Going.{StatesGoOn, KeepsWay}
use Rattle.law_reached.specs.Sums.{DoneMatches, TakenAddsUp}
use Rattle.law_reached.specs.Works.{BookIsLengths, OneWay, WorksInOrder}

pub record RunLaws (tells : Type 0) (r : Run) (trace : Trace) : Type 0 where
  pub cut : IsCut (cut_of r)
  pub some_part : 0 < parts_in r
  pub ways : WaysEnd r.setup
  pub places : PlacesFit r.setup
  pub states : (n : ℕ) → IsState r.setup (undivided r n).state
  -- what is written as output is a variable that the job names for it
  pub outputs : (pc : ℕ) (v : VarId) → op_at (code r.setup) pc ≡ Piece v
      → (v.0 < length r.setup.vars) × (is_among v r.setup.out_vars ≡ true)
  pub outputs_rise : AllPairs (λ (a b : VarId). a.0 < b.0) r.setup.out_vars
  pub steps : StepsKeep tells r
  pub pace : PaceTells tells r
  pub goes_on : StatesGoOn tells r
  pub way_kept : KeepsWay tells r
  pub way : OneWay tells r
  pub works : WorksInOrder tells r trace
  pub book_is : BookIsLengths tells r
  pub ends : EndIsTheRuns tells r trace
  pub done : DoneMatches tells r trace
  pub taken : TakenAddsUp tells r
