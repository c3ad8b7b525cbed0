-- Turn after turn of a run whose parts wait.
use Rattle.std.proofs.Common.{◌≡◌, ◌≢◌, ℕ, Bool, true, false, List, refl}
use Rattle.std.specs.Prelude.{not, slice_get, Option}
use Rattle.cx_plan.specs.declared.job.Job.{Job}
use Rattle.cx_plan.specs.Setups.{setup_of}
use Rattle.cx_rule.specs.Routine.{Rule}
use Rattle.cx_rule.specs.States.{State}
use Rattle.cx_cut.specs.Cuts.{Parts}
use Rattle.cx_cut.specs.Faults.{parts_of}
use Rattle.cx_chk.specs.declared.checkpoint.Checkpoint.{Checkpoint}
use Rattle.cx_turns.specs.declared.turns.Turns.{Ghosts as TurnsGhosts}
use Rattle.law_parts.specs.Beginnings.{Beginning, IsBeginning, run_of}
use Rattle.law_parts.specs.Runs.{Run}
use Rattle.law_parts.specs.Totals.{undivided_from}
use Rattle.cx_core_part.specs.Jobs.{IsRunOf}
use Rattle.cx_core_part.proofs.MoveLaws.{is_run}
use Rattle.cx_core.specs.Cores.{Cores, ahead_in, enabled_in}
use Rattle.cx_core.specs.Starts.{begins_in}
use Rattle.cx_core.specs.Steps.{Counts, RisesWithin, Standing, event_costs}
use Rattle.cx_core_events.specs.Events.{events}
use Rattle.cx_run_loop.specs.CoresWait.{CoresWait, StepsBelow}
use Rattle.cx_run_loop.specs.Going.{Setting, Place, IsDriving}
use Rattle.cx_run_loop.specs.Sums.{carried_in, work_in}
use Rattle.cx_run_loop.specs.Turning.{Picks}
use Rattle.cx_run_loop.specs.Waiting.{IsWaiting, StaysBelow, Waits, WaitsOn}
use Rattle.cx_run_loop.specs.declared.turn.Advance.{Advance}
use Rattle.cx_run_loop.specs.declared.turn.Advance.TheVariants.{More, Saved}
use Rattle.cx_run_loop.proofs.PickLaws.{passes_there}
use Rattle.cx_run_loop.proofs.WithinLaws.{stay_points, stay_values, step_points, step_values}

-- ---- what is picked doesn't lie ahead

pub picks_waiting : {T : Type 0} (t : TurnsGhosts T) (waits : Bool) (core : Cores) (turns : T)
    (k : ℕ) (turns_after : T) → waits ≡ true → Picks t waits core turns k turns_after
    → ahead_in core k ≡ false
picks_waiting t true core turns k turns_after same (i, picks, there) =
    not_true (ahead_in core k)
    (passes_there (λ j. not (ahead_in core j)) (enabled_in core) i k there)
  where
    not_true : (b : Bool) → not b ≡ true → b ≡ false
    not_true true e = absurd cc
    not_true false e = refl
picks_waiting t false core turns k turns_after same picks = absurd cc

-- ---- what a step counts

module _ (tells : Type 0) (job : Job) (rules : List Rule)
    (law : (b : Beginning) → IsBeginning (setup_of job) b → CoresWait tells job rules b)
    (was : Standing tells) (k : ℕ) (fails : ahead_in was.core k ≡ false) where
  abbrev cost : Beginning → ℕ → ℕ
  cost b i = event_costs (run_of job rules b) was.core.pace
      (slice_get (events was.core.pace) k) i

  abbrev points_in : Beginning → (State → Parts) → ℕ
  points_in b again = work_in (setup_of job) again (parts_of job.shape job.cut)
      (undivided_from (setup_of job) rules b).entries

  abbrev values_in : Beginning → (State → Parts) → ℕ
  values_in b again = carried_in (setup_of job) again (parts_of job.shape job.cut)
      (undivided_from (setup_of job) rules b).entries

  pub steps_below : (now : Counts)
      → ((r : Run) → IsRunOf job r
      → RisesWithin (event_costs r was.core.pace (slice_get (events was.core.pace) k)) was.now now)
      → StepsBelow tells job rules was now
  steps_below now rises t b begins first at together unsaved last goes again =
      let spends = (law b begins).below t first k was at fails together unsaved last goes again in
      let rose = rises (run_of job rules b) (is_run job rules b) in
      record {
        points = step_points first.points (at.world.meter 0) (cost b 0) (points_in b again)
            was.now.points now.points at.points rose.points.most spends.points;
        values = step_values first.values (at.world.meter 1) (cost b 1) (values_in b again)
            was.now.values now.values at.values rose.values.most spends.values;
      }

  pub below_there : StepsBelow tells job rules was was.now
  below_there t b begins first at together unsaved last goes again =
      let spends = (law b begins).below t first k was at fails together unsaved last goes again in
      record {
        points = stay_points first.points (at.world.meter 0) (cost b 0) (points_in b again)
            was.now.points at.points spends.points;
        values = stay_values first.values (at.world.meter 1) (cost b 1) (values_in b again)
            was.now.values at.values spends.values;
      }

-- a run that is driven
pub driven_below : (s : Setting) (was : Place s) (now : Counts)
    → StepsBelow s.wire s.job s.rules was.is now → StaysBelow s was now
driven_below s was now steps t found first x w last goes again =
    steps t (begins_in (setup_of s.job) found) x.begins first x.at w.together (w.unsaved t) last
    goes again

-- ---- one after another

pub more_saves_not : More ≢ Saved
more_saves_not same = absurd cc

waiting_on : (s : Setting) (found : Option Checkpoint) (first : Counts) (was mid : Place s)
    (x : IsDriving s found first was) (a : Waits s found first was mid x More)
    → IsWaiting s found first was x → IsWaiting s found first mid a.moves.there
waiting_on s found first was mid x a w = record {
  together = a.together w.together;
  unsaved = λ t. a.unsaved more_saves_not t (w.unsaved t);
}

pub waits_none : (s : Setting) (was : Place s) → WaitsOn s was was More
waits_none s was found first x = record {
  moves = record { there = x; driven = λ d t y. y };
  together = λ t. t;
  unsaved = λ other t u. u;
  gathers = λ same. absurd (more_saves_not same);
}

pub waits_more : (s : Setting) (was mid is : Place s) (came : Advance) → WaitsOn s was mid More
    → WaitsOn s mid is came → WaitsOn s was is came
waits_more s was mid is came one two found first x =
    let a : Waits s found first was mid x More = one found first x in
    let b : Waits s found first mid is a.moves.there came = two found first a.moves.there in
    record {
      moves = record {
        there = b.moves.there;
        driven = λ d t y. b.moves.driven d t (a.moves.driven d t y);
      };
      together = λ t. b.together (a.together t);
      unsaved = λ other t u. b.unsaved other t (a.unsaved more_saves_not t u);
      gathers = λ same w. b.gathers same (waiting_on s found first was mid x a w);
    }

pub below_more : (s : Setting) (was mid : Place s) (now : Counts) → WaitsOn s was mid More
    → StaysBelow s mid now → StaysBelow s was now
below_more s was mid now one below t found first x w last goes again =
    let a : Waits s found first was mid x More = one found first x in
    below t found first a.moves.there (waiting_on s found first was mid x a w) last goes again
