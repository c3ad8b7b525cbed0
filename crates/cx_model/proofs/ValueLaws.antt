-- The laws of values, together.
use Rattle.std.proofs.Common.{ℕ, subst, List, ◌∷◌}
use Rattle.std.specs.List.{All}
use Rattle.cx_plan.specs.declared.job.Job.{Job}
use Rattle.cx_plan.specs.Setups.{Setup, setup_of}
use Rattle.cx_plan.specs.Lookups.{item}
use Rattle.cx_plan.specs.Steering.{item_at}
use Rattle.cx_plan.specs.Regions.{cleared}
use Rattle.cx_plan.specs.Paths.{Sound}
use Rattle.cx_plan.specs.Whole.{IsItem}
use Rattle.cx_rule.specs.Routine.{Rule}
use Rattle.cx_rule.specs.States.{State}
use Rattle.cx_model.specs.States.{start}
use Rattle.cx_model.specs.Stages.{stages_after}
use Rattle.cx_model.specs.Traces.{Saved}
use Rattle.cx_model.specs.Runs.{run_stages, Lengths, Reaches}
use Rattle.cx_model.specs.Uses.{entries_leave}
use Rattle.cx_model.specs.Agreement.{IsSettled}
use Rattle.cx_model.specs.Values.{StepsAgree, NeedsOnlyTold}
use Rattle.cx_model.proofs.Guides.{EntriesMet}
use Rattle.cx_model.proofs.RunGuides.{met-run}
use Rattle.cx_model.proofs.CellLaws.{window-told, scalar-told, turn-agrees}
use Rattle.cx_model.proofs.ActLaws.{agree-exchanged, agree-rotated, tested-same, text-same}
use Rattle.cx_model.proofs.RunLaws.{alike-continued, same-run, entries-met-behind}
use Rattle.cx_model.proofs.ReadyLaws.{ready-item, ready-at}
use Rattle.cx_model.proofs.CheckpointLaws.{comes-run}

pub steps-agree : (job : Job) (rules : List Rule) → IsSettled (setup_of job)
    → All (IsItem job) job.items → StepsAgree (setup_of job) rules
steps-agree job rules settled items =
    record {
      turns = λ k iteration flags a b below shaped agree met.
          turn-agrees (setup_of job) rules flags (item_at (setup_of job) k iteration)
          a b iteration settled (ready-at (setup_of job) k iteration
          (ready-item job k items below shaped)) agree met;
      windows = λ k flags r below shaped kind one grid met p h here.
          window-told (setup_of job) flags (item (setup_of job) k) r p settled
          (ready-item job k items below shaped) kind one grid met h here;
      scalars = λ k flags r below shaped one scalar met.
          scalar-told (setup_of job) flags (item (setup_of job) k) r
          (ready-item job k items below shaped) one scalar met;
      exchanges = λ vars path flags a b agree. agree-exchanged (setup_of job) flags vars a b agree;
      rotations = λ flags a b agree. agree-rotated (setup_of job) flags a b settled.one_level agree;
      tests = λ v path flags a b scalar agree met.
          tested-same (setup_of job) flags v path a b scalar agree met;
      texts = λ v iteration flags a b agree met.
          text-same (setup_of job) flags iteration v a b agree met;
    }

-- each need of a run that is continued from a checkpoint place is met by the flags left there
pub met-behind : (setup : Setup) (rules : List Rule) (c : ℕ) (state : State) (so_far : Lengths)
    → Sound setup → (r : Reaches setup rules c state so_far)
    → EntriesMet setup (entries_leave setup r.earlier cleared)
    (run_stages setup rules (stages_after setup c) state).entries
met-behind setup rules c state so_far sound r =
    let all = subst (EntriesMet setup cleared) (comes-run setup rules c state so_far r).full
    (met-run setup rules (start setup) sound) in
    (entries-met-behind setup r.earlier
    (Saved c state ∷ (run_stages setup rules (stages_after setup c) state).entries)
    cleared all).1

pub needs-only-told : (setup : Setup) (rules : List Rule) → IsSettled setup → Sound setup
    → NeedsOnlyTold setup rules
needs-only-told setup rules settled sound c state other so_far r agree =
    let flags = entries_leave setup r.earlier cleared in
    same-run setup flags so_far (run_stages setup rules (stages_after setup c) state)
    (run_stages setup rules (stages_after setup c) other)
    (alike-continued setup rules c settled flags state other agree
    (met-behind setup rules c state so_far sound r))
