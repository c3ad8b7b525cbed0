-- The run of a job that isn't balanced counts what its entries always do.
use Rattle.std.proofs.Common.{◌≡◌, ◌+◌, ℕ, false, List, sym, ◌∙◌, ap}
use Rattle.std.proofs.Math.Path.{fun_ext}
use Rattle.std.specs.Prelude.{◌%◌, ◌^◌, Option, Some, None}
use Rattle.cx_plan.specs.Setups.{Setup, setup_of}
use Rattle.cx_rule.specs.Meter.{raised}
use Rattle.cx_rule.specs.States.{State}
use Rattle.cx_model.specs.Runs.{no_lengths}
use Rattle.cx_model.specs.Traces.{Entry}
use Rattle.cx_cut.specs.Cuts.{Parts}
use Rattle.cx_cut.specs.Faults.{parts_of}
use Rattle.cx_wire.specs.Received.{counted}
use Rattle.law_parts.specs.Work.{work, carried_count, total_sum}
use Rattle.law_course.specs.Beginnings.{entries_from}
use Rattle.law_course.specs.Courses.{checkpoint_of}
use Rattle.cx_run_loop.specs.Drives.{Drive, HasWorked, HasWorkedByOne, IsFirstCut, again_in, cut_in}
use Rattle.cx_run_loop.specs.Sums.{IsOne, carried_in, sum_in, work_in}
use Rattle.cx_run_loop.proofs.RecutLaws.{next_unbalanced}
use Rattle.cx_run_loop.proofs.SumLaws.{sums_add}

module _ (d : Drive) (one : d.job.balance ≡ false) where
  again_is : (state : State) → again_in d state ≡ cut_in d
  again_is state =
      ap (parts_of d.job.shape)
      (sym (next_unbalanced d.specs d.job
      (checkpoint_of (setup_of d.job) d.job.key 0 state no_lengths) one))

  all_cuts : again_in d ≡ (λ state. cut_in d)
  all_cuts = fun_ext again_is

  first_is : (start : Option ℕ) (cut : Parts) → IsFirstCut d.job d.rules d.specs start cut
      → cut ≡ cut_in d
  first_is None cut is = is
  first_is (Some c) cut is = is.3 ∙ again_is is.0

  counts : (all : Setup → (State → Parts) → Parts → List Entry → ℕ)
      → (plain : Setup → Parts → List Entry → ℕ) → IsOne all plain (setup_of d.job)
      → (cut : Parts) (es : List Entry) → cut ≡ cut_in d
      → all (setup_of d.job) (again_in d) cut es ≡ plain (setup_of d.job) (cut_in d) es
  counts all plain law cut es is =
      ap (λ (f : State → Parts). all (setup_of d.job) f cut es) all_cuts
      ∙ ap (λ (q : Parts). all (setup_of d.job) (λ state. cut_in d) q es) is
      ∙ law (cut_in d) es

  pub worked_by_one : (h : HasWorked d)
      → HasWorkedByOne d (entries_from (setup_of d.job) d.rules h.start)
  worked_by_one h =
      let is : h.cut ≡ cut_in d = first_is h.start h.cut h.cut_is in
      let laws = sums_add (setup_of d.job) in
      record {
        points = h.done.points ∙ ap (λ (n : ℕ). raised d.meter.old n)
            (counts work_in work laws.one_work h.cut
            (entries_from (setup_of d.job) d.rules h.start) is);
        values = h.done.values ∙ ap (λ (n : ℕ). counted d.wire.old.received n)
            (counts carried_in carried_count laws.one_count h.cut
            (entries_from (setup_of d.job) d.rules h.start) is);
        sum = h.done.sum ∙ ap (λ (n : ℕ). (d.wire.old.sum + n) % 2 ^ 64)
            (counts sum_in total_sum laws.one_sum h.cut
            (entries_from (setup_of d.job) d.rules h.start) is);
        none_left = h.done.none_left;
      }
