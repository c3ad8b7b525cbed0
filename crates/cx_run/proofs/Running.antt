-- What comes of a command with a job.
use Rattle.std.proofs.Common.{◌≡◌, ◌≢◌, ◌⊎◌, ◌∙◌, ℕ, ◌≤◌, arith, codes, Option, Some, None, List, Result, Ok, Err, IfOk, inl, inr, refl, sym, subst}
use Rattle.std.specs.Prelude.{OnOk}
use Rattle.cx_text.specs.declared.memory.Memory.{Memory}
use Rattle.cx_disk.specs.Disk.{IsNamed, IsView}
use Rattle.cx_grid.specs.Grid.{HasInterior}
use Rattle.cx_cut.specs.Cuts.{part_count}
use Rattle.cx_cut.specs.Faults.{parts_of, cut_fault}
use Rattle.cx_cut.proofs.FaultLaws.{is_whole}
use Rattle.cx_plan.specs.Whole.{IsWhole}
use Rattle.cx_plan.specs.Setups.{setup_of}
use Rattle.cx_outputs.specs.Names.{output_count, output_names}
use Rattle.cx_plan.specs.declared.job.Job.{Job}
use Rattle.cx_plan.specs.declared.variable.VarId.{VarId}
use Rattle.cx_rule.specs.States.{scalar_of}
use Rattle.cx_rule.specs.declared.spec.Spec.{Spec}
use Rattle.cx_run_made.specs.Summaries.{live_variable}
use Rattle.cx_run_made.proofs.ScalarLaws.{named_is_stored}
use Rattle.cx_model.specs.Runs.{undivided_run}
use Rattle.cx_model.specs.Traces.{Trace}
use Rattle.cx_model.specs.declared.ends.End.{End}
use Rattle.cx_model.specs.declared.ends.End.TheVariants as ends
use Rattle.cx_chk.specs.declared.checkpoint.Checkpoint.{Checkpoint}
use Rattle.cx_keep.specs.Trails.{total}
use Rattle.cx_keep.specs.declared.fault.BeginFault.{BeginFault}
use Rattle.cx_keep.specs.declared.fault.BeginFault.TheVariants as begin_faults
use Rattle.law_course.specs.Beginnings.{run_from}
use Rattle.law_course.specs.Starts.{BeginsOn, TrailsBegin}
use Rattle.cx_job.specs.Making.{IsReady}
use Rattle.cx_core.specs.Cores.{Cores}
use Rattle.cx_core.specs.Hands.{last_number}
use Rattle.cx_core.specs.Starts.{IsReady as CanStart}
use Rattle.cx_core.specs.declared.answers.Outcome.TheVariants as outcomes
use Rattle.cx_run_loop.specs.Drives.{Drive, Drives, HasEnded, HasScalarsOf, StartsWell, AreTold, Comes as DriveComes}
use Rattle.cx_run_loop.specs.declared.fault.DriveFault.{DriveFault}
use Rattle.cx_run_loop.specs.declared.fault.DriveFault.TheVariants as stops
use Rattle.cx_run.specs.Answers.{AnswersRun, answer_at, answer_for, answer_with, done_by, end_in, summed}
use Rattle.cx_run.specs.Calls.{Work, IsStill, Runs, driven, live_by}
use Rattle.cx_run.specs.Causes.{HasCome, HasRun, LiveIs, IsSummed, Comes, ComesTo, CanGoOn, WereTrails}
use Rattle.cx_run.specs.Texts.{command_text}
use Rattle.cx_run.specs.declared.reply.Answer.{Answer}
use Rattle.cx_run.specs.declared.reply.Answer.TheVariants as a
use Rattle.cx_run.specs.declared.words.Command.{Command}
use Rattle.cx_run.specs.declared.words.Command.TheVariants as commands
use Rattle.cx_run.proofs.Ends.{end_with, done_is}
use Rattle.cx_run.specs.Chunks.{UsesDisk}
use Rattle.cx_run.proofs.ChunkLaws.{not_both}
use Rattle.cx_run.proofs.Totals.{files_total}

-- ---- a run

abbrev begun_as : Option Checkpoint → Result (Option Checkpoint) BeginFault
begun_as found = Ok found

-- a start on trails
abbrev Begins : Work → Job → Type 0
Begins w job = w.disk.tells → WereTrails w job → BeginsOn job w.rules w.disk.old.seen

begins : (w : Work) (job : Job) → TrailsBegin job w.rules → (w.disk.tells → IsView w.disk.old)
    → Begins w job
begins w job begin view tells trails =
    begin w.disk.old.seen (trails w.disk.old.seen (view tells).reads)

begun_not_refused : (found : Option Checkpoint) (fault : BeginFault)
    → begun_as found ≡ Err fault → ⊥
begun_not_refused found fault e = cc

module _ (w : Work) (job : Job) (core : Cores) (drives : Drives (driven w job) (Ok core))
    (named : IsNamed job.out_dir (output_names (setup_of job)) job.chk_dir w.folders) (starts : TrailsBegin job w.rules)
    (view : w.disk.tells → IsView w.disk.old) where
  come : (end : End) → end_in core.outcome ≡ end → HasEnded (driven w job) core
      → HasCome (driven w job) end
  come end is ended =
      record {
        output = ended.output;
        end_is = end_with core.outcome
            (undivided_run (setup_of job) w.rules).outcome end ended.end is;
        work = λ done. ended.work (done_is core.outcome drives.comes.over (is ∙ done));
        last = ended.last;
      }

  -- a start that came to an end was not refused
  well : AreTold (driven w job) → CanGoOn w job → StartsWell (driven w job)
  well told (inl trails) = inl (
    trails,
    λ a b other. begun_not_refused drives.comes.found (begin_faults.OldTooLong a b)
        (sym (drives.comes.began told.0) ∙ other),
  )
  well told (inr given_up) = inr given_up

  abbrev has_run : (end : End) → end_in core.outcome ≡ end → HasRun w job end
  has_run end is =
      record {
        found = drives.comes.found;
        began = drives.comes.began;
        ends = λ told. end_with core.outcome
            (run_from (setup_of job) w.rules drives.comes.found).outcome end
            (drives.comes.ended told) is;
        come = λ told can. come end is (drives.ended told (well told can));
        folders = named;
      }

  -- what is told of a run that is done
  live_is : (run : Trace) → HasScalarsOf run (driven w job) core
      → LiveIs job run (live_by (live_variable (setup_of job)) (last_number core))
  live_is run scalars state goes = by_variable (live_variable (setup_of job)) refl
    where
      by_variable : (v : Option VarId) → live_variable (setup_of job) ≡ v
          → live_by v (last_number core) ≡ live_by v (scalar_of state)
      by_variable None is = refl
      by_variable (Some v) is =
          scalars state v goes (named_is_stored job (codes "life::live") v is).1

  summed_is : core.outcome ≡ outcomes.Done
      → IsSummed w job drives.comes.found (total core.lengths)
      (live_by (live_variable (setup_of job)) (last_number core))
  summed_is done =
      record {
        output_is = λ told. let lengths = drives.comes.length_is told in
            files_total w.disk.new.seen (output_count (setup_of job)) core.lengths lengths.count
            lengths.each;
        ran = λ told. live_is (run_from (setup_of job) w.rules drives.comes.found)
            (drives.comes.scalars told done);
        undivided = λ told can. live_is (undivided_run (setup_of job) w.rules)
            ((drives.ended told (well told can)).scalars done);
      }

  done_cause : (command : Command) → Runs command → end_in core.outcome ≡ ends.Done
      → Comes w command job (done_by command job core job.itlast)
  done_cause commands.Run runs is =
      record { command_is = refl; last = refl; run = has_run ends.Done is }
  done_cause (commands.Make seed size) runs is =
      record {
        command_is = refl;
        last = refl;
        run = has_run ends.Done is;
        sums = summed_is (done_is core.outcome drives.comes.over is);
      }
  done_cause commands.Chunk runs is = absurd runs
  done_cause commands.Recombine runs is = absurd runs
  done_cause commands.Check runs is = absurd runs
  done_cause commands.Schedule runs is = absurd runs
  done_cause commands.Describe runs is = absurd runs
  done_cause commands.Parts runs is = absurd runs

  ended_cause : (command : Command) → Runs command → (end : End) → end_in core.outcome ≡ end
      → Comes w command job (summed command job core (answer_at job.itlast end))
  ended_cause command runs ends.Done is = done_cause command runs is
  ended_cause command runs (ends.Overflow iteration path) is =
      record {
        runs = runs;
        other = λ e. absurd cc;
        run = has_run (ends.Overflow iteration path) is;
      }
  ended_cause command runs (ends.WhileLimit iteration path) is =
      record {
        runs = runs;
        other = λ e. absurd cc;
        run = has_run (ends.WhileLimit iteration path) is;
      }
  ended_cause command runs (ends.OutputLimit iteration) is =
      record { runs = runs; other = λ e. absurd cc; run = has_run (ends.OutputLimit iteration) is }

  pub run_over : (command : Command) → Runs command → (answer : Answer)
      → AnswersRun command job (Ok core) answer → ComesTo w command job answer
  run_over command runs answer is =
      record {
        cause = go is;
        begins = λ run. begins w job starts view;
        trails = λ run. drives.trails;
        within = λ run. drives.within;
        apart = λ on. absurd (not_both command runs on);
      }
    where
      go : (answer ≡ a.Memory)
          ⊎ (answer ≡ summed command job core (answer_at job.itlast (end_in core.outcome)))
          → Comes w command job answer
      go (inl memory) = subst (λ (x : Answer). Comes w command job x) (sym memory)
          (λ other. absurd (other (inl runs)))
      go (inr end) = subst (λ (x : Answer). Comes w command job x) (sym end)
          (ended_cause command runs (end_in core.outcome) refl)

stopped_cause : (w : Work) (command : Command) (job : Job) (fault : DriveFault) → Runs command
    → DriveComes (driven w job) (Err fault) → Comes w command job (answer_for fault)
stopped_cause w command job (stops.Recovery fault) runs comes = (runs, comes)
stopped_cause w command job stops.Disk runs comes = (inl runs, comes)
stopped_cause w command job stops.Wire runs comes = (runs, comes)
stopped_cause w command job stops.Memory runs comes = λ other. absurd (other (inl runs))

-- what a run's answer comes from
pub ran : (w : Work) (command : Command) (job : Job) → Runs command
    → (came : Result Cores DriveFault) → Drives (driven w job) came
    → OnOk came (IsNamed job.out_dir (output_names (setup_of job)) job.chk_dir w.folders)
    → TrailsBegin job w.rules → (w.disk.tells → IsView w.disk.old) → (answer : Answer)
    → AnswersRun command job came answer → ComesTo w command job answer
ran w command job runs (Ok core) drives named starts view answer is =
    run_over w job core drives named starts view command runs answer is
ran w command job runs (Err fault) drives named starts view answer is =
    record {
      cause = subst (λ (x : Answer). Comes w command job x) (sym is)
          (stopped_cause w command job fault runs drives.comes);
      begins = λ run. begins w job starts view;
      trails = λ run. drives.trails;
      within = λ run. drives.within;
      apart = λ on. absurd (not_both command runs on);
    }

-- ---- another command

told_cause : (w : Work) (command : Command) (job : Job) (text : Result (List ℕ) Memory)
    → (UsesDisk command → ⊥) → IfOk text (λ t. t ≡ command_text command job) → IsStill w
    → Comes w command job (answer_with text)
told_cause w command job (Ok text) other is still =
    record { other = other; text_is = is; still = still }
told_cause w command job (Err e) other is still = λ o. still

pub told : (w : Work) (command : Command) (job : Job) (text : Result (List ℕ) Memory)
    (answer : Answer) → (UsesDisk command → ⊥) → IfOk text (λ t. t ≡ command_text command job)
    → answer ≡ answer_with text → IsStill w → ComesTo w command job answer
told w command job text answer other text_is is still =
    record {
      cause = subst (λ (x : Answer). Comes w command job x) (sym is)
          (told_cause w command job text other text_is still);
      begins = λ run. absurd (other (inl run));
      trails = λ run. absurd (other (inl run));
      within = λ run. absurd (other (inl run));
      apart = λ on. absurd (other (inr on));
    }

-- ---- where a run can begin

pub ready : (specs : List Spec) (job : Job) → IsReady specs job → HasInterior job.shape
    → CanStart job
ready specs job made interior =
    record {
      whole = made.whole;
      shapes = made.shapes;
      interior = interior;
      sound = made.sound;
      cut = (is_whole (parts_of job.shape job.cut) made.whole.shape made.cut).cut;
    }

pub enough_parts : (job : Job) (parts : ℕ) → IsWhole job
    → cut_fault (parts_of job.shape job.cut) ≡ None → 512 ≤ parts
    → part_count (parts_of job.shape job.cut) ≤ parts
enough_parts job parts whole cut many =
    let few : part_count (parts_of job.shape job.cut) ≤ 512 =
    (is_whole (parts_of job.shape job.cut) whole.shape cut).few in
    below (part_count (parts_of job.shape job.cut)) parts few many
  where
    below : (count parts : ℕ) → count ≤ 512 → 512 ≤ parts → count ≤ parts
    below count parts few many = omega (arith, few, many)
