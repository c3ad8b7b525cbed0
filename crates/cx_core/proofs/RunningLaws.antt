-- A step of a core that runs: what the code asks for, and what it comes to.
use Rattle.std.proofs.Common.{◌≡◌, ℕ, ◌<◌, Bool, true, List, length, slice_get, Some, sym, ap, ◌∙◌, subst}
use Rattle.std.specs.Prelude.{IsTrue}
use Rattle.cx_plan.specs.declared.job.Job.{Job}
use Rattle.cx_plan.specs.Setups.{setup_of}
use Rattle.cx_rule.specs.Routine.{Rule}
use Rattle.cx_cut.specs.Cuts.{part_count}
use Rattle.cx_cut.specs.Faults.{parts_of}
use Rattle.cx_wire.specs.Messages.{Sent as SentMail}
use Rattle.cx_core_events.specs.declared.standing.Next.TheVariants as next
use Rattle.cx_core_events.specs.Events.{can_go, events, writer_going}
use Rattle.law_parts.specs.Beginnings.{Beginning, IsBeginning, run_of}
use Rattle.law_parts.specs.Totals.{undivided_from}
use Rattle.cx_core.specs.declared.answers.Event.{Event}
use Rattle.cx_core.specs.declared.answers.Event.TheVariants as event
use Rattle.cx_core.specs.Cores.{Cores}
use Rattle.cx_core.specs.Hands.{StepsTo}
use Rattle.cx_core.specs.Laws.{RunLaws}
use Rattle.cx_core.specs.Moving.{PartGoes}
use Rattle.cx_core.specs.Steps.{Counts, Standing, IsAt, IsRunning}
use Rattle.cx_core.specs.Writes.{CanWrite, Writes, run_ended}
use Rattle.cx_core.proofs.StartLaws.{setup_same, cut_same}
use Rattle.cx_core.proofs.StepLaws.{goes_now, below, part_step}
use Rattle.cx_core.proofs.WriterLaws.{is_write, end_step}
use Rattle.cx_core.proofs.WriteSteps.{can_write, write_step}

module _ (told : Bool) (job : Job) (rules : List Rule)
    (all : (one : Bool) (rs : List Rule) (b : Beginning) → IsBeginning (setup_of job) b
    → RunLaws (IsTrue one) (run_of job rs b) (undivided_from (setup_of job) rs b))
    (core : Cores) (queue : ℕ → ℕ → List (SentMail (IsTrue told))) (now : Counts) (k : ℕ) where
  abbrev tells : Type 0
  tells = IsTrue told

  law : (b : Beginning) → IsBeginning (setup_of job) b
      → RunLaws tells (run_of job rules b) (undivided_from (setup_of job) rules b)
  law = all told rules

  abbrev here : Standing tells
  here = record { core = core; queue = queue; now = now }

  -- ---- what is asked for

  module _ (running : IsRunning tells job rules here) where
    abbrev laws : RunLaws tells (run_of job rules running.beginning)
        (undivided_from (setup_of job) rules running.beginning)
    laws = law running.beginning running.begins

    pub part_goes : (j : ℕ) → slice_get (events core.pace) k ≡ Some (next.Part j)
        → can_go core.pace j ≡ true
    part_goes j kth = goes_now tells _ _ laws running.first core queue now running.at k j kth

    pub part_there : (j : ℕ) → slice_get (events core.pace) k ≡ Some (next.Part j)
        → j < length core.pace.parts
    part_there j kth = below tells _ _ laws running.first core queue now running.at k j kth

    pub writes_next : slice_get (events core.pace) k ≡ Some next.Write
        → writer_going core.pace ≡ Some next.Write
    writes_next kth = is_write tells _ _ laws running.first core queue now running.at k kth

    pub can_be_written : slice_get (events core.pace) k ≡ Some next.Write
        → CanWrite (setup_of job) core (slice_get core.pace.works 0)
    can_be_written kth =
        can_write tells _ _ laws running.first core queue now running.at k kth (setup_of job)
        (setup_same job rules running.beginning)

    pub parts_same : part_count core.pace.cut ≡ part_count (parts_of job.shape job.cut)
    parts_same = ap part_count (running.at.shows.pace.cut ∙ cut_same job rules running.beginning)

  -- ---- what it comes to

  module _ (b : Beginning) (begins : IsBeginning (setup_of job) b) (first : Counts)
      (at : IsAt tells (run_of job rules b) first core queue now) where
    pub part_does : (j : ℕ) → slice_get (events core.pace) k ≡ Some (next.Part j)
        → (new : Cores) (after : ℕ → ℕ → List (SentMail tells)) (later : Counts)
        → PartGoes tells (run_of job rules b) first j core new queue after now later
        → StepsTo tells (run_of job rules b) (undivided_from (setup_of job) rules b) first k here
        (record { core = new; queue = after; now = later }) at (event.Part j)
    part_does j kth new after later goes =
        part_step tells _ _ (law b begins) first core queue now at k j kth new after later goes

    pub write_does : slice_get (events core.pace) k ≡ Some next.Write → (new : Cores) (e : Event)
        → Writes (setup_of job) (slice_get core.pace.works 0) core new e
        → StepsTo tells (run_of job rules b) (undivided_from (setup_of job) rules b) first k here
        (record { core = new; queue = queue; now = now }) at e
    write_does kth new e h =
        write_step tells _ _ (law b begins) first core queue now at k kth (setup_of job)
        (setup_same job rules b) new e h

    pub end_does : slice_get (events core.pace) k ≡ Some next.End → (new : Cores)
        → new ≡ run_ended core
        → StepsTo tells (run_of job rules b) (undivided_from (setup_of job) rules b) first k here
        (record { core = new; queue = queue; now = now }) at event.End
    end_does kth new h =
        subst (λ (c : Cores). StepsTo tells (run_of job rules b)
        (undivided_from (setup_of job) rules b) first k here
        (record { core = c; queue = queue; now = now }) at event.End)
        (sym h) (end_step tells _ _ (law b begins) first core queue now at k kth)
