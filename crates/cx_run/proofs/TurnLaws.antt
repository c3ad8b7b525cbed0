-- A run goes by what its source of turns picks.
use Rattle.std.proofs.Common.{◌≡◌, ◌∙◌, Some, None, Result, Ok, Err, IfOk, OnErr, ℕ, List, inl, inr, refl, sym, subst}
use Rattle.cx_plan.specs.declared.job.Job.{Job}
use Rattle.cx_turns.specs.declared.turns.Turns.{Ghosts as TurnsGhosts}
use Rattle.cx_core.specs.Cores.{Cores}
use Rattle.cx_job.specs.declared.fault.JobFault.{JobFault}
use Rattle.cx_run_loop.specs.Drives.{Drive}
use Rattle.cx_run_loop.specs.Turning.{StopsTurns, TakesTurns}
use Rattle.cx_run_loop.specs.declared.fault.DriveFault.{DriveFault}
use Rattle.cx_run_loop.specs.declared.fault.DriveFault.TheVariants as stops
use Rattle.cx_run.specs.Answers.{AnswersRun, answer_for, answer_of, status_of, WasSaid}
use Rattle.cx_run.specs.Calls.{Call, IsRun, IsStill, Lent, Makes, Runs, TellsFiles, driven}
use Rattle.cx_run.specs.Causes.{MakesAs}
use Rattle.cx_run.specs.Clauses.{IsEnd}
use Rattle.cx_run.specs.Turned.{FollowsTurns, HasTurned, PicksToEnd}
use Rattle.cx_run.specs.Words.{Request, asked}
use Rattle.cx_run.specs.declared.reply.Answer.{Answer}
use Rattle.cx_run.specs.declared.words.Command.{Command}
use Rattle.cx_run.proofs.Asked.{IsSorted, by_shelf, by_memory, refused, not_asked, sorted}
use Rattle.cx_run.proofs.Clauses.{end_said}

-- ---- what isn't the status of an end

abbrev NotEnd : ℕ → Type 0
NotEnd n = IsEnd n → ⊥

two : NotEnd 2
two (inl e) = absurd cc
two (inr e) = absurd cc

four : NotEnd 4
four (inl e) = absurd cc
four (inr e) = absurd cc

five : NotEnd 5
five (inl e) = absurd cc
five (inr e) = absurd cc

six : NotEnd 6
six (inl e) = absurd cc
six (inr e) = absurd cc

not_end : (answer other : Answer) → answer ≡ other → NotEnd (status_of other)
    → NotEnd (status_of answer)
not_end answer other is apart = subst (λ (x : Answer). NotEnd (status_of x)) (sym is) apart

stop_no_end : (fault : DriveFault) → NotEnd (status_of (answer_for fault))
stop_no_end (stops.Recovery fault) = six
stop_no_end stops.Disk = four
stop_no_end stops.Wire = four
stop_no_end stops.Memory = five

fault_no_end : (fault : JobFault) → IsSorted fault → NotEnd (status_of (answer_of fault))
fault_no_end fault (by_shelf is answer) = not_end (answer_of fault) _ answer four
fault_no_end fault (by_memory answer) = not_end (answer_of fault) _ answer five
fault_no_end fault (refused answer) = not_end (answer_of fault) _ answer two

-- ---- what `drive` says, for its answer

pub has_turned :
    {T : Type 0} (t : TurnsGhosts T) (d : Drive) (seed : ℕ) (turns turns_after : T)
    → t.begun turns ≡ Some seed
    → (came : Result Cores DriveFault) → IfOk came (TakesTurns t d turns turns_after)
    → OnErr came (StopsTurns t d turns turns_after)
    → (command : Command) (job : Job) (answer : Answer) → AnswersRun command job came answer
    → HasTurned t d seed turns_after (status_of answer)
has_turned t d seed turns turns_after begun (Ok core) takes stop command job answer answers =
    let led : PicksToEnd t d seed turns_after =
    record { turns = turns; begun = begun; core = core; takes = takes } in
    record { picks = inl led; ends = λ e. led }
has_turned t d seed turns turns_after begun (Err fault) takes stop command job answer answers =
    record {
      picks = inr (record { turns = turns; begun = begun; stops = stop });
      ends = λ e. absurd (not_end answer (answer_for fault) answers (stop_no_end fault) e);
    }

-- ---- a call

some_same : {A : Type 0} (x y : A) → Some x ≡ Some y → x ≡ y
some_same x y e = cc

same_asked : (c : Call) (r one : Request) → asked c.words ≡ Some r → asked c.words ≡ Some one
    → r ≡ one
same_asked c r one asks other = some_same r one (sym asks ∙ other)

-- the words ask for nothing that there is
pub wrong_use :
    {T : Type 0} (t : TurnsGhosts T) (c : Call) (turns : T) (status : ℕ) → asked c.words ≡ None
    → FollowsTurns t c turns turns status
wrong_use t c turns status none =
    record {
      picks = λ job run. absurd (not_asked (asked c.words) run.request none run.asks);
      ends = λ job run e. absurd (not_asked (asked c.words) run.request none run.asks);
      spared = λ r asks none. refl;
    }

-- the files make a fault
pub with_fault :
    {T : Type 0} (t : TurnsGhosts T) (c : Call) (turns : T) (fault : JobFault) (answer : Answer)
    → answer ≡ answer_of fault → IsStill c.work
    → FollowsTurns t c turns turns (status_of answer)
with_fault t c turns fault answer is still =
    record {
      picks = λ job run. inl (record { source = refl; still = still });
      ends = λ job run e.
          absurd (not_end answer (answer_of fault) is (fault_no_end fault (sorted fault)) e);
      spared = λ r asks none. refl;
    }

-- they make a job
pub with_job :
    {T : Type 0} (t : TurnsGhosts T) (c : Call) (r : Request) (made : Job) (turns turns_after : T)
    (status : ℕ) → asked c.words ≡ Some r → MakesAs c r (Ok made)
    → (Runs r.command → HasTurned t (driven c.work made) r.seed turns_after status)
    → ((Runs r.command → ⊥) → turns_after ≡ turns) → FollowsTurns t c turns turns_after status
with_job t c r made turns turns_after status asks makes turned spared =
    record {
      picks = λ job run. inr ((ran job run).picks);
      ends = λ job run e. (ran job run).ends e;
      spared = λ one other none.
          spared (subst (λ (q : Request). Runs q.command → ⊥)
          (sym (same_asked c r one asks other)) none);
    }
  where
    ran : (job : Job) (run : IsRun c job)
        → HasTurned t (driven c.work job) run.request.seed turns_after status
    ran job run =
        let same = same_asked c r run.request asks run.asks in
        let back = sym same in
        let told : TellsFiles c r = subst (λ (q : Request). TellsFiles c q) back run.told in
        let makes_it : Makes c r (Ok job) =
        subst (λ (q : Request). Makes c q (Ok job)) back run.makes in
        subst (λ (q : Request). HasTurned t (driven c.work job) q.seed turns_after status) same
        (subst (λ (x : Job). HasTurned t (driven c.work x) r.seed turns_after status)
        (makes.only told job makes_it)
        (turned (subst (λ (q : Request). Runs q.command) back run.runs)))

-- by the status that is given, which is the answer's where it is that of an end
pub as_said :
    {T : Type 0} (t : TurnsGhosts T) (c : Call) (sink : Lent (List ℕ)) (answer : Answer)
    (turns turns_after : T) (result : ℕ) → WasSaid sink answer result
    → FollowsTurns t c turns turns_after (status_of answer)
    → FollowsTurns t c turns turns_after result
as_said t c sink answer turns turns_after result said follows =
    record {
      picks = follows.picks;
      ends = λ job run e. follows.ends job run ((end_said sink answer result said e).1);
      spared = follows.spared;
    }
