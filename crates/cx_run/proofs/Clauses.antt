-- From what stands behind an answer, and what was said, to what the top call ensures.
use Rattle.std.proofs.Common.{◌≡◌, ◌≢◌, ◌⊎◌, ◌∙◌, ℕ, ℤ, ◌<◌, List, Option, Some, None, Result, Ok, Err, inl, inr, refl, sym, ap, subst, arith}
use Rattle.cx_plan.specs.Setups.{setup_of}
use Rattle.cx_plan.specs.declared.job.Job.{Job}
use Rattle.cx_model.specs.Runs.{outputs, end_by, end as end_of}
use Rattle.cx_model.specs.declared.ends.End.{End}
use Rattle.cx_model.specs.declared.ends.End.TheVariants as ends
use Rattle.cx_chk.specs.declared.checkpoint.Checkpoint.{Checkpoint}
use Rattle.cx_keep.specs.Tests.{begun, begun_from, greatest_former}
use Rattle.cx_keep.specs.Trails.{former_length}
use Rattle.cx_disk.specs.Files.{slot_count}
use Rattle.cx_chk.specs.Slots.{newest_below}
use Rattle.law_course.specs.Starts.{IsTooLong, begun_with}
use Rattle.cx_disk.specs.Disk.{Files}
use Rattle.cx_keep.specs.declared.fault.BeginFault.TheVariants.{NoCheckpoint}
use Rattle.cx_plan.specs.declared.job.Recover.{Recover}
use Rattle.cx_plan.specs.declared.job.Recover.TheVariants.{No, Auto, Autoprobe}
use Rattle.cx_keep.specs.declared.fault.BeginFault.{BeginFault}
use Rattle.law_course.specs.Beginnings.{run_from}
use Rattle.cx_job.specs.declared.fault.JobFault.{JobFault}
use Rattle.cx_job.specs.declared.fault.JobFault.TheVariants as faults
use Rattle.cx_job.specs.Making.{without_witness}
use Rattle.cx_run_loop.specs.Lent.{HasRisen}
use Rattle.cx_run_loop.specs.Drives.{CountsNoMore, HasWholeOutput, LeavesTrails, StartsWell}
use Rattle.cx_run.specs.Answers.{answer_of, status_of, text_of, Says, WasSaid}
use Rattle.cx_run.specs.Calls.{Lent, Work, Call, Runs, IsRun, AreTold, IsStill, driven}
use Rattle.cx_run.specs.Causes.{HasCome, HasRun, Comes, ComesTo, CanGoOn, Follows, Explains}
use Rattle.cx_run.specs.Sink.{Adds}
use Rattle.cx_run.specs.Texts.{made_text}
use Rattle.cx_run.specs.Chunks.{IsApart, OnChunks, UsesDisk, files_fault, status_by}
use Rattle.cx_run_chunks.specs.Commands.{outputs_fault, recombine_fault}
use Rattle.cx_run.proofs.ChunkLaws.{is_chunk, is_recombine, not_both, not_chunk, not_recombine, still_apart, trails_stay}
use Rattle.cx_run.specs.Clauses.{length_of_all, RunsWithin, IsEnd, RunsWell, KeepsAllTrails, KeepsTrails, IsToldOf, SumsUp, IsUntouched, Spares, IsCalm, status_at, Gives, IsRefusedFor, Owes}
use Rattle.cx_run.specs.Words.{Request, asked}
use Rattle.cx_run.specs.declared.reply.Answer.{Answer}
use Rattle.cx_run.specs.declared.reply.Answer.TheVariants as a
use Rattle.cx_run.specs.declared.words.Command.{Command}
use Rattle.cx_run.specs.declared.words.Command.TheVariants as commands
use Rattle.cx_run.proofs.Asked.{HasFailed, shelf, memory, IsSorted, by_shelf, by_memory, refused, IsFaulty, IsFaultOf, sorted, not_asked, same_request, job_of, no_job, fault_of, spared}
use Rattle.cx_run.proofs.Stillness.{still_trails, still_within}
use Rattle.cx_run.proofs.Totals.{whole_total}

-- ---- what was said

-- a status other than 4 and 5 is that of the answer
pub said_status : (sink : Lent (List ℕ)) (answer : Answer) (result s : ℕ)
    → WasSaid sink answer result → result ≡ s → (s ≡ 4 → ⊥) → (s ≡ 5 → ⊥) → status_of answer ≡ s
said_status sink answer result s (inl (inl p)) e not4 not5 = sym p.status_is ∙ e
said_status sink answer result s (inl (inr p)) e not4 not5 = absurd (not4 (sym e ∙ p.status_is))
said_status sink answer result s (inr (inl p)) e not4 not5 = absurd (not5 (sym e ∙ p.status_is))
said_status sink answer result s (inr (inr p)) e not4 not5 = absurd (not4 (sym e ∙ p.status_is))

-- and so is the text
pub said_text : (sink : Lent (List ℕ)) (answer : Answer) (result s : ℕ) → WasSaid sink answer result
    → result ≡ s → (s ≡ 4 → ⊥) → (s ≡ 5 → ⊥) → sink.tells
    → Adds (text_of answer) sink.old sink.new
said_text sink answer result s (inl (inl p)) e not4 not5 told = p.text_is told
said_text sink answer result s (inl (inr p)) e not4 not5 told = absurd (not4 (sym e ∙ p.status_is))
said_text sink answer result s (inr (inl p)) e not4 not5 told = absurd (not5 (sym e ∙ p.status_is))
said_text sink answer result s (inr (inr p)) e not4 not5 told = absurd (not4 (sym e ∙ p.status_is))

-- where the sink doesn't fail
pub calm_status : (sink : Lent (List ℕ)) (answer : Answer) (result : ℕ) → WasSaid sink answer result
    → (HasRisen sink.faults → ⊥) → (result ≡ status_of answer) ⊎ (result ≡ 5)
calm_status sink answer result (inl (inl p)) calm = inl p.status_is
calm_status sink answer result (inl (inr p)) calm = absurd (calm p.rose)
calm_status sink answer result (inr (inl p)) calm = inr p.status_is
calm_status sink answer result (inr (inr p)) calm = absurd (calm p.rose)

pub sink_failed : (sink : Lent (List ℕ)) (answer : Answer) (result : ℕ) → WasSaid sink answer result
    → sink.faults.old < sink.faults.new → result ≡ 4
sink_failed sink answer result (inl (inl p)) rises = absurd (omega (arith, p.count, rises))
sink_failed sink answer result (inl (inr p)) rises = p.status_is
sink_failed sink answer result (inr (inl p)) rises = absurd (omega (arith, p.count, rises))
sink_failed sink answer result (inr (inr p)) rises = p.status_is

-- ---- a run

-- an answer of status 0 or 3 to a run tells its end
record IsOver (w : Work) (job : Job) (status : ℕ) : Type 0 where
  pub end : End
  pub run : HasRun w job end
  pub status_is : status ≡ status_at end

runs_as : (command one : Command) → command ≡ one → Runs one → Runs command
runs_as command one is runs = subst (λ (k : Command). Runs k) (sym is) runs

not_end : (n : ℕ) → (n ≡ 0 → ⊥) → (n ≡ 3 → ⊥) → IsEnd n → ⊥
not_end n not0 not3 (inl e) = not0 e
not_end n not0 not3 (inr e) = not3 e

status_other : (end : End) → end ≢ ends.Done → 3 ≡ status_at end
status_other ends.Done other = absurd (other refl)
status_other (ends.Overflow iteration path) other = refl
status_other (ends.WhileLimit iteration path) other = refl
status_other (ends.OutputLimit iteration) other = refl

over : (w : Work) (command : Command) (job : Job) (answer : Answer) → Runs command
    → Comes w command job answer → IsEnd (status_of answer) → IsOver w job (status_of answer)
over w command job (a.Done iteration) runs x e =
    record { end = ends.Done; run = x.run; status_is = refl }
over w command job (a.Made iteration seed size output live) runs x e =
    record { end = ends.Done; run = x.run; status_is = refl }
over w command job (a.Ended end) runs x e =
    record { end = end; run = x.run; status_is = status_other end x.other }
over w command job (a.Text text) runs x e = absurd (x.other (inl runs))
over w command job (a.Chunked done) runs x e = absurd (not_chunk command x.command_is runs)
over w command job (a.Recombined done) runs x e =
    absurd (not_recombine command x.command_is runs)
over w command job (a.Chunks fault) runs x e = absurd (not_both command runs x.command_is)
over w command job (a.Recovery fault) runs x e =
    absurd (not_end 6 (λ z. absurd cc) (λ z. absurd cc) e)
over w command job a.Disk runs x e = absurd (not_end 4 (λ z. absurd cc) (λ z. absurd cc) e)
over w command job a.Wire runs x e = absurd (not_end 4 (λ z. absurd cc) (λ z. absurd cc) e)
over w command job a.Memory runs x e = absurd (not_end 5 (λ z. absurd cc) (λ z. absurd cc) e)
over w command job a.Usage runs x e = absurd x
over w command job (a.Refused fault) runs x e = absurd x
over w command job a.Shelf runs x e = absurd x

failed_not_end : (c : Call) (answer : Answer) → HasFailed c answer → IsEnd (status_of answer) → ⊥
failed_not_end c answer (shelf is rose still) e =
    not_end 4 (λ z. absurd cc) (λ z. absurd cc) (subst (λ (x : Answer). IsEnd (status_of x)) is e)
failed_not_end c answer (memory is still) e =
    not_end 5 (λ z. absurd cc) (λ z. absurd cc) (subst (λ (x : Answer). IsEnd (status_of x)) is e)

run_of : (c : Call) (answer : Answer) → Explains c answer → (job : Job) (run : IsRun c job)
    → ComesTo c.work run.request.command job answer ⊎ HasFailed c answer
run_of c answer x job run = job_of c answer x run.request job run.asks run.told run.makes

pub end_said : (sink : Lent (List ℕ)) (answer : Answer) (result : ℕ) → WasSaid sink answer result
    → IsEnd result → (status_of answer ≡ result) × IsEnd (status_of answer)
end_said sink answer result said (inl e) =
    let s = said_status sink answer result 0 said e (λ z. absurd cc) (λ z. absurd cc) in
    (s ∙ sym e, inl s)
end_said sink answer result said (inr e) =
    let s = said_status sink answer result 3 said e (λ z. absurd cc) (λ z. absurd cc) in
    (s ∙ sym e, inr s)

run_over : (c : Call) (sink : Lent (List ℕ)) (answer : Answer) (result : ℕ) → Explains c answer
    → WasSaid sink answer result → (job : Job) → IsRun c job
    → IsEnd result → IsOver c.work job result
run_over c sink answer result x said job run e =
    let s = end_said sink answer result said e in
    subst (λ (n : ℕ). IsOver c.work job n) s.0 (go s.1 (run_of c answer x job run))
  where
    go : IsEnd (status_of answer)
        → ComesTo c.work run.request.command job answer ⊎ HasFailed c answer
        → IsOver c.work job (status_of answer)
    go e (inl comes) = over c.work run.request.command job answer run.runs comes.cause e
    go e (inr failed) = absurd (failed_not_end c answer failed e)

done_at : (end : End) → 0 ≡ status_at end → end ≡ ends.Done
done_at ends.Done e = refl
done_at (ends.Overflow iteration path) e = absurd cc
done_at (ends.WhileLimit iteration path) e = absurd cc
done_at (ends.OutputLimit iteration) e = absurd cc

other_at : (end : End) → 3 ≡ status_at end → end ≢ ends.Done
other_at ends.Done e is = absurd cc
other_at (ends.Overflow iteration path) e is = absurd cc
other_at (ends.WhileLimit iteration path) e is = absurd cc
other_at (ends.OutputLimit iteration) e is = absurd cc

pub runs_well : (c : Call) (sink : Lent (List ℕ)) (answer : Answer) (result : ℕ) → Explains c answer
    → WasSaid sink answer result → AreTold c → RunsWell c result
runs_well c sink answer result x said told job run well =
    record {
      output = λ e. (come e).output;
      last = λ e. (come e).last;
      done = λ e. let o = at (inl e) in (come (inl e)).end_is ∙ done_at o.end (sym e ∙ o.status_is);
      ended = λ e is. let o = at (inr e) in
          other_at o.end (sym e ∙ o.status_is) (sym (come (inr e)).end_is ∙ is);
      work = λ e. let o = at (inl e) in (come (inl e)).work (done_at o.end (sym e ∙ o.status_is));
    }
  where
    at : IsEnd result → IsOver c.work job result
    at e = run_over c sink answer result x said job run e

    come : (e : IsEnd result) → HasCome (driven c.work job) (at e).end
    come e = (at e).run.come told well

pub keeps_trails : (c : Call) (answer : Answer) → Explains c answer → AreTold c → KeepsTrails c
keeps_trails c answer x told job run trails = go (run_of c answer x job run)
  where
    go : ComesTo c.work run.request.command job answer ⊎ HasFailed c answer
        → LeavesTrails (driven c.work job)
    go (inl comes) = comes.trails run.runs told trails
    go (inr (shelf is rose still)) = still_trails c.work job still told.0 trails
    go (inr (memory is still)) = still_trails c.work job still told.0 trails

pub counts_within : (c : Call) (answer : Answer) → Explains c answer → AreTold c → RunsWithin c
counts_within c answer x told job run = go (run_of c answer x job run)
  where
    go : ComesTo c.work run.request.command job answer ⊎ HasFailed c answer
        → CountsNoMore (driven c.work job)
    go (inl comes) = comes.within run.runs told
    go (inr (shelf is rose still)) = still_within c.work job still
    go (inr (memory is still)) = still_within c.work job still

-- ---- what `make` tells

not_run : (seed size : ℕ) → commands.Run ≡ commands.Make seed size → ⊥
not_run seed size e = cc

made_parts : (seed size other_seed other_size : ℕ)
    → commands.Make seed size ≡ commands.Make other_seed other_size
    → (seed ≡ other_seed) × (size ≡ other_size)
made_parts seed size other_seed other_size e = (cc, cc)

same_text : (i j seed other_seed size other_size m n : ℕ) (live : ℤ) → i ≡ j → seed ≡ other_seed
    → size ≡ other_size → m ≡ n
    → made_text i seed size m live ≡ made_text j other_seed other_size n live
same_text i j seed other_seed size other_size m n live first second third fourth =
    ap (λ (k : ℕ). made_text k seed size m live) first
    ∙ ap (λ (k : ℕ). made_text j k size m live) second
    ∙ ap (λ (k : ℕ). made_text j other_seed k m live) third
    ∙ ap (λ (k : ℕ). made_text j other_seed other_size k live) fourth

made_comes : (c : Call) (sink : Lent (List ℕ)) (command : Command) (job : Job) (seed size : ℕ)
    (answer : Answer) → command ≡ commands.Make seed size → AreTold c
    → CanGoOn c.work job
    → Comes c.work command job answer → status_of answer ≡ 0
    → (sink.tells → Adds (text_of answer) sink.old sink.new) → IsToldOf c sink job seed size
made_comes c sink command job seed size (a.Made iteration other_seed other_size length_ live)
    is told well x e said =
    let run : HasRun c.work job ends.Done = x.run in
    let whole : HasWholeOutput (driven c.work job) = (run.come told well).output in
    let long : length_ ≡ length_of_all (outputs (setup_of job) c.work.rules) =
    x.sums.output_is told.0 ∙ whole_total (driven c.work job) whole in
    let same = made_parts other_seed other_size seed size (sym x.command_is ∙ is) in
    record {
      live = live;
      live_is = x.sums.undivided told well;
      text_is = λ tells. subst (λ (t : List ℕ). Adds t sink.old sink.new)
          (same_text iteration job.itlast other_seed seed other_size size length_
          (length_of_all (outputs (setup_of job) c.work.rules)) live x.last same.0 same.1 long)
          (said tells);
    }
made_comes c sink command job seed size (a.Done iteration) is told well x e said =
    absurd (not_run seed size (sym x.command_is ∙ is))
made_comes c sink command job seed size (a.Text text) is told well x e said =
    absurd (x.other (inl (runs_as command (commands.Make seed size) is tt)))
made_comes c sink command job seed size (a.Chunked done) is told well x e said =
    absurd (not_chunk command x.command_is (runs_as command (commands.Make seed size) is tt))
made_comes c sink command job seed size (a.Recombined done) is told well x e said =
    absurd (not_recombine command x.command_is (runs_as command (commands.Make seed size) is tt))
made_comes c sink command job seed size (a.Chunks fault) is told well x e said = absurd cc
made_comes c sink command job seed size (a.Ended end) is told well x e said = absurd cc
made_comes c sink command job seed size (a.Recovery fault) is told well x e said = absurd cc
made_comes c sink command job seed size a.Disk is told well x e said = absurd cc
made_comes c sink command job seed size a.Wire is told well x e said = absurd cc
made_comes c sink command job seed size a.Memory is told well x e said = absurd cc
made_comes c sink command job seed size a.Usage is told well x e said = absurd x
made_comes c sink command job seed size (a.Refused fault) is told well x e said = absurd x
made_comes c sink command job seed size a.Shelf is told well x e said = absurd x

pub sums_up : (c : Call) (sink : Lent (List ℕ)) (answer : Answer) (result : ℕ) → Explains c answer
    → WasSaid sink answer result → AreTold c → SumsUp c sink result
sums_up c sink answer result x said told seed size job run is well e =
    go (run_of c answer x job run)
  where
    zero : status_of answer ≡ 0
    zero = said_status sink answer result 0 said e (λ z. absurd cc) (λ z. absurd cc)

    failed_not_0 : HasFailed c answer → status_of answer ≡ 0 → ⊥
    failed_not_0 failed z = failed_not_end c answer failed (inl z)

    go : ComesTo c.work run.request.command job answer ⊎ HasFailed c answer
        → IsToldOf c sink job seed size
    go (inl comes) = made_comes c sink run.request.command job seed size answer is told well
        comes.cause zero (said_text sink answer result 0 said e (λ z. absurd cc) (λ z. absurd cc))
    go (inr failed) = absurd (failed_not_0 failed zero)

-- ---- what isn't touched

untouched : (w : Work) → IsStill w → IsUntouched w
untouched w still = record { disk = still.quiet; wire = still.wire; meter = still.meter }

abbrev IsRefusal : ℕ → Type 0
IsRefusal s = (s ≡ 1) ⊎ ((s ≡ 2) ⊎ ((s ≡ 6) ⊎ (s ≡ 7)))

no_refusal : (n : ℕ) → (n ≡ 1 → ⊥) → (n ≡ 2 → ⊥) → (n ≡ 6 → ⊥) → (n ≡ 7 → ⊥)
    → IsRefusal n → ⊥
no_refusal n not1 not2 not6 not7 (inl e) = not1 e
no_refusal n not1 not2 not6 not7 (inr (inl e)) = not2 e
no_refusal n not1 not2 not6 not7 (inr (inr (inl e))) = not6 e
no_refusal n not1 not2 not6 not7 (inr (inr (inr e))) = not7 e

refusal_comes : (w : Work) (command : Command) (job : Job) (answer : Answer)
    → (OnChunks command → IsApart w)
    → Comes w command job answer → IsRefusal (status_of answer) → IsUntouched w
refusal_comes w command job (a.Recovery fault) apart x e =
    record { disk = x.1.quiet; wire = x.1.wire; meter = x.1.meter }
refusal_comes w command job (a.Chunks fault) apart x e =
    let left = apart x.command_is in
    record { disk = x.quiet; wire = left.wire; meter = left.meter }
refusal_comes w command job (a.Chunked done) apart x e =
    absurd (no_refusal 0 (λ z. absurd cc) (λ z. absurd cc) (λ z. absurd cc) (λ z. absurd cc) e)
refusal_comes w command job (a.Recombined done) apart x e =
    absurd (no_refusal 0 (λ z. absurd cc) (λ z. absurd cc) (λ z. absurd cc) (λ z. absurd cc) e)
refusal_comes w command job (a.Done iteration) apart x e =
    absurd (no_refusal 0 (λ z. absurd cc) (λ z. absurd cc) (λ z. absurd cc) (λ z. absurd cc) e)
refusal_comes w command job (a.Made iteration seed size output live) apart x e =
    absurd (no_refusal 0 (λ z. absurd cc) (λ z. absurd cc) (λ z. absurd cc) (λ z. absurd cc) e)
refusal_comes w command job (a.Text text) apart x e =
    absurd (no_refusal 0 (λ z. absurd cc) (λ z. absurd cc) (λ z. absurd cc) (λ z. absurd cc) e)
refusal_comes w command job (a.Ended end) apart x e =
    absurd (no_refusal 3 (λ z. absurd cc) (λ z. absurd cc) (λ z. absurd cc) (λ z. absurd cc) e)
refusal_comes w command job a.Disk apart x e =
    absurd (no_refusal 4 (λ z. absurd cc) (λ z. absurd cc) (λ z. absurd cc) (λ z. absurd cc) e)
refusal_comes w command job a.Wire apart x e =
    absurd (no_refusal 4 (λ z. absurd cc) (λ z. absurd cc) (λ z. absurd cc) (λ z. absurd cc) e)
refusal_comes w command job a.Memory apart x e =
    absurd (no_refusal 5 (λ z. absurd cc) (λ z. absurd cc) (λ z. absurd cc) (λ z. absurd cc) e)
refusal_comes w command job a.Usage apart x e = absurd x
refusal_comes w command job (a.Refused fault) apart x e = absurd x
refusal_comes w command job a.Shelf apart x e = absurd x

refusal_follows : (c : Call) (command : Command) (found : Result Job JobFault) (answer : Answer)
    → Follows c command found answer → IsRefusal (status_of answer) → IsUntouched c.work
refusal_follows c command (Ok job) answer x e =
    refusal_comes c.work command job answer x.comes.apart x.comes.cause e
refusal_follows c command (Err fault) answer x e = untouched c.work x.still

refusal_untouched : (c : Call) (answer : Answer) → Explains c answer → IsRefusal (status_of answer)
    → IsUntouched c.work
refusal_untouched c answer (inl wrong) e = untouched c.work wrong.still
refusal_untouched c answer (inr x) e =
    refusal_follows c x.request.command x.found answer x.follows e

refusal_said : (sink : Lent (List ℕ)) (answer : Answer) (result : ℕ) → WasSaid sink answer result
    → IsRefusal result → IsRefusal (status_of answer)
refusal_said sink answer result said (inl e) =
    inl (said_status sink answer result 1 said e (λ z. absurd cc) (λ z. absurd cc))
refusal_said sink answer result said (inr (inl e)) =
    inr (inl (said_status sink answer result 2 said e (λ z. absurd cc) (λ z. absurd cc)))
refusal_said sink answer result said (inr (inr (inl e))) =
    inr (inr (inl (said_status sink answer result 6 said e (λ z. absurd cc) (λ z. absurd cc))))
refusal_said sink answer result said (inr (inr (inr e))) =
    inr (inr (inr (said_status sink answer result 7 said e (λ z. absurd cc) (λ z. absurd cc))))

still_comes : (w : Work) (command : Command) (job : Job) (answer : Answer)
    → (UsesDisk command → ⊥) → Comes w command job answer → IsStill w
still_comes w command job (a.Done iteration) other x =
    absurd (other (inl (runs_as command commands.Run x.command_is tt)))
still_comes w command job (a.Made iteration seed size output live) other x =
    absurd (other (inl (runs_as command (commands.Make seed size) x.command_is tt)))
still_comes w command job (a.Text text) other x = x.still
still_comes w command job (a.Ended end) other x = absurd (other (inl x.runs))
still_comes w command job (a.Recovery fault) other x = absurd (other (inl x.0))
still_comes w command job (a.Chunked done) other x =
    absurd (other (inr (is_chunk command x.command_is)))
still_comes w command job (a.Recombined done) other x =
    absurd (other (inr (is_recombine command x.command_is)))
still_comes w command job (a.Chunks fault) other x = absurd (other (inr x.command_is))
still_comes w command job a.Disk other x = absurd (other x.0)
still_comes w command job a.Wire other x = absurd (other (inl x.0))
still_comes w command job a.Memory other x = x other
still_comes w command job a.Usage other x = absurd x
still_comes w command job (a.Refused fault) other x = absurd x
still_comes w command job a.Shelf other x = absurd x

still_follows : (c : Call) (command : Command) (found : Result Job JobFault) (answer : Answer)
    → (UsesDisk command → ⊥) → Follows c command found answer → IsStill c.work
still_follows c command (Ok job) answer other x =
    still_comes c.work command job answer other x.comes.cause
still_follows c command (Err fault) answer other x = x.still

other_still : (c : Call) (answer : Answer) → Explains c answer → (r : Request)
    → asked c.words ≡ Some r → (UsesDisk r.command → ⊥) → IsStill c.work
other_still c answer (inl wrong) r asks other = wrong.still
other_still c answer (inr x) r asks other =
    still_follows c x.request.command x.found answer
    (λ uses. other (subst (λ (q : Request). UsesDisk q.command)
    (same_request c answer x r asks) uses)) x.follows

wrong_still : (c : Call) (answer : Answer) → Explains c answer → asked c.words ≡ None
    → c.shelf.same × IsStill c.work
wrong_still c answer (inl wrong) none = (wrong.shelf, wrong.still)
wrong_still c answer (inr x) none = absurd (not_asked (asked c.words) x.request none x.asks)

-- a command on chunks leaves alone what isn't one of their files
follows_apart : (c : Call) (command : Command) (found : Result Job JobFault) (answer : Answer)
    → OnChunks command → Follows c command found answer → IsApart c.work
follows_apart c command (Ok job) answer on x = x.comes.apart on
follows_apart c command (Err fault) answer on x = still_apart c.work x.still

pub chunks_apart : (c : Call) (answer : Answer) → Explains c answer → (r : Request)
    → asked c.words ≡ Some r → OnChunks r.command → IsApart c.work
chunks_apart c answer (inl wrong) r asks on = still_apart c.work wrong.still
chunks_apart c answer (inr x) r asks on =
    follows_apart c x.request.command x.found answer
    (subst (λ (q : Request). OnChunks q.command) (sym (same_request c answer x r asks)) on)
    x.follows

pub keeps_all_trails : (c : Call) (answer : Answer) → Explains c answer → c.work.disk.tells
    → KeepsAllTrails c
keeps_all_trails c answer x tells r course asks on few trails =
    trails_stay c.work.disk.old c.work.disk.new course few
    ((chunks_apart c answer x r asks on).disk tells) trails

pub spares : (c : Call) (sink : Lent (List ℕ)) (answer : Answer) (result : ℕ) → Explains c answer
    → WasSaid sink answer result → Spares c result
spares c sink answer result x said =
    record {
      refused = λ e. refusal_untouched c answer x (refusal_said sink answer result said e);
      wrong_use = λ none. wrong_still c answer x none;
      other_command = λ r asks other. other_still c answer x r asks other;
      no_job = λ r fault asks told made. (fault_of c answer x r fault asks told made).is.still;
      chunks = λ r asks on. chunks_apart c answer x r asks on;
      shelf = λ r asks. spared c answer x r asks;
    }

-- ---- what must be answered

abbrev Due : ℕ → ℕ → Type 0
Due s n = (n ≡ s) ⊎ (n ≡ 5)

wrong_due : (c : Call) (answer : Answer) → Explains c answer → asked c.words ≡ None
    → Due 1 (status_of answer)
wrong_due c answer (inl wrong) none = inl (ap status_of wrong.answer_is)
wrong_due c answer (inr x) none = absurd (not_asked (asked c.words) x.request none x.asks)

faulty_due : (c : Call) (answer : Answer) → (HasRisen c.shelf.faults → ⊥) → IsFaulty c answer
    → Due 2 (status_of answer)
faulty_due c answer calm x = go (sorted x.found)
  where
    go : IsSorted x.found → Due 2 (status_of answer)
    go (by_shelf is e) = absurd (calm (x.rose is))
    go (by_memory e) = inr (ap status_of (x.answer_is ∙ e))
    go (refused e) = inl (ap status_of (x.answer_is ∙ e))

failed_due : (c : Call) (answer : Answer) (s : ℕ) → (HasRisen c.shelf.faults → ⊥)
    → HasFailed c answer → Due s (status_of answer)
failed_due c answer s calm (shelf is rose still) = absurd (calm rose)
failed_due c answer s calm (memory is still) = inr (ap status_of is)

told_due : (w : Work) (command : Command) (job : Job) (answer : Answer)
    → (UsesDisk command → ⊥) → Comes w command job answer → Due 0 (status_of answer)
told_due w command job (a.Done iteration) other x = inl refl
told_due w command job (a.Made iteration seed size output live) other x = inl refl
told_due w command job (a.Text text) other x = inl refl
told_due w command job (a.Ended end) other x = absurd (other (inl x.runs))
told_due w command job (a.Recovery fault) other x = absurd (other (inl x.0))
told_due w command job (a.Chunked done) other x = inl refl
told_due w command job (a.Recombined done) other x = inl refl
told_due w command job (a.Chunks fault) other x = absurd (other (inr x.command_is))
told_due w command job a.Disk other x = absurd (other x.0)
told_due w command job a.Wire other x = absurd (other (inl x.0))
told_due w command job a.Memory other x = inr refl
told_due w command job a.Usage other x = absurd x
told_due w command job (a.Refused fault) other x = absurd x
told_due w command job a.Shelf other x = absurd x

abbrev Begins : Result (Option Checkpoint) BeginFault → Option Checkpoint → Type 0
Begins result found = result ≡ Ok found

ok_same : (x y : Option Checkpoint) → Begins (Ok x) y → x ≡ y
ok_same x y e = cc

ok_not_err : (x : Option Checkpoint) (fault : BeginFault) → Begins (Err fault) x → ⊥
ok_not_err x fault e = absurd cc

-- a run that began with a checkpoint, or none, ends so
end_due : (c : Call) (job : Job) (found : Option Checkpoint) (end : End) → AreTold c
    → begun job c.work.disk.old.seen ≡ Ok found → HasRun c.work job end
    → status_at end ≡ status_at (end_by (run_from (setup_of job) c.work.rules found).outcome)
end_due c job found end told begins x =
    let same : x.found ≡ found = ok_same x.found found (sym (x.began told.0) ∙ begins) in
    ap status_at
    (sym (subst (λ (f : Option Checkpoint).
    end_by (run_from (setup_of job) c.work.rules f).outcome ≡ end) same (x.ends told)))

-- no run begins where the start is refused
never_begun : (c : Call) (job : Job) (fault : BeginFault) (end : End) → AreTold c
    → begun job c.work.disk.old.seen ≡ Err fault → HasRun c.work job end → ⊥
never_begun c job fault end told begins x = ok_not_err x.found fault (sym begins ∙ x.began told.0)

module _ (c : Call) (sink : Lent (List ℕ)) (calm : IsCalm c sink) (told : AreTold c)
    (command : Command) (runs : Runs command) (job : Job) where
  refused_due : (fault : BeginFault) (answer : Answer) → begun job c.work.disk.old.seen ≡ Err fault
      → Comes c.work command job answer → Due 6 (status_of answer)
  refused_due fault (a.Done iteration) begins x =
      absurd (never_begun c job fault ends.Done told begins x.run)
  refused_due fault (a.Made iteration seed size output live) begins x =
      absurd (never_begun c job fault ends.Done told begins x.run)
  refused_due fault (a.Text text) begins x = absurd (x.other (inl runs))
  refused_due fault (a.Chunked done) begins x = absurd (not_chunk command x.command_is runs)
  refused_due fault (a.Recombined done) begins x =
      absurd (not_recombine command x.command_is runs)
  refused_due fault (a.Chunks other) begins x = absurd (not_both command runs x.command_is)
  refused_due fault (a.Ended end) begins x = absurd (never_begun c job fault end told begins x.run)
  refused_due fault (a.Recovery other) begins x = inl refl
  refused_due fault a.Disk begins x = absurd (calm.disk x.1)
  refused_due fault a.Wire begins x = absurd (calm.wire x.1)
  refused_due fault a.Memory begins x = inr refl
  refused_due fault a.Usage begins x = absurd x
  refused_due fault (a.Refused other) begins x = absurd x
  refused_due fault a.Shelf begins x = absurd x

  run_due : (found : Option Checkpoint) (answer : Answer)
      → begun job c.work.disk.old.seen ≡ Ok found → Comes c.work command job answer
      → Due (status_at (end_by (run_from (setup_of job) c.work.rules found).outcome))
      (status_of answer)
  run_due found (a.Done iteration) begins x = inl (end_due c job found ends.Done told begins x.run)
  run_due found (a.Made iteration seed size output live) begins x =
      inl (end_due c job found ends.Done told begins x.run)
  run_due found (a.Text text) begins x = absurd (x.other (inl runs))
  run_due found (a.Chunked done) begins x = absurd (not_chunk command x.command_is runs)
  run_due found (a.Recombined done) begins x = absurd (not_recombine command x.command_is runs)
  run_due found (a.Chunks fault) begins x = absurd (not_both command runs x.command_is)
  run_due found (a.Ended end) begins x =
      inl (status_other end x.other ∙ end_due c job found end told begins x.run)
  run_due found (a.Recovery other) begins x =
      absurd (ok_not_err found other (sym (x.1.began told.0) ∙ begins))
  run_due found a.Disk begins x = absurd (calm.disk x.1)
  run_due found a.Wire begins x = absurd (calm.wire x.1)
  run_due found a.Memory begins x = inr refl
  run_due found a.Usage begins x = absurd x
  run_due found (a.Refused other) begins x = absurd x
  run_due found a.Shelf begins x = absurd x

-- ---- a command on chunks

module _ (c : Call) (sink : Lent (List ℕ)) (calm : IsCalm c sink) (tells : c.work.disk.tells)
    (command : Command) (on : OnChunks command) (job : Job) where
  no_chunk_fault : command ≡ commands.Chunk
      → outputs_fault (setup_of job) c.work.disk.old.seen ≡ None
      → Due (status_by (files_fault command job c.work.disk.old.seen)) 0
  no_chunk_fault is none =
      inl (sym (ap (λ (k : Command). status_by (files_fault k job c.work.disk.old.seen)) is
      ∙ ap status_by none))

  no_recombine_fault : command ≡ commands.Recombine
      → recombine_fault job c.work.disk.old.seen ≡ None
      → Due (status_by (files_fault command job c.work.disk.old.seen)) 0
  no_recombine_fault is none =
      inl (sym (ap (λ (k : Command). status_by (files_fault k job c.work.disk.old.seen)) is
      ∙ ap status_by none))

  chunks_due : (answer : Answer) → Comes c.work command job answer
      → Due (status_by (files_fault command job c.work.disk.old.seen)) (status_of answer)
  chunks_due (a.Done iteration) x =
      absurd (not_both command (runs_as command commands.Run x.command_is tt) on)
  chunks_due (a.Made iteration seed size output live) x =
      absurd (not_both command (runs_as command (commands.Make seed size) x.command_is tt) on)
  chunks_due (a.Text text) x = absurd (x.other (inr on))
  chunks_due (a.Ended end) x = absurd (not_both command x.runs on)
  chunks_due (a.Recovery fault) x = absurd (not_both command x.0 on)
  chunks_due (a.Chunked done) x = no_chunk_fault x.command_is (x.no_fault tells)
  chunks_due (a.Recombined done) x = no_recombine_fault x.command_is (x.no_fault tells)
  chunks_due (a.Chunks fault) x = inl (sym (ap status_by (x.fault_is tells)))
  chunks_due a.Disk x = absurd (calm.disk x.1)
  chunks_due a.Wire x = absurd (calm.wire x.1)
  chunks_due a.Memory x = inr refl
  chunks_due a.Usage x = absurd x
  chunks_due (a.Refused fault) x = absurd x
  chunks_due a.Shelf x = absurd x

-- ---- a run from trails

-- a start comes to a checkpoint, or to none
record IsBegun (job : Job) (files : Files) : Type 0 where
  pub found : Option Checkpoint
  pub is : begun job files ≡ Ok found

begun_no : (job : Job) (files : Files) → job.recover ≡ No → IsBegun job files
begun_no job files given_up =
    record {
      found = None;
      is =
          ap (λ (r : Recover). begun_from job files r (newest_below slot_count files)) given_up;
    }

begun_some : (job : Job) (files : Files) (recover : Recover) (newest : Option Checkpoint)
    → begun job files ≡ begun_with recover newest → begun job files ≢ Err NoCheckpoint
    → IsBegun job files
begun_some job files No newest is other = record { found = None; is = is }
begun_some job files Auto None is other = absurd (other is)
begun_some job files Auto (Some c) is other = record { found = Some c; is = is }
begun_some job files Autoprobe newest is other = record { found = newest; is = is }

well_begun : (w : Work) (command : Command) (job : Job) (answer : Answer) → Runs command
    → ComesTo w command job answer → w.disk.tells → StartsWell (driven w job)
    → begun job w.disk.old.seen ≢ Err NoCheckpoint
    → IsBegun job w.disk.old.seen
well_begun w command job answer runs comes tells (inl (trails, fits)) other =
    let b = comes.begins runs tells trails in
    by b.newest b.begun_is
  where
    by : (newest : Option Checkpoint)
        → (begun job w.disk.old.seen ≡ begun_with job.recover newest)
        ⊎ IsTooLong job w.disk.old.seen newest → IsBegun job w.disk.old.seen
    by newest (inl is) = begun_some job w.disk.old.seen job.recover newest is other
    by newest (inr long) =
        absurd (fits (former_length long.checkpoint) greatest_former long.begun_is)
well_begun w command job answer runs comes tells (inr given_up) other =
    begun_no job w.disk.old.seen given_up

can_go_on : (w : Work) (job : Job) → StartsWell (driven w job) → CanGoOn w job
can_go_on w job (inl (trails, fits)) = inl trails
can_go_on w job (inr given_up) = inr given_up

module _ (c : Call) (sink : Lent (List ℕ)) (calm : IsCalm c sink) (told : AreTold c)
    (command : Command) (runs : Runs command) (job : Job) (well : StartsWell (driven c.work job))
    (begins : IsBegun job c.work.disk.old.seen) where
  come_due : (end : End) → HasRun c.work job end
      → status_at end ≡ status_at (end_of (setup_of job) c.work.rules)
  come_due end run = ap status_at (sym (run.come told (can_go_on c.work job well)).end_is)

  well_due : (answer : Answer) → Comes c.work command job answer
      → Due (status_at (end_of (setup_of job) c.work.rules)) (status_of answer)
  well_due (a.Done iteration) x = inl (come_due ends.Done x.run)
  well_due (a.Made iteration seed size output live) x = inl (come_due ends.Done x.run)
  well_due (a.Text text) x = absurd (x.other (inl runs))
  well_due (a.Chunked done) x = absurd (not_chunk command x.command_is runs)
  well_due (a.Recombined done) x = absurd (not_recombine command x.command_is runs)
  well_due (a.Chunks fault) x = absurd (not_both command runs x.command_is)
  well_due (a.Ended end) x = inl (status_other end x.other ∙ come_due end x.run)
  well_due (a.Recovery other) x =
      absurd (ok_not_err begins.found other (sym (x.1.began told.0) ∙ begins.is))
  well_due a.Disk x = absurd (calm.disk x.1)
  well_due a.Wire x = absurd (calm.wire x.1)
  well_due a.Memory x = inr refl
  well_due a.Usage x = absurd x
  well_due (a.Refused other) x = absurd x
  well_due a.Shelf x = absurd x

due_of : (c : Call) (sink : Lent (List ℕ)) (answer : Answer) → Explains c answer → IsCalm c sink
    → (s : ℕ) → Gives c s → Due s (status_of answer)
due_of c sink answer x calm s (Gives.usage none) = wrong_due c answer x none
due_of c sink answer x calm s (Gives.refused r asks told none) =
    faulty_due c answer calm.shelf (no_job c answer x r asks told none)
due_of c sink answer x calm s (Gives.told r job asks other told made) =
    go (job_of c answer x r job asks told made)
  where
    go : ComesTo c.work r.command job answer ⊎ HasFailed c answer → Due 0 (status_of answer)
    go (inl comes) = told_due c.work r.command job answer other comes.cause
    go (inr failed) = failed_due c answer 0 calm.shelf failed
due_of c sink answer x calm s (Gives.chunks tells r job asks on told made) =
    go (job_of c answer x r job asks told made)
  where
    go : ComesTo c.work r.command job answer ⊎ HasFailed c answer
        → Due (status_by (files_fault r.command job c.work.disk.old.seen)) (status_of answer)
    go (inl comes) = chunks_due c sink calm tells r.command on job answer comes.cause
    go (inr failed) = failed_due c answer
        (status_by (files_fault r.command job c.work.disk.old.seen)) calm.shelf failed
due_of c sink answer x calm s (Gives.recovery told job fault run begins) =
    go (run_of c answer x job run)
  where
    go : ComesTo c.work run.request.command job answer ⊎ HasFailed c answer
        → Due 6 (status_of answer)
    go (inl comes) = refused_due c sink calm told run.request.command run.runs job fault answer
        begins comes.cause
    go (inr failed) = failed_due c answer 6 calm.shelf failed
due_of c sink answer x calm s (Gives.run told job found run begins) = go (run_of c answer x job run)
  where
    go : ComesTo c.work run.request.command job answer ⊎ HasFailed c answer
        → Due (status_at (end_by (run_from (setup_of job) c.work.rules found).outcome))
        (status_of answer)
    go (inl comes) = run_due c sink calm told run.request.command run.runs job found answer begins
        comes.cause
    go (inr failed) = failed_due c answer
        (status_at (end_by (run_from (setup_of job) c.work.rules found).outcome)) calm.shelf failed
due_of c sink answer x calm s (Gives.well told job run well other) = go (run_of c answer x job run)
  where
    go : ComesTo c.work run.request.command job answer ⊎ HasFailed c answer
        → Due (status_at (end_of (setup_of job) c.work.rules)) (status_of answer)
    go (inl comes) =
        well_due c sink calm told run.request.command run.runs job well
        (well_begun c.work run.request.command job answer run.runs comes told.0 well other)
        answer comes.cause
    go (inr failed) = failed_due c answer (status_at (end_of (setup_of job) c.work.rules))
        calm.shelf failed

due_said : (n result s : ℕ) → (result ≡ n) ⊎ (result ≡ 5) → Due s n → Due s result
due_said n result s (inl e) (inl d) = inl (e ∙ d)
due_said n result s (inl e) (inr d) = inr (e ∙ d)
due_said n result s (inr e) due = inr e

-- ---- a file that makes a fault

refused_said : (sink : Lent (List ℕ)) (told fault : JobFault) (answer : Answer) (result : ℕ)
    → answer ≡ a.Refused told → without_witness told ≡ without_witness fault
    → (HasRisen sink.faults → ⊥) → WasSaid sink answer result
    → IsRefusedFor fault sink result ⊎ (result ≡ 5)
refused_said sink told fault answer result is alike calm (inl (inl p)) =
    inl (record {
      told = told;
      alike = alike;
      said = subst (λ (x : Answer). Says sink (status_of x) (text_of x) result) is p;
    })
refused_said sink told fault answer result is alike calm (inl (inr p)) = absurd (calm p.rose)
refused_said sink told fault answer result is alike calm (inr (inl p)) = inr p.status_is
refused_said sink told fault answer result is alike calm (inr (inr p)) = absurd (calm p.rose)

five_said : (sink : Lent (List ℕ)) (answer : Answer) (result : ℕ) → answer ≡ a.Memory
    → (HasRisen sink.faults → ⊥) → WasSaid sink answer result → result ≡ 5
five_said sink answer result is calm said = go (calm_status sink answer result said calm)
  where
    go : (result ≡ status_of answer) ⊎ (result ≡ 5) → result ≡ 5
    go (inl e) = e ∙ ap status_of is
    go (inr e) = e

fault_due : (c : Call) (sink : Lent (List ℕ)) (fault : JobFault) (answer : Answer) (result : ℕ)
    → IsFaultOf c fault answer → WasSaid sink answer result
    → (HasRisen c.shelf.faults → ⊥) → (HasRisen sink.faults → ⊥)
    → IsRefusedFor fault sink result ⊎ (result ≡ 5)
fault_due c sink fault answer result x said calm_shelf calm_sink = go x.alike (sorted x.is.found)
  where
    go : (x.is.found ≡ faults.Memory)
        ⊎ ((x.is.found ≡ faults.Shelf) ⊎ (without_witness x.is.found ≡ without_witness fault))
        → IsSorted x.is.found
        → IsRefusedFor fault sink result ⊎ (result ≡ 5)
    go (inl is) s =
        inr (five_said sink answer result (x.is.answer_is ∙ ap answer_of is) calm_sink said)
    go (inr (inl is)) s = absurd (calm_shelf (x.is.rose is))
    go (inr (inr alike)) (by_shelf is e) = absurd (calm_shelf (x.is.rose is))
    go (inr (inr alike)) (by_memory e) =
        inr (five_said sink answer result (x.is.answer_is ∙ e) calm_sink said)
    go (inr (inr alike)) (refused e) =
        refused_said sink x.is.found fault answer result (x.is.answer_is ∙ e) alike calm_sink said

pub owes : (c : Call) (sink : Lent (List ℕ)) (answer : Answer) (result : ℕ) → Explains c answer
    → WasSaid sink answer result → Owes c sink result
owes c sink answer result x said =
    record {
      status = λ calm s gives.
          due_said (status_of answer) result s (calm_status sink answer result said calm.sink_)
          (due_of c sink answer x calm s gives);
      fault = λ r fault asks told made calm_shelf calm_sink.
          fault_due c sink fault answer result (fault_of c answer x r fault asks told made)
          said calm_shelf calm_sink;
      sink_failed = λ rises. sink_failed sink answer result said rises;
    }
