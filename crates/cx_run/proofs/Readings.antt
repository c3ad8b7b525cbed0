-- What each status says, drawn from the clauses of the top call.
use Rattle.std.proofs.Common.{◌≡◌, ◌≢◌, ◌⊎◌, ◌∙◌, ℕ, ℤ, List, Some, None, Result, Ok, Err, inl, inr, refl, sym, ap, subst}
use Rattle.cx_plan.specs.declared.job.Job.{Job}
use Rattle.cx_model.specs.declared.ends.End.{End}
use Rattle.cx_model.specs.declared.ends.End.TheVariants as ends
use Rattle.cx_job.specs.declared.fault.JobFault.{JobFault}
use Rattle.cx_keep.specs.declared.fault.BeginFault.{BeginFault}
use Rattle.cx_run_loop.specs.Drives.{IsRefused}
use Rattle.cx_run.specs.Answers.{status_of, text_of, answer_of, Said, WasSaid, IsStatus, IsPlainStatus, IsStatusFor}
use Rattle.cx_run.specs.Calls.{Lent, Work, Call, Makes, TellsFiles, IsStill, driven}
use Rattle.cx_run.specs.Causes.{HasRun, IsSummed, Comes, Follows, Explains}
use Rattle.cx_run_chunks.specs.declared.summary.Chunked.{Chunked}
use Rattle.cx_run_chunks.specs.declared.summary.Recombined.{Recombined}
use Rattle.cx_run.specs.Chunks.{HasChunked, HasRecombined, OnChunks, UsesDisk, chunked_text, recombined_text}
use Rattle.cx_run.proofs.ChunkLaws.{not_both}
use Rattle.cx_run.specs.Clauses.{Obeys}
use Rattle.cx_run.specs.FaultWords.{refused_text}
use Rattle.cx_run.specs.Sink.{Adds}
use Rattle.cx_run.specs.Texts.{command_text, done_text, made_text, ended_text, recovery_text}
use Rattle.cx_run.specs.Words.{Request, asked}
use Rattle.cx_run.specs.declared.reply.Answer.{Answer}
use Rattle.cx_run.specs.declared.reply.Answer.TheVariants as a
use Rattle.cx_run.specs.declared.words.Command.{Command}
use Rattle.cx_run.specs.declared.words.Command.TheVariants as commands
use Rattle.cx_run.proofs.Asked.{IsSorted, by_shelf, by_memory, refused, sorted, not_asked, same_request, job_made}
use Rattle.cx_run.proofs.Clauses.{said_status, said_text}

-- two statuses
no_0 : (n : ℕ) → n ≡ 0 → n ≡ 1 → ⊥
no_0 n e f = absurd cc

no_2 : (n : ℕ) → n ≡ 2 → n ≡ 1 → ⊥
no_2 n e f = absurd cc

no_3 : (n : ℕ) → n ≡ 3 → n ≡ 1 → ⊥
no_3 n e f = absurd cc

no_4 : (n : ℕ) → n ≡ 4 → n ≡ 1 → ⊥
no_4 n e f = absurd cc

no_5 : (n : ℕ) → n ≡ 5 → n ≡ 1 → ⊥
no_5 n e f = absurd cc

no_6 : (n : ℕ) → n ≡ 6 → n ≡ 1 → ⊥
no_6 n e f = absurd cc

no_7 : (n : ℕ) → n ≡ 7 → n ≡ 1 → ⊥
no_7 n e f = absurd cc

-- ---- what a status says of the words

status_is : (answer : Answer) → IsStatus (status_of answer)
status_is (a.Done iteration) = inl refl
status_is (a.Made iteration seed size output live) = inl refl
status_is (a.Text text) = inl refl
status_is a.Usage = inr (inl refl)
status_is (a.Refused fault) = inr (inr (inl refl))
status_is (a.Ended end) = inr (inr (inr (inl refl)))
status_is a.Shelf = inr (inr (inr (inr (inl refl))))
status_is a.Disk = inr (inr (inr (inr (inl refl))))
status_is a.Wire = inr (inr (inr (inr (inl refl))))
status_is a.Memory = inr (inr (inr (inr (inr (inl refl)))))
status_is (a.Recovery fault) = inr (inr (inr (inr (inr (inr (inl refl))))))
status_is (a.Chunked counts) = inl refl
status_is (a.Recombined counts) = inl refl
status_is (a.Chunks fault) = inr (inr (inr (inr (inr (inr (inr refl))))))

known : (sink : Lent (List ℕ)) (answer : Answer) (result : ℕ) → Said sink answer result
    → IsStatus result
known sink answer result (inl p) =
    subst (λ (s : ℕ). IsStatus s) (sym p.status_is) (status_is answer)
known sink answer result (inr p) = inr (inr (inr (inr (inl p.status_is))))

status_known : (sink : Lent (List ℕ)) (answer : Answer) (result : ℕ) → WasSaid sink answer result
    → IsStatus result
status_known sink answer result (inl said) = known sink answer result said
status_known sink answer result (inr said) = known sink a.Memory result said

wrong_said : (sink : Lent (List ℕ)) (answer : Answer) (result : ℕ) → answer ≡ a.Usage
    → WasSaid sink answer result → (result ≡ 1) ⊎ ((result ≡ 4) ⊎ (result ≡ 5))
wrong_said sink answer result is (inl (inl p)) = inl (p.status_is ∙ ap status_of is)
wrong_said sink answer result is (inl (inr p)) = inr (inl p.status_is)
wrong_said sink answer result is (inr (inl p)) = inr (inr p.status_is)
wrong_said sink answer result is (inr (inr p)) = inr (inl p.status_is)

wrong_answer : (c : Call) (answer : Answer) → Explains c answer → asked c.words ≡ None
    → answer ≡ a.Usage
wrong_answer c answer (inl wrong) none = wrong.answer_is
wrong_answer c answer (inr x) none = absurd (not_asked (asked c.words) x.request none x.asks)

comes_not_1 : (w : Work) (command : Command) (job : Job) (answer : Answer)
    → Comes w command job answer → status_of answer ≡ 1 → ⊥
comes_not_1 w command job (a.Done iteration) x e = absurd cc
comes_not_1 w command job (a.Made iteration seed size output live) x e = absurd cc
comes_not_1 w command job (a.Text text) x e = absurd cc
comes_not_1 w command job a.Usage x e = x
comes_not_1 w command job (a.Refused fault) x e = x
comes_not_1 w command job (a.Ended end) x e = absurd cc
comes_not_1 w command job a.Shelf x e = x
comes_not_1 w command job a.Disk x e = absurd cc
comes_not_1 w command job a.Wire x e = absurd cc
comes_not_1 w command job a.Memory x e = absurd cc
comes_not_1 w command job (a.Recovery fault) x e = absurd cc
comes_not_1 w command job (a.Chunked counts) x e = absurd cc
comes_not_1 w command job (a.Recombined counts) x e = absurd cc
comes_not_1 w command job (a.Chunks fault) x e = absurd cc

fault_not_1 : (fault : JobFault) (answer : Answer) → answer ≡ answer_of fault → IsSorted fault
    → status_of answer ≡ 1 → ⊥
fault_not_1 fault answer is (by_shelf same e) one =
    no_4 (status_of answer) (ap status_of (is ∙ e)) one
fault_not_1 fault answer is (by_memory e) one = no_5 (status_of answer) (ap status_of (is ∙ e)) one
fault_not_1 fault answer is (refused e) one = no_2 (status_of answer) (ap status_of (is ∙ e)) one

follows_not_1 : (c : Call) (command : Command) (found : Result Job JobFault) (answer : Answer)
    → Follows c command found answer → status_of answer ≡ 1 → ⊥
follows_not_1 c command (Ok job) answer x e = comes_not_1 c.work command job answer x.comes.cause e
follows_not_1 c command (Err fault) answer x e =
    fault_not_1 fault answer x.answer_is (sorted fault) e

usage_words : (c : Call) (answer : Answer) → Explains c answer → status_of answer ≡ 1
    → asked c.words ≡ None
usage_words c answer (inl wrong) e = wrong.words
usage_words c answer (inr x) e =
    absurd (follows_not_1 c x.request.command x.found answer x.follows e)

asked_words : (c : Call) (answer : Answer) → Explains c answer → status_of answer ≢ 1
    → (r : Request) × (asked c.words ≡ Some r)
asked_words c answer (inl wrong) other = absurd (other (ap status_of wrong.answer_is))
asked_words c answer (inr x) other = (x.request, x.asks)

other_said : (sink : Lent (List ℕ)) (answer : Answer) (result : ℕ) → WasSaid sink answer result
    → (result ≡ 0) ⊎ ((result ≡ 2) ⊎ ((result ≡ 3) ⊎ ((result ≡ 6) ⊎ (result ≡ 7))))
    → status_of answer ≢ 1
other_said sink answer result said (inl e) one =
    no_0 (status_of answer)
    (said_status sink answer result 0 said e (λ y. absurd cc) (λ y. absurd cc)) one
other_said sink answer result said (inr (inl e)) one =
    no_2 (status_of answer)
    (said_status sink answer result 2 said e (λ y. absurd cc) (λ y. absurd cc)) one
other_said sink answer result said (inr (inr (inl e))) one =
    no_3 (status_of answer)
    (said_status sink answer result 3 said e (λ y. absurd cc) (λ y. absurd cc)) one
other_said sink answer result said (inr (inr (inr (inl e)))) one =
    no_6 (status_of answer)
    (said_status sink answer result 6 said e (λ y. absurd cc) (λ y. absurd cc)) one
other_said sink answer result said (inr (inr (inr (inr e)))) one =
    no_7 (status_of answer)
    (said_status sink answer result 7 said e (λ y. absurd cc) (λ y. absurd cc)) one

-- ---- a command that isn't a run

plain_comes : (w : Work) (command : Command) (job : Job) (answer : Answer)
    → (UsesDisk command → ⊥)
    → Comes w command job answer → IsPlainStatus (status_of answer)
plain_comes w command job (a.Done iteration) none x = inl refl
plain_comes w command job (a.Made iteration seed size output live) none x = inl refl
plain_comes w command job (a.Text text) none x = inl refl
plain_comes w command job a.Usage none x = absurd x
plain_comes w command job (a.Refused fault) none x = absurd x
plain_comes w command job (a.Ended end) none x = absurd (none (inl x.runs))
plain_comes w command job a.Shelf none x = absurd x
plain_comes w command job a.Disk none x = inr (inr (inl refl))
plain_comes w command job a.Wire none x = inr (inr (inl refl))
plain_comes w command job a.Memory none x = inr (inr (inr refl))
plain_comes w command job (a.Recovery fault) none x = absurd (none (inl x.0))
plain_comes w command job (a.Chunked counts) none x = inl refl
plain_comes w command job (a.Recombined counts) none x = inl refl
plain_comes w command job (a.Chunks fault) none x = absurd (none (inr x.command_is))

plain_sorted : (fault : JobFault) → IsSorted fault → IsPlainStatus (status_of (answer_of fault))
plain_sorted fault (by_shelf same e) = inr (inr (inl (ap status_of e)))
plain_sorted fault (by_memory e) = inr (inr (inr (ap status_of e)))
plain_sorted fault (refused e) = inr (inl (ap status_of e))

plain_follows : (c : Call) (command : Command) (found : Result Job JobFault) (answer : Answer)
    → (UsesDisk command → ⊥) → Follows c command found answer
    → IsPlainStatus (status_of answer)
plain_follows c command (Ok job) answer none x =
    plain_comes c.work command job answer none x.comes.cause
plain_follows c command (Err fault) answer none x =
    subst (λ (y : Answer). IsPlainStatus (status_of y)) (sym x.answer_is)
    (plain_sorted fault (sorted fault))

plain_answer : (c : Call) (answer : Answer) → Explains c answer → (r : Request)
    → asked c.words ≡ Some r → (UsesDisk r.command → ⊥) → IsPlainStatus (status_of answer)
plain_answer c answer (inl wrong) r asks none =
    absurd (not_asked (asked c.words) r wrong.words asks)
plain_answer c answer (inr x) r asks none =
    plain_follows c x.request.command x.found answer
    (subst (λ (q : Request). UsesDisk q.command → ⊥) (sym (same_request c answer x r asks)) none)
    x.follows

plain_said : (sink : Lent (List ℕ)) (answer : Answer) (result : ℕ)
    → IsPlainStatus (status_of answer) → WasSaid sink answer result → IsPlainStatus result
plain_said sink answer result plain (inl (inl p)) =
    subst (λ (s : ℕ). IsPlainStatus s) (sym p.status_is) plain
plain_said sink answer result plain (inl (inr p)) = inr (inr (inl p.status_is))
plain_said sink answer result plain (inr (inl p)) = inr (inr (inr p.status_is))
plain_said sink answer result plain (inr (inr p)) = inr (inr (inl p.status_is))

-- ---- a command on chunks

abbrev IsChunksStatus : ℕ → Type 0
IsChunksStatus status = IsPlainStatus status ⊎ (status ≡ 7)

chunks_comes : (w : Work) (command : Command) (job : Job) (answer : Answer) → OnChunks command
    → Comes w command job answer → IsChunksStatus (status_of answer)
chunks_comes w command job (a.Done iteration) on x = inl (inl refl)
chunks_comes w command job (a.Made iteration seed size output live) on x = inl (inl refl)
chunks_comes w command job (a.Text text) on x = inl (inl refl)
chunks_comes w command job a.Usage on x = absurd x
chunks_comes w command job (a.Refused fault) on x = absurd x
chunks_comes w command job (a.Ended end) on x = absurd (not_both command x.runs on)
chunks_comes w command job a.Shelf on x = absurd x
chunks_comes w command job a.Disk on x = inl (inr (inr (inl refl)))
chunks_comes w command job a.Wire on x = inl (inr (inr (inl refl)))
chunks_comes w command job a.Memory on x = inl (inr (inr (inr refl)))
chunks_comes w command job (a.Recovery fault) on x = absurd (not_both command x.0 on)
chunks_comes w command job (a.Chunked counts) on x = inl (inl refl)
chunks_comes w command job (a.Recombined counts) on x = inl (inl refl)
chunks_comes w command job (a.Chunks fault) on x = inr refl

chunks_follows : (c : Call) (command : Command) (found : Result Job JobFault) (answer : Answer)
    → OnChunks command → Follows c command found answer → IsChunksStatus (status_of answer)
chunks_follows c command (Ok job) answer on x =
    chunks_comes c.work command job answer on x.comes.cause
chunks_follows c command (Err fault) answer on x =
    subst (λ (y : Answer). IsChunksStatus (status_of y)) (sym x.answer_is)
    (inl (plain_sorted fault (sorted fault)))

chunks_answer : (c : Call) (answer : Answer) → Explains c answer → (r : Request)
    → asked c.words ≡ Some r → OnChunks r.command → IsChunksStatus (status_of answer)
chunks_answer c answer (inl wrong) r asks on =
    absurd (not_asked (asked c.words) r wrong.words asks)
chunks_answer c answer (inr x) r asks on =
    chunks_follows c x.request.command x.found answer
    (subst (λ (q : Request). OnChunks q.command) (sym (same_request c answer x r asks)) on)
    x.follows

chunks_said : (sink : Lent (List ℕ)) (answer : Answer) (result : ℕ)
    → IsChunksStatus (status_of answer) → WasSaid sink answer result → IsChunksStatus result
chunks_said sink answer result is (inl (inl p)) =
    subst (λ (s : ℕ). IsChunksStatus s) (sym p.status_is) is
chunks_said sink answer result is (inl (inr p)) = inl (inr (inr (inl p.status_is)))
chunks_said sink answer result is (inr (inl p)) = inl (inr (inr (inr p.status_is)))
chunks_said sink answer result is (inr (inr p)) = inl (inr (inr (inl p.status_is)))

-- status 7 comes of these alone
seven_comes : (w : Work) (command : Command) (job : Job) (answer : Answer)
    → Comes w command job answer → status_of answer ≡ 7 → OnChunks command
seven_comes w command job (a.Done iteration) x e = absurd cc
seven_comes w command job (a.Made iteration seed size output live) x e = absurd cc
seven_comes w command job (a.Text text) x e = absurd cc
seven_comes w command job a.Usage x e = absurd x
seven_comes w command job (a.Refused fault) x e = absurd x
seven_comes w command job (a.Ended end) x e = absurd cc
seven_comes w command job a.Shelf x e = absurd x
seven_comes w command job a.Disk x e = absurd cc
seven_comes w command job a.Wire x e = absurd cc
seven_comes w command job a.Memory x e = absurd cc
seven_comes w command job (a.Recovery fault) x e = absurd cc
seven_comes w command job (a.Chunked counts) x e = absurd cc
seven_comes w command job (a.Recombined counts) x e = absurd cc
seven_comes w command job (a.Chunks fault) x e = x.command_is

no_2_7 : (n : ℕ) → n ≡ 2 → n ≡ 7 → ⊥
no_2_7 n e f = absurd cc

no_4_7 : (n : ℕ) → n ≡ 4 → n ≡ 7 → ⊥
no_4_7 n e f = absurd cc

no_5_7 : (n : ℕ) → n ≡ 5 → n ≡ 7 → ⊥
no_5_7 n e f = absurd cc

seven_sorted : (fault : JobFault) → IsSorted fault → status_of (answer_of fault) ≡ 7 → ⊥
seven_sorted fault (by_shelf same is) e =
    absurd (no_4_7 (status_of (answer_of fault)) (ap status_of is) e)
seven_sorted fault (by_memory is) e =
    absurd (no_5_7 (status_of (answer_of fault)) (ap status_of is) e)
seven_sorted fault (refused is) e =
    absurd (no_2_7 (status_of (answer_of fault)) (ap status_of is) e)

seven_follows : (c : Call) (command : Command) (found : Result Job JobFault) (answer : Answer)
    → Follows c command found answer → status_of answer ≡ 7 → OnChunks command
seven_follows c command (Ok job) answer x e =
    seven_comes c.work command job answer x.comes.cause e
seven_follows c command (Err fault) answer x e =
    absurd (seven_sorted fault (sorted fault) (sym (ap status_of x.answer_is) ∙ e))

seven_answer : (c : Call) (answer : Answer) → Explains c answer → (r : Request)
    → asked c.words ≡ Some r → status_of answer ≡ 7 → OnChunks r.command
seven_answer c answer (inl wrong) r asks e =
    absurd (not_asked (asked c.words) r wrong.words asks)
seven_answer c answer (inr x) r asks e =
    subst (λ (q : Request). OnChunks q.command) (same_request c answer x r asks)
    (seven_follows c x.request.command x.found answer x.follows e)

-- every status is one for the words
pub status_for : (c : Call) (sink : Lent (List ℕ)) (result : ℕ) → Obeys c sink result
    → IsStatusFor c.words result
status_for c sink result obeys =
    let answer = obeys.printed.answer in
    let x = obeys.printed.cause in
    let said = obeys.printed.said in
    record {
      known = status_known sink answer result said;
      wrong_use = λ none. wrong_said sink answer result (wrong_answer c answer x none) said;
      usage = λ e. usage_words c answer x
          (said_status sink answer result 1 said e (λ y. absurd cc) (λ y. absurd cc));
      other = λ e. asked_words c answer x (other_said sink answer result said e);
      plain = λ r asks none. plain_said sink answer result
          (plain_answer c answer x r asks none) said;
      chunks = λ r asks on. chunks_said sink answer result
          (chunks_answer c answer x r asks on) said;
      refused = λ r asks e. seven_answer c answer x r asks
          (said_status sink answer result 7 said e (λ y. absurd cc) (λ y. absurd cc));
    }

-- ---- by status

-- where the sink tells, this was printed
abbrev pub Prints : Lent (List ℕ) → List ℕ → Type 0
Prints sink text = sink.tells → Adds text sink.old sink.new

-- the words ask for a command whose file makes this job
pub record IsMade (c : Call) (request : Request) (job : Job) : Type 0 where
  pub asks : asked c.words ≡ Some request
  pub makes : TellsFiles c request → Makes c request (Ok job)

-- 0: a run is done and has the undivided run's outputs, of a file or made, or another command has
-- its text, or has written chunks or the whole output
pub data Done (c : Call) (sink : Lent (List ℕ)) : Type 0 where
  run : (r : Request) (job : Job) → IsMade c r job → r.command ≡ commands.Run
      → HasRun c.work job ends.Done → Prints sink (done_text job.itlast) → Done c sink
  made_run : (r : Request) (job : Job) (seed size output : ℕ) (live : ℤ) → IsMade c r job
      → r.command ≡ commands.Make seed size → (ran : HasRun c.work job ends.Done)
      → IsSummed c.work job ran.found output live
      → Prints sink (made_text job.itlast seed size output live) → Done c sink
  told : (r : Request) (job : Job) → IsMade c r job → (UsesDisk r.command → ⊥) → IsStill c.work
      → Prints sink (command_text r.command job) → Done c sink
  chunked : (r : Request) (job : Job) (done : Chunked) → IsMade c r job
      → HasChunked c.work r.command job done → Prints sink (chunked_text done) → Done c sink
  recombined : (r : Request) (job : Job) (done : Recombined) → IsMade c r job
      → HasRecombined c.work r.command job done → Prints sink (recombined_text done)
      → Done c sink

-- 2: the file makes no job, for this reason
pub record Refused (c : Call) (sink : Lent (List ℕ)) : Type 0 where
  pub request : Request
  pub fault : JobFault
  pub asks : asked c.words ≡ Some request
  pub makes : TellsFiles c request → Makes c request (Err fault)
  pub still : IsStill c.work
  pub said : Prints sink (refused_text fault)

-- 3: a run came to another end
pub record Ended (c : Call) (sink : Lent (List ℕ)) : Type 0 where
  pub request : Request
  pub job : Job
  pub end : End
  pub made : IsMade c request job
  pub other : end ≢ ends.Done
  pub ran : HasRun c.work job end
  pub said : Prints sink (ended_text end)

-- 6: a run can't begin on what the disk holds
pub record NotBegun (c : Call) (sink : Lent (List ℕ)) : Type 0 where
  pub request : Request
  pub job : Job
  pub fault : BeginFault
  pub made : IsMade c request job
  pub refused_ : IsRefused (driven c.work job) fault
  pub said : Prints sink (recovery_text fault)

abbrev Printed : Lent (List ℕ) → Answer → Type 0
Printed sink answer = Prints sink (text_of answer)

no_fault_status : (fault : JobFault) (answer : Answer) (s : ℕ) → answer ≡ answer_of fault
    → IsSorted fault → status_of answer ≡ s → (s ≡ 2 → ⊥) → (s ≡ 4 → ⊥) → (s ≡ 5 → ⊥) → ⊥
no_fault_status fault answer s is (by_shelf same e) status not2 not4 not5 =
    not4 (sym (sym (ap status_of (is ∙ e)) ∙ status))
no_fault_status fault answer s is (by_memory e) status not2 not4 not5 =
    not5 (sym (sym (ap status_of (is ∙ e)) ∙ status))
no_fault_status fault answer s is (refused e) status not2 not4 not5 =
    not2 (sym (sym (ap status_of (is ∙ e)) ∙ status))

done_comes : (c : Call) (sink : Lent (List ℕ)) (r : Request) (job : Job) (answer : Answer)
    → IsMade c r job → Comes c.work r.command job answer → status_of answer ≡ 0
    → Printed sink answer → Done c sink
done_comes c sink r job (a.Done iteration) is x e said =
    run r job is x.command_is x.run
    (λ told. subst (λ (n : ℕ). Adds (done_text n) sink.old sink.new) x.last (said told))
done_comes c sink r job (a.Made iteration seed size output live) is x e said =
    made_run r job seed size output live is x.command_is x.run x.sums
    (λ told. subst (λ (n : ℕ). Adds (made_text n seed size output live) sink.old sink.new)
    x.last (said told))
done_comes c sink r job (a.Text text) made x e said =
    told r job made x.other x.still
    (λ told. subst (λ (t : List ℕ). Adds t sink.old sink.new) x.text_is (said told))
done_comes c sink r job a.Usage made x e said = absurd x
done_comes c sink r job (a.Refused fault) made x e said = absurd x
done_comes c sink r job (a.Ended end) made x e said = absurd cc
done_comes c sink r job a.Shelf made x e said = absurd x
done_comes c sink r job a.Disk made x e said = absurd cc
done_comes c sink r job a.Wire made x e said = absurd cc
done_comes c sink r job a.Memory made x e said = absurd cc
done_comes c sink r job (a.Recovery fault) made x e said = absurd cc
done_comes c sink r job (a.Chunked counts) made x e said = chunked r job counts made x said
done_comes c sink r job (a.Recombined counts) made x e said = recombined r job counts made x said
done_comes c sink r job (a.Chunks fault) made x e said = absurd cc

done_by : (c : Call) (sink : Lent (List ℕ)) (answer : Answer) → Explains c answer
    → status_of answer ≡ 0 → Printed sink answer → Done c sink
done_by c sink answer (inl wrong) e said =
    absurd (no_0 (status_of answer) e (ap status_of wrong.answer_is))
done_by c sink answer (inr x) e said = go x.found x.follows (job_made c answer x) e
  where
    go : (found : Result Job JobFault) → Follows c x.request.command found answer
        → ((job : Job) → found ≡ Ok job → TellsFiles c x.request → Makes c x.request (Ok job))
        → status_of answer ≡ 0 → Done c sink
    go (Ok job) f made e = done_comes c sink x.request job answer
        (record { asks = x.asks; makes = made job refl }) f.comes.cause e said
    go (Err fault) f made e =
        absurd (no_fault_status fault answer 0 f.answer_is (sorted fault) e (λ y. absurd cc)
        (λ y. absurd cc) (λ y. absurd cc))

pub done : (c : Call) (sink : Lent (List ℕ)) (result : ℕ) → Obeys c sink result → result ≡ 0
    → Done c sink
done c sink result obeys e =
    let answer = obeys.printed.answer in
    let said = obeys.printed.said in
    done_by c sink answer obeys.printed.cause
    (said_status sink answer result 0 said e (λ y. absurd cc) (λ y. absurd cc))
    (said_text sink answer result 0 said e (λ y. absurd cc) (λ y. absurd cc))

ended_comes : (c : Call) (sink : Lent (List ℕ)) (r : Request) (job : Job) (answer : Answer)
    → IsMade c r job → Comes c.work r.command job answer → status_of answer ≡ 3
    → Printed sink answer → Ended c sink
ended_comes c sink r job (a.Ended end) made x e said =
    record {
      request = r;
      job = job;
      end = end;
      made = made;
      other = x.other;
      ran = x.run;
      said = said;
    }
ended_comes c sink r job (a.Done iteration) made x e said = absurd cc
ended_comes c sink r job (a.Made iteration seed size output live) made x e said = absurd cc
ended_comes c sink r job (a.Text text) made x e said = absurd cc
ended_comes c sink r job a.Usage made x e said = absurd x
ended_comes c sink r job (a.Refused fault) made x e said = absurd x
ended_comes c sink r job a.Shelf made x e said = absurd x
ended_comes c sink r job a.Disk made x e said = absurd cc
ended_comes c sink r job a.Wire made x e said = absurd cc
ended_comes c sink r job a.Memory made x e said = absurd cc
ended_comes c sink r job (a.Recovery fault) made x e said = absurd cc
ended_comes c sink r job (a.Chunked counts) made x e said = absurd cc
ended_comes c sink r job (a.Recombined counts) made x e said = absurd cc
ended_comes c sink r job (a.Chunks fault) made x e said = absurd cc

ended_by : (c : Call) (sink : Lent (List ℕ)) (answer : Answer) → Explains c answer
    → status_of answer ≡ 3 → Printed sink answer → Ended c sink
ended_by c sink answer (inl wrong) e said =
    absurd (no_3 (status_of answer) e (ap status_of wrong.answer_is))
ended_by c sink answer (inr x) e said = go x.found x.follows (job_made c answer x) e
  where
    go : (found : Result Job JobFault) → Follows c x.request.command found answer
        → ((job : Job) → found ≡ Ok job → TellsFiles c x.request → Makes c x.request (Ok job))
        → status_of answer ≡ 3 → Ended c sink
    go (Ok job) f made e = ended_comes c sink x.request job answer
        (record { asks = x.asks; makes = made job refl }) f.comes.cause e said
    go (Err fault) f made e =
        absurd (no_fault_status fault answer 3 f.answer_is (sorted fault) e (λ y. absurd cc)
        (λ y. absurd cc) (λ y. absurd cc))

pub ended : (c : Call) (sink : Lent (List ℕ)) (result : ℕ) → Obeys c sink result → result ≡ 3
    → Ended c sink
ended c sink result obeys e =
    let answer = obeys.printed.answer in
    let said = obeys.printed.said in
    ended_by c sink answer obeys.printed.cause
    (said_status sink answer result 3 said e (λ y. absurd cc) (λ y. absurd cc))
    (said_text sink answer result 3 said e (λ y. absurd cc) (λ y. absurd cc))
