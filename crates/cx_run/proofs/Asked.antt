-- What a call comes to for the words that it was given.
use Rattle.std.proofs.Common.{◌≡◌, ◌≢◌, ◌⊎◌, ◌∙◌, Option, Some, None, Result, Ok, Err, inl, inr, refl, sym, ap, subst, arith}
use Rattle.cx_plan.specs.declared.job.Job.{Job}
use Rattle.cx_job_files.specs.Shelf.{Held}
use Rattle.cx_job.specs.Making.{IsReady, without_witness}
use Rattle.cx_job.specs.declared.fault.JobFault.{JobFault}
use Rattle.cx_job.specs.declared.fault.JobFault.TheVariants as faults
use Rattle.cx_run_loop.specs.Lent.{HasRisen}
use Rattle.cx_run.specs.Answers.{answer_of}
use Rattle.cx_run.specs.Calls.{Lent, Call, Makes, TellsFiles, SparesShelf, IsStill, shelf_for}
use Rattle.cx_run.specs.Causes.{ComesTo, FollowsFault, Follows, IsAsked, Explains, MakesAs, TurnsBegin}
use Rattle.cx_run.specs.Words.{Request, asked}
use Rattle.cx_run.specs.declared.reply.Answer.{Answer}
use Rattle.cx_run.specs.declared.reply.Answer.TheVariants as a
use Rattle.cx_run.specs.declared.words.Command.{Command}
use Rattle.cx_run.specs.declared.words.Command.TheVariants as commands

some_same : {A : Type 0} (x y : A) → Some x ≡ Some y → x ≡ y
some_same x y e = cc

none_some : {A : Type 0} (x : A) → None ≡ Some x → ⊥
none_some x e = cc

pub not_asked : {A : Type 0} (o : Option A) (x : A) → o ≡ None → o ≡ Some x → ⊥
not_asked o x none some = none_some x (sym none ∙ some)

pub same_request : (c : Call) (answer : Answer) (x : IsAsked c answer) (r : Request)
    → asked c.words ≡ Some r → x.request ≡ r
same_request c answer x r asks = some_same x.request r (sym x.asks ∙ asks)

-- a shelf that a command reads has failed: then it is the one that was lent
rises_lent : (lent : Lent Held) (command : Command) → HasRisen (shelf_for lent command).faults
    → HasRisen lent.faults
rises_lent lent (commands.Make seed size) rose = absurd (never rose)
  where
    never : HasRisen (record { old = 0; new = 0 }) → ⊥
    never h = omega (arith, h)
rises_lent lent command rose = rose

-- the shelf failed or memory runs out, and nothing was touched
pub data HasFailed (c : Call) (answer : Answer) : Type 0 where
  shelf : answer ≡ a.Shelf → HasRisen c.shelf.faults → IsStill c.work → HasFailed c answer
  memory : answer ≡ a.Memory → IsStill c.work → HasFailed c answer

-- ---- where the files make a job

abbrev a_fault : JobFault → Result Job JobFault
a_fault fault = Err fault

abbrev a_job : Job → Result Job JobFault
a_job job = Ok job

err_is : (x y : JobFault) → x ≡ y → a_fault x ≡ a_fault y
err_is x y e = ap a_fault e

failed_with : (c : Call) (r : Request) (fault : JobFault) (answer : Answer)
    → MakesAs c r (Err fault) → FollowsFault c fault answer
    → (fault ≡ faults.Memory) ⊎ (fault ≡ faults.Shelf) → HasFailed c answer
failed_with c r fault answer makes follows (inl is) =
    memory (follows.answer_is ∙ ap answer_of is) follows.still
failed_with c r fault answer makes follows (inr is) =
    shelf (follows.answer_is ∙ ap answer_of is)
    (rises_lent c.shelf r.command (makes.cause.failed (err_is fault faults.Shelf is))) follows.still

job_found : (c : Call) (r : Request) (command : Command) (found : Result Job JobFault)
    (answer : Answer) → MakesAs c r found → Follows c command found answer
    → TellsFiles c r → (job : Job) → Makes c r (Ok job)
    → ComesTo c.work command job answer ⊎ HasFailed c answer
job_found c r command (Ok other) answer makes follows told job made =
    inl (subst (λ (x : Job). ComesTo c.work command x answer) (makes.only told job made)
    follows.comes)
job_found c r command (Err fault) answer makes follows told job made =
    inr (failed_with c r fault answer makes follows (makes.only told job made))

-- the words ask for this, and the files make this job: what the command comes to with it
pub job_of : (c : Call) (answer : Answer) → Explains c answer → (r : Request) (job : Job)
    → asked c.words ≡ Some r → TellsFiles c r → Makes c r (Ok job)
    → ComesTo c.work r.command job answer ⊎ HasFailed c answer
job_of c answer (inl wrong) r job asks told made =
    absurd (not_asked (asked c.words) r wrong.words asks)
job_of c answer (inr x) r job asks told made =
    let same = same_request c answer x r asks in
    subst (λ (q : Request). ComesTo c.work q.command job answer ⊎ HasFailed c answer) same
    (job_found c x.request x.request.command x.found answer x.makes x.follows
    (subst (λ (q : Request). TellsFiles c q) (sym same) told) job
    (subst (λ (q : Request). Makes c q (Ok job)) (sym same) made))

-- ---- where they make a fault

pub data IsSorted (fault : JobFault) : Type 0 where
  by_shelf : fault ≡ faults.Shelf → answer_of fault ≡ a.Shelf → IsSorted fault
  by_memory : answer_of fault ≡ a.Memory → IsSorted fault
  refused : answer_of fault ≡ a.Refused fault → IsSorted fault

pub sorted : (fault : JobFault) → IsSorted fault
sorted faults.Shelf = by_shelf refl refl
sorted faults.Memory = by_memory refl
sorted (faults.NoFile name) = refused refl
sorted (faults.Text name fault) = refused refl
sorted (faults.Ccl name fault) = refused refl
sorted (faults.Bind fault) = refused refl
sorted (faults.Value fault) = refused refl
sorted (faults.Steer name fault) = refused refl
sorted (faults.Order fault) = refused refl
sorted (faults.UnknownRoutine path) = refused refl
sorted (faults.RoutineMismatch path declared offered) = refused refl
sorted (faults.Limit what count) = refused refl
sorted (faults.Cut fault) = refused refl
sorted (faults.TooLarge path points cap) = refused refl
sorted (faults.Region fault) = refused refl

-- a fault that is found, and why it is the answer
pub record IsFaulty (c : Call) (answer : Answer) : Type 0 where
  pub found : JobFault
  pub answer_is : answer ≡ answer_of found
  pub still : IsStill c.work
  pub rose : found ≡ faults.Shelf → HasRisen c.shelf.faults

-- the files make no job: a fault is found
no_job_found : (c : Call) (r : Request) (command : Command) (found : Result Job JobFault)
    (answer : Answer) → MakesAs c r found → Follows c command found answer
    → TellsFiles c r → ((job : Job) → Makes c r (Ok job) → ⊥) → IsFaulty c answer
no_job_found c r command (Ok job) answer makes follows told none = absurd (go (makes.answers told))
  where
    go : (Ok job ≡ Err faults.Memory) ⊎ ((Ok job ≡ Err faults.Shelf) ⊎ Makes c r (Ok job)) → ⊥
    go (inl e) = absurd cc
    go (inr (inl e)) = absurd cc
    go (inr (inr made)) = none job made
no_job_found c r command (Err fault) answer makes follows told none =
    record {
      found = fault;
      answer_is = follows.answer_is;
      still = follows.still;
      rose = λ is. rises_lent c.shelf r.command
          (makes.cause.failed (err_is fault faults.Shelf is));
    }

pub no_job : (c : Call) (answer : Answer) → Explains c answer → (r : Request)
    → asked c.words ≡ Some r → TellsFiles c r → ((job : Job) → Makes c r (Ok job) → ⊥)
    → IsFaulty c answer
no_job c answer (inl wrong) r asks told none = absurd (not_asked (asked c.words) r wrong.words asks)
no_job c answer (inr x) r asks told none =
    let same = same_request c answer x r asks in
    no_job_found c x.request x.request.command x.found answer x.makes x.follows
    (subst (λ (q : Request). TellsFiles c q) (sym same) told)
    (λ job made. none job (subst (λ (q : Request). Makes c q (Ok job)) same made))

-- of several faults the one that is found, but for the cycle or the path that is shown
pub record IsFaultOf (c : Call) (fault : JobFault) (answer : Answer) : Type 0 where
  pub is : IsFaulty c answer
  pub alike : (is.found ≡ faults.Memory)
      ⊎ ((is.found ≡ faults.Shelf) ⊎ (without_witness is.found ≡ without_witness fault))

fault_found : (c : Call) (r : Request) (command : Command) (found : Result Job JobFault)
    (answer : Answer) → MakesAs c r found → Follows c command found answer
    → TellsFiles c r → (fault : JobFault) → Makes c r (Err fault) → IsFaultOf c fault answer
fault_found c r command (Ok job) answer makes follows told fault made =
    absurd (makes.faulty told fault made)
fault_found c r command (Err other) answer makes follows told fault made =
    record {
      is = record {
        found = other;
        answer_is = follows.answer_is;
        still = follows.still;
        rose = λ is. rises_lent c.shelf r.command
            (makes.cause.failed (err_is other faults.Shelf is));
      };
      alike = makes.faulty told fault made;
    }

pub fault_of : (c : Call) (answer : Answer) → Explains c answer → (r : Request) (fault : JobFault)
    → asked c.words ≡ Some r → TellsFiles c r → Makes c r (Err fault) → IsFaultOf c fault answer
fault_of c answer (inl wrong) r fault asks told made =
    absurd (not_asked (asked c.words) r wrong.words asks)
fault_of c answer (inr x) r fault asks told made =
    let same = same_request c answer x r asks in
    fault_found c x.request x.request.command x.found answer x.makes x.follows
    (subst (λ (q : Request). TellsFiles c q) (sym same) told) fault
    (subst (λ (q : Request). Makes c q (Err fault)) (sym same) made)

-- ---- from what the functions of a call ensure

pub with_job : (c : Call) (r : Request) (job : Job) (answer : Answer) → asked c.words ≡ Some r
    → SparesShelf c.shelf r.command → MakesAs c r (Ok job) → IsReady c.work.specs job
    → ComesTo c.work r.command job answer → TurnsBegin c r (Ok job) → Explains c answer
with_job c r job answer asks spared makes ready comes turns =
    inr (record {
      request = r;
      asks = asks;
      found = Ok job;
      shelf = spared;
      makes = makes;
      follows = record { whole = ready.whole; fit = ready.fit; comes = comes };
      turns = turns;
    })

pub with_fault : (c : Call) (r : Request) (fault : JobFault) (answer : Answer)
    → asked c.words ≡ Some r → SparesShelf c.shelf r.command → MakesAs c r (Err fault)
    → answer ≡ answer_of fault
    → IsStill c.work → Explains c answer
with_fault c r fault answer asks spared makes is still =
    inr (record {
      request = r;
      asks = asks;
      found = Err fault;
      shelf = spared;
      makes = makes;
      follows = record { answer_is = is; still = still };
      turns = tt;
    })

-- ---- the shelf

-- a request that leaves it alone has done so
pub spared : (c : Call) (answer : Answer) → Explains c answer → (r : Request)
    → asked c.words ≡ Some r → SparesShelf c.shelf r.command
spared c answer (inl wrong) r asks = absurd (not_asked (asked c.words) r wrong.words asks)
spared c answer (inr x) r asks =
    subst (λ (q : Request). SparesShelf c.shelf q.command) (same_request c answer x r asks) x.shelf

-- ---- what a call's cause says of the files

pub job_made : (c : Call) (answer : Answer) (x : IsAsked c answer) (job : Job) → x.found ≡ Ok job
    → TellsFiles c x.request → Makes c x.request (Ok job)
job_made c answer x job is told =
    go (subst (λ (found : Result Job JobFault). MakesAs c x.request found) is x.makes)
  where
    from : (a_job job ≡ a_fault faults.Memory)
        ⊎ ((a_job job ≡ a_fault faults.Shelf) ⊎ Makes c x.request (Ok job))
        → Makes c x.request (Ok job)
    from (inl e) = absurd cc
    from (inr (inl e)) = absurd cc
    from (inr (inr made)) = made

    go : MakesAs c x.request (Ok job) → Makes c x.request (Ok job)
    go makes = from (makes.answers told)

pub fault_made : (c : Call) (answer : Answer) (x : IsAsked c answer) (fault : JobFault)
    → x.found ≡ Err fault → fault ≢ faults.Memory → fault ≢ faults.Shelf → TellsFiles c x.request
    → Makes c x.request (Err fault)
fault_made c answer x fault is not_memory not_shelf told =
    go (subst (λ (found : Result Job JobFault). MakesAs c x.request found) is x.makes)
  where
    same : (e f : JobFault) → a_fault e ≡ a_fault f → e ≡ f
    same e f is = cc

    from : (a_fault fault ≡ a_fault faults.Memory)
        ⊎ ((a_fault fault ≡ a_fault faults.Shelf) ⊎ Makes c x.request (Err fault))
        → Makes c x.request (Err fault)
    from (inl e) = absurd (not_memory (same fault faults.Memory e))
    from (inr (inl e)) = absurd (not_shelf (same fault faults.Shelf e))
    from (inr (inr made)) = made

    go : MakesAs c x.request (Err fault) → Makes c x.request (Err fault)
    go makes = from (makes.answers told)
