-- What comes of a run of a file, as an answer.
use Rattle.std.proofs.Common.{◌≡◌, ◌⊎◌, ◌∙◌, Ok, inl, inr, refl, sym}
use Rattle.cx_core.specs.Cores.{Cores}
use Rattle.cx_plan.specs.declared.job.Job.{Job}
use Rattle.cx_run.specs.Answers.{AnswersRun, answer_at, end_in, summed}
use Rattle.cx_run.specs.declared.reply.Answer.{Answer}
use Rattle.cx_run.specs.declared.reply.Answer.TheVariants as a
use Rattle.cx_run.specs.declared.words.Command.TheVariants.{Run}

-- nothing more is told of it
summed_run : (job : Job) (core : Cores) (x : Answer) → summed Run job core x ≡ x
summed_run job core (a.Done iteration) = refl
summed_run job core (a.Made iteration seed size output live) = refl
summed_run job core (a.Text text) = refl
summed_run job core a.Usage = refl
summed_run job core (a.Refused fault) = refl
summed_run job core (a.Ended end) = refl
summed_run job core a.Shelf = refl
summed_run job core a.Disk = refl
summed_run job core a.Wire = refl
summed_run job core a.Memory = refl
summed_run job core (a.Recovery fault) = refl
summed_run job core (a.Chunked done) = refl
summed_run job core (a.Recombined done) = refl
summed_run job core (a.Chunks fault) = refl

pub answers_run : (job : Job) (core : Cores) (x : Answer)
    → (x ≡ a.Memory) ⊎ (x ≡ answer_at job.itlast (end_in core.outcome))
    → AnswersRun Run job (Ok core) x
answers_run job core x (inl memory) = inl memory
answers_run job core x (inr is) =
    inr (is ∙ sym (summed_run job core (answer_at job.itlast (end_in core.outcome))))
