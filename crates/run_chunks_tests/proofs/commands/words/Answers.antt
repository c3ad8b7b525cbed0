use Rattle.std.proofs.Common.{◌≡◌, sym, subst}
use Rattle.std.specs.Prelude.{None}
use Rattle.cx_plan.specs.declared.job.Job.{Job}
use Rattle.cx_plan.specs.Whole.{IsWhole}
use Rattle.cx_cut.specs.Faults.{cut_fault}
use Rattle.cx_run_chunks.specs.Commands.{parts_in}
use Rattle.run_chunks_tests.proofs.SampleLaws.{sample-cut, sample-whole}
use Rattle.run_chunks_tests.proofs.commands.words.Goals as goal

pub chunk_words-requires-clause-whole : goal.chunk_words-requires-clause-whole
chunk_words-requires-clause-whole g c = subst IsWhole (sym c.in_ok-job.ensures) sample-whole

pub chunk_words-requires-clause-cut : goal.chunk_words-requires-clause-cut
chunk_words-requires-clause-cut g c =
    subst (λ (job : Job). cut_fault (parts_in job) ≡ None) (sym c.in_ok-job.ensures) sample-cut

pub recombine_words-requires-clause-whole : goal.recombine_words-requires-clause-whole
recombine_words-requires-clause-whole g c = subst IsWhole (sym c.in_ok-job.ensures) sample-whole

pub recombine_words-requires-clause-cut : goal.recombine_words-requires-clause-cut
recombine_words-requires-clause-cut g c =
    subst (λ (job : Job). cut_fault (parts_in job) ≡ None) (sym c.in_ok-job.ensures) sample-cut
