-- Sums of cells that stop at the greatest number.
use Rattle.std.proofs.Common.{◌≡◌, ◌∙◌, ℕ, ◌+◌, List, [], ◌∷◌, ◌++◌, map, sum, sym, ap, subst, arith}
use Rattle.std.proofs.lemmas.List.Sums.{sum_by-cons}
use Rattle.std.specs.List.{AllByRecursion}
use Rattle.cx_plan.specs.declared.job.Job.{Job}
use Rattle.cx_rule.specs.declared.spec.Spec.{Spec}
use Rattle.cx_job.proofs.CountLaws.{few_runs}
use Rattle.cx_job_files.specs.Shelf.{Held}
use Rattle.cx_run.specs.Calls.{Lent}
use Rattle.cx_text.specs.Numbers.{in_64_bits}
use Rattle.cx_run_batch.specs.Members.{waiting}
use Rattle.cx_run_batch.specs.declared.member.Member.{Member}
use Rattle.cx_several.specs.Cells.{IsCuttable}
use Rattle.cx_several.specs.Making.{AreServable, HasPushed, IsServable}

held_sum : (a b : ℕ) → in_64_bits (in_64_bits a + in_64_bits b) ≡ in_64_bits (a + b)
held_sum a b = omega arith

-- a sum with one number more in front
pub sum_held : (f : Job → ℕ) (job : Job) (jobs : List Job) (first others both : ℕ)
    → first ≡ in_64_bits (f job) → others ≡ in_64_bits (sum (map f jobs))
    → both ≡ in_64_bits (first + others) → both ≡ in_64_bits (sum (map f (job ∷ jobs)))
sum_held f job jobs first others both one more is =
    is ∙ ap (λ (n : ℕ). in_64_bits (n + others)) one
    ∙ ap (λ (n : ℕ). in_64_bits (in_64_bits (f job) + n)) more
    ∙ held_sum (f job) (sum (map f jobs))
    ∙ ap in_64_bits (sym (sum_by-cons (λ n. n) (f job) (map f jobs)))

-- ---- jobs that can be cut

cuttable : (specs : List Spec) (job : Job) → IsServable specs job → IsCuttable job
cuttable specs job x = record {
  shape = x.ready.whole.shape;
  few = few_runs job.plan x.ready.whole.nodes_limit;
}

all_cuttable : (specs : List Spec) (jobs : List Job) → AreServable specs jobs
    → AllByRecursion (λ (m : Member). IsCuttable m.job) (map waiting jobs)
all_cuttable specs [] x = tt
all_cuttable specs (job ∷ jobs) x = (cuttable specs job x.0, all_cuttable specs jobs x.1)

pub others_cuttable : (all others : List Member) (m : Member) → all ≡ m ∷ others
    → AllByRecursion (λ (m : Member). IsCuttable m.job) all
    → AllByRecursion (λ (m : Member). IsCuttable m.job) others
others_cuttable all others m is each =
    let both : AllByRecursion (λ (m : Member). IsCuttable m.job) (m ∷ others) =
    subst (λ l. AllByRecursion (λ (m : Member). IsCuttable m.job) l) is each in both.1

pub first_cuttable : (all others : List Member) (m : Member) → all ≡ m ∷ others
    → AllByRecursion (λ (m : Member). IsCuttable m.job) all → IsCuttable m.job
first_cuttable all others m is each =
    let both : AllByRecursion (λ (m : Member). IsCuttable m.job) (m ∷ others) =
    subst (λ l. AllByRecursion (λ (m : Member). IsCuttable m.job) l) is each in both.0

pub pushed_cuttable : (s : Lent Held) (specs : List Spec) (files : List (List ℕ))
    (old ms : List Member) → old ≡ [] → HasPushed s specs files old ms
    → AllByRecursion (λ (m : Member). IsCuttable m.job) ms
pushed_cuttable s specs files old ms none x =
    subst (λ (l : List Member). AllByRecursion (λ (m : Member). IsCuttable m.job) l)
    (sym (x.members ∙ ap (λ (l : List Member). l ++ map waiting x.jobs) none))
    (all_cuttable specs x.jobs x.servable)
