-- Jobs of files on the shelf that a command reads.
use Rattle.std.proofs.Common.{◌≡◌, ◌≤◌, ◌^◌, ℕ, Some, None, List, Result, Ok, Err, IfOk, inl, refl, subst, sym, arith}
use Rattle.cx_cut.specs.Faults.{parts_of, cut_fault}
use Rattle.cx_plan.specs.Paths.{Sound}
use Rattle.cx_plan.specs.Regions.{HasShapes}
use Rattle.cx_plan.specs.Setups.{setup_of}
use Rattle.cx_plan.specs.Whole.{IsWhole}
use Rattle.cx_plan.specs.declared.job.Job.{Job}
use Rattle.cx_rule.specs.Jobs.{FitJob}
use Rattle.cx_rule.specs.declared.spec.Spec.{Spec}
use Rattle.cx_job_files.specs.Shelf.{Held, looked_up}
use Rattle.cx_job.specs.LocalCells.{local_cells}
use Rattle.cx_outputs.specs.Names.{HasShortNames}
use Rattle.cx_job.specs.Making.{IsReady, Made, Makes as MakesWith}
use Rattle.cx_job.specs.declared.fault.JobFault.{JobFault}
use Rattle.cx_job.specs.declared.fault.JobFault.TheVariants as faults
use Rattle.cx_run_made.specs.Files.{made_files}
use Rattle.cx_run.specs.Calls.{Lent, SparesShelf, made_from, shelf_for, shelf_of}
use Rattle.cx_run.specs.Causes.{MakesOn}
use Rattle.cx_run.specs.declared.words.Command.{Command}
use Rattle.cx_run.specs.declared.words.Command.TheVariants as commands

-- all that is known of a job that was made
pub ready_of : (specs : List Spec) (made : Result Job JobFault) → IfOk made IsWhole
    → IfOk made (λ job. HasShapes (setup_of job) × Sound (setup_of job))
    → IfOk made (λ job. cut_fault (parts_of job.shape job.cut) ≡ None)
    → IfOk made (λ job. FitJob specs job) → IfOk made (λ job. local_cells job ≤ 2 ^ 27)
    → IfOk made (λ job. HasShortNames (setup_of job)) → IfOk made (IsReady specs)
ready_of specs (Ok job) whole sound cut fit few names =
    record {
      whole = whole;
      shapes = sound.0;
      sound = sound.1;
      fit = fit;
      cut = cut;
      few_cells = few;
      names = names;
    }
ready_of specs (Err e) whole sound cut fit few names = tt

-- want of memory before a job is made
pub wanting : (s : Lent Held) (file : List ℕ) (specs : List Spec) → (s.tells → s.new ≡ s.old)
    → s.faults.old ≤ s.faults.new → MakesOn s file specs (Err faults.Memory)
wanting s file specs same later =
    record {
      answers = λ told. inl refl;
      only = λ told job made. inl refl;
      faulty = λ told fault made. inl refl;
      same = same;
      cause = record { later = later; failed = λ e. absurd cc };
    }

-- what was answered on a shelf in memory that had these files
pub on_files : (files shelf : List (List ℕ × List ℕ)) (file : List ℕ) (specs : List Spec)
    (new : Held) (found : Result Job JobFault) → shelf ≡ files
    → MakesWith (Unit {0}) (Made file specs) (looked_up shelf) new 0 0 found
    → MakesOn (shelf_of files) file specs found
on_files files shelf file specs new found is makes =
    subst (λ (l : List (List ℕ × List ℕ)). MakesOn (shelf_of l) file specs found) is
    (record {
      answers = makes.answers;
      only = makes.only;
      faulty = makes.faulty;
      same = λ told. refl;
      cause = makes.cause;
    })

-- on the same files
pub same_files : (files others : List (List ℕ × List ℕ)) (file : List ℕ) (specs : List Spec)
    (found : Result Job JobFault) → files ≡ others
    → MakesOn (shelf_of files) file specs found → MakesOn (shelf_of others) file specs found
same_files files others file specs found is makes =
    subst (λ (l : List (List ℕ × List ℕ)). MakesOn (shelf_of l) file specs found) is makes

-- on whichever shelf
pub wanting_for : (lent : Lent Held) (command : Command) (file : List ℕ) (specs : List Spec)
    → lent.new ≡ lent.old → lent.faults.old ≤ lent.faults.new
    → MakesOn (shelf_for lent command) file specs (Err faults.Memory)
wanting_for lent (commands.Make seed size) file specs same later =
    wanting (shelf_of (made_files seed size)) file specs (λ told. refl) (omega arith)
wanting_for lent command file specs same later = wanting lent file specs (λ told. same) later

-- a shelf that isn't looked at is spared
pub spares_shelf : (lent : Lent Held) (command : Command) → lent.same → SparesShelf lent command
spares_shelf lent (commands.Make seed size) same = same
spares_shelf lent command same = tt

-- ---- by what a command makes its files from

pair_same : (a b : ℕ × ℕ) → Some a ≡ Some b → a ≡ b
pair_same a b e = cc

some_none : (pair : ℕ × ℕ) → Some pair ≡ None → ⊥
some_none pair e = cc

none_some : (pair : ℕ × ℕ) → None ≡ Some pair → ⊥
none_some pair e = cc

-- what was answered on the files that it makes
pub made_on : (lent : Lent Held) (command : Command) (pair : ℕ × ℕ) (name file : List ℕ)
    (specs : List Spec) (found : Result Job JobFault) → made_from command ≡ Some pair → name ≡ file
    → MakesOn (shelf_of (made_files pair.0 pair.1)) name specs found
    → MakesOn (shelf_for lent command) file specs found
made_on lent (commands.Make seed size) pair name file specs found is same makes =
    let own : ℕ × ℕ = (seed, size) in
    subst (λ (p : ℕ × ℕ). MakesOn (shelf_of (made_files p.0 p.1)) file specs found)
    (sym (pair_same own pair is))
    (subst (λ (f : List ℕ). MakesOn (shelf_of (made_files pair.0 pair.1)) f specs found) same makes)
made_on lent command pair name file specs found is same makes = absurd (none_some pair is)

-- and on the shelf that was lent
pub lent_on : (lent : Lent Held) (command : Command) (name file : List ℕ) (specs : List Spec)
    (found : Result Job JobFault) → made_from command ≡ None → name ≡ file
    → MakesOn lent name specs found → MakesOn (shelf_for lent command) file specs found
lent_on lent (commands.Make seed size) name file specs found is same makes =
    absurd (some_none (seed, size) is)
lent_on lent command name file specs found is same makes =
    subst (λ (f : List ℕ). MakesOn lent f specs found) same makes

pub lent_spared : (lent : Lent Held) (command : Command) → made_from command ≡ None
    → SparesShelf lent command
lent_spared lent (commands.Make seed size) is = absurd (some_none (seed, size) is)
lent_spared lent command is = tt
