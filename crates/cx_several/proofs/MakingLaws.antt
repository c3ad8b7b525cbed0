-- Jobs made one after another on one shelf.
use Rattle.std.proofs.Common.{◌≡◌, ◌≢◌, ◌⊎◌, ◌∙◌, ℕ, ◌≤◌, List, [], ◌∷◌, ◌++◌, map, Result, Ok, Err, Option, Some, None, inl, inr, refl, sym, ap, subst, arith}
use Rattle.std.proofs.lemmas.Bool.Decides.{nat_tests}
use Rattle.std.proofs.lemmas.List.{append-nil, append_assoc}
use Rattle.std.specs.List.{list_all}
use Rattle.std.specs.Prelude.{Bool, true, false, ◌&&◌, length, nat_le, nat_lt, ◌^◌, option_map, MatchResult, if◌then◌else◌}
use Rattle.cx_plan.specs.Lists.{or_else}
use Rattle.cx_text.specs.Numbers.{in_64_bits}
use Rattle.cx_plan.specs.declared.job.Job.{Job}
use Rattle.cx_rule.specs.declared.spec.Spec.{Spec}
use Rattle.cx_job.specs.Making.{Made, without_witness}
use Rattle.cx_job.specs.declared.fault.JobFault.{JobFault}
use Rattle.cx_job.specs.declared.fault.JobFault.TheVariants as faults
use Rattle.cx_job_files.specs.Shelf.{Held}
use Rattle.cx_job_files.specs.declared.shelf.Shelf.{Ghosts as ShelfGhosts}
use Rattle.cx_run_loop.specs.Lent.{HasRisen}
use Rattle.cx_run_batch.specs.Members.{jobs_of, waiting}
use Rattle.cx_run_batch.specs.declared.member.Member.{Member}
use Rattle.cx_run.specs.Calls.{Lent, lent_shelf}
use Rattle.cx_run.specs.Causes.{MakesOn}
use Rattle.cx_run.specs.Words.{is_file}
use Rattle.cx_several.specs.Cells.{local_by_all, owned_by_all}
use Rattle.cx_several.specs.Faults.{above, cells_fault, folder_fault, jobs_fault, of_file}
use Rattle.cx_several.specs.Folders.{same_folder}
use Rattle.cx_several.specs.Making.{AllMade, AreMade, AreRunnable, AreServable, HasMembers, HasPushed, IsFirstFault, IsServable, IsShelfKept, IsUnmade, IsWhy, IsWhyUnmade, PushesJobs}
use Rattle.cx_several.specs.Words.{are_files}
use Rattle.cx_several.specs.declared.fault.BatchFault.{BatchFault}
use Rattle.cx_several.specs.declared.fault.BatchFault.TheVariants as batch

abbrev a_job : Job → Result Job JobFault
a_job job = Ok job

abbrev a_fault : JobFault → Result Job JobFault
a_fault fault = Err fault

abbrev made_job : List ℕ → List Spec → Held → Job → Type 0
made_job file specs held job = Made file specs held (Ok job)

abbrev made_fault : List ℕ → List Spec → Held → JobFault → Type 0
made_fault file specs held fault = Made file specs held (Err fault)

-- a job that was given is the one that the files make
job_is_made : (file : List ℕ) (specs : List Spec) (held : Held) (job : Job)
    → (a_job job ≡ a_fault faults.Memory)
    ⊎ ((a_job job ≡ a_fault faults.Shelf) ⊎ Made file specs held (Ok job))
    → Made file specs held (Ok job)
job_is_made file specs held job (inl e) = absurd cc
job_is_made file specs held job (inr (inl e)) = absurd cc
job_is_made file specs held job (inr (inr made)) = made

fault_same : (e f : JobFault) → a_fault e ≡ a_fault f → e ≡ f
fault_same e f is = cc

fault_is_made : (file : List ℕ) (specs : List Spec) (held : Held) (fault : JobFault)
    → fault ≢ faults.Shelf → fault ≢ faults.Memory
    → (a_fault fault ≡ a_fault faults.Memory)
    ⊎ ((a_fault fault ≡ a_fault faults.Shelf) ⊎ Made file specs held (Err fault))
    → Made file specs held (Err fault)
fault_is_made file specs held fault not_shelf not_memory (inl e) =
    absurd (not_memory (fault_same fault faults.Memory e))
fault_is_made file specs held fault not_shelf not_memory (inr (inl e)) =
    absurd (not_shelf (fault_same fault faults.Shelf e))
fault_is_made file specs held fault not_shelf not_memory (inr (inr made)) = made

-- what fault of a batch a file's fault is
data IsSorted (file : List ℕ) (fault : JobFault) : Type 0 where
  by_shelf : fault ≡ faults.Shelf → IsSorted file fault
  by_memory : fault ≡ faults.Memory → IsSorted file fault
  by_other : fault ≢ faults.Shelf → fault ≢ faults.Memory
      → of_file file fault ≡ batch.Job file fault → IsSorted file fault

sorted : (file : List ℕ) (fault : JobFault) → IsSorted file fault
sorted file faults.Shelf = by_shelf refl
sorted file faults.Memory = by_memory refl
sorted file (faults.NoFile name) = by_other (λ e. absurd cc) (λ e. absurd cc) refl
sorted file (faults.Text name fault) = by_other (λ e. absurd cc) (λ e. absurd cc) refl
sorted file (faults.Ccl name fault) = by_other (λ e. absurd cc) (λ e. absurd cc) refl
sorted file (faults.Bind fault) = by_other (λ e. absurd cc) (λ e. absurd cc) refl
sorted file (faults.Value fault) = by_other (λ e. absurd cc) (λ e. absurd cc) refl
sorted file (faults.Steer name fault) = by_other (λ e. absurd cc) (λ e. absurd cc) refl
sorted file (faults.Order fault) = by_other (λ e. absurd cc) (λ e. absurd cc) refl
sorted file (faults.UnknownRoutine path) = by_other (λ e. absurd cc) (λ e. absurd cc) refl
sorted file (faults.RoutineMismatch path declared offered) =
    by_other (λ e. absurd cc) (λ e. absurd cc) refl
sorted file (faults.Limit name count) = by_other (λ e. absurd cc) (λ e. absurd cc) refl
sorted file (faults.Cut fault) = by_other (λ e. absurd cc) (λ e. absurd cc) refl
sorted file (faults.TooLarge path points cap) = by_other (λ e. absurd cc) (λ e. absurd cc) refl
sorted file (faults.Region fault) = by_other (λ e. absurd cc) (λ e. absurd cc) refl

-- ---- one shelf, from call to call

module _ {H : Type 0} (h : ShelfGhosts H) (specs : List Spec) where
  pub kept_still : (a : H) → IsShelfKept (lent_shelf h a a)
  kept_still a = record { held = λ told. refl; later = omega arith }

  pub kept_making : (a b : H) (file : List ℕ) (found : Result Job JobFault)
      → MakesOn (lent_shelf h a b) file specs found → IsShelfKept (lent_shelf h a b)
  kept_making a b file found makes = record { held = makes.same; later = makes.cause.later }

  pub kept_twice : (a b c : H) → IsShelfKept (lent_shelf h a b) → IsShelfKept (lent_shelf h b c)
      → IsShelfKept (lent_shelf h a c)
  kept_twice a b c one two = record {
    held = λ told. two.held told ∙ one.held told;
    later = let p = one.later in let q = two.later in omega (arith, p, q);
  }

  -- what was made within a longer call
  wider : (z a b c : H) (file : List ℕ) (job : Job) → IsShelfKept (lent_shelf h z a)
      → IsShelfKept (lent_shelf h b c) → MakesOn (lent_shelf h a b) file specs (Ok job)
      → MakesOn (lent_shelf h z c) file specs (Ok job)
  wider z a b c file job before after makes = record {
    answers = λ told. inr (inr (subst (λ (x : Held). Made file specs x (Ok job))
        (before.held told)
        (job_is_made file specs (h.held a) job (makes.answers told))));
    only = λ told other made. makes.only told other
        (subst (λ (x : Held). Made file specs x (Ok other)) (sym (before.held told)) made);
    faulty = λ told fault made. makes.faulty told fault
        (subst (λ (x : Held). Made file specs x (Err fault)) (sym (before.held told)) made);
    same = λ told. after.held told ∙ makes.same told ∙ before.held told;
    cause = record {
      later = let p = before.later in let q = makes.cause.later in let r = after.later in
          omega (arith, p, q, r);
      failed = λ e. absurd cc;
    };
  }

  all_wider : (a b c : H) (files : List (List ℕ)) (jobs : List Job)
      → IsShelfKept (lent_shelf h a b) → IsShelfKept (lent_shelf h b c)
      → AreMade (lent_shelf h b c) specs files jobs → AreMade (lent_shelf h a c) specs files jobs
  all_wider a b c [] [] before kept made = tt
  all_wider a b c [] (job ∷ jobs) before kept made = absurd made
  all_wider a b c (file ∷ files) [] before kept made = absurd made
  all_wider a b c (file ∷ files) (job ∷ jobs) before kept made = (
    wider a b c c file job before (kept_still c) made.0,
    all_wider a b c files jobs before kept made.1,
  )

  rises_more : (i j k : ℕ) → i ≤ j → HasRisen (record { old = j; new = k })
      → HasRisen (record { old = i; new = k })
  rises_more i j k before rose = omega (arith, before, rose)

  -- the file that makes no job is after one that makes one
  unmade_later : (a b c : H) (file named : List ℕ) (files : List (List ℕ)) (job : Job)
      (fault : JobFault) → MakesOn (lent_shelf h a b) file specs (Ok job)
      → IsUnmade (lent_shelf h b c) specs files named fault
      → IsUnmade (lent_shelf h a c) specs (file ∷ files) named fault
  unmade_later a b c file named files job fault makes x = record {
    other_than_shelf = x.other_than_shelf;
    other_than_memory = x.other_than_memory;
    first = λ told. inr (
      job,
      job_is_made file specs (h.held a) job (makes.answers told),
      subst (λ (held : Held). IsFirstFault specs held files named fault) (makes.same told)
          (x.first told),
    );
    none = none_made;
    alike = λ told other_file other first. alike_by told other_file other first;
  }
    where
      none_made : h.tells → (jobs : List Job) → AllMade specs (h.held a) (file ∷ files) jobs → ⊥
      none_made told [] all = all
      none_made told (j ∷ js) all =
          x.none told js
          (subst (λ (held : Held). AllMade specs held files js) (sym (makes.same told)) all.1)

      alike_by : h.tells → (other_file : List ℕ) (other : JobFault)
          → IsFirstFault specs (h.held a) (file ∷ files) other_file other
          → (other_file ≡ named) × (without_witness fault ≡ without_witness other)
      alike_by told other_file other (inl here) = absurd (makes.faulty told other here.1)
      alike_by told other_file other (inr later) =
          x.alike told other_file other
          (subst (λ (held : Held). IsFirstFault specs held files other_file other)
          (sym (makes.same told)) later.2)

  -- ---- a step

  pub none_pushed : (a : H) (files : List (List ℕ)) (old : List Member) → length files ≡ 0
      → HasPushed (lent_shelf h a a) specs files old old
  none_pushed a [] old none = record {
    jobs = [];
    made = tt;
    servable = tt;
    members = sym (append-nil old);
  }
  none_pushed a (file ∷ files) old none = absurd (omega (arith, none))

  one_more : (old mid new rest : List Member) (first : List Member) → mid ≡ old ++ first
      → new ≡ mid ++ rest → new ≡ old ++ (first ++ rest)
  one_more old mid new rest first one two =
      two ∙ ap (λ (l : List Member). l ++ rest) one ∙ append_assoc old first rest

  pushes_first : {Y : Type 0} (a b c : H) (file : List ℕ) (files : List (List ℕ))
      (old mid new : List Member) (result : Result Y BatchFault)
      → HasPushed (lent_shelf h a b) specs (file ∷ []) old mid
      → IsShelfKept (lent_shelf h a b) → IsShelfKept (lent_shelf h b c)
      → PushesJobs (lent_shelf h b c) specs files mid new result
      → PushesJobs (lent_shelf h a c) specs (file ∷ files) old new result
  pushes_first {Y = Y} a b c file files old mid new result one before kept more =
      by one.jobs one.made one.servable one.members result more
    where
      by : (jobs : List Job) → AreMade (lent_shelf h a b) specs (file ∷ []) jobs
          → AreServable specs jobs → mid ≡ old ++ map waiting jobs
          → (r : Result Y BatchFault) → PushesJobs (lent_shelf h b c) specs files mid new r
          → PushesJobs (lent_shelf h a c) specs (file ∷ files) old new r
      by [] made servable members r m = absurd made
      by (job ∷ j ∷ js) made servable members r m = absurd made.1
      by (job ∷ []) made servable members (Ok u) m = record {
        jobs = job ∷ m.jobs;
        made = (
          wider a a b c file job (kept_still a) kept made.0,
          all_wider a b c files m.jobs before kept m.made,
        );
        servable = (servable.0, m.servable);
        members = one_more old mid new (map waiting m.jobs) (waiting job ∷ []) members m.members;
      }
      by (job ∷ []) made servable members (Err batch.Shelf) m =
          rises_more (h.faults a) (h.faults b) (h.faults c) before.later m
      by (job ∷ []) made servable members (Err batch.Memory) m = tt
      by (job ∷ []) made servable members (Err (batch.Job named fault)) m =
          unmade_later a b c file named files job fault made.0 m
      by (job ∷ []) made servable members (Err (batch.SameFolder p q)) m = absurd m
      by (job ∷ []) made servable members (Err (batch.Limit n)) m = absurd m

  -- of files of which this is the first
  pub pushed_first : {Y : Type 0} (a b c : H) (all : List (List ℕ)) (file : List ℕ)
      (files : List (List ℕ)) (old mid new : List Member) (result : Result Y BatchFault)
      → all ≡ file ∷ files → HasPushed (lent_shelf h a b) specs (file ∷ []) old mid
      → IsShelfKept (lent_shelf h a b) → IsShelfKept (lent_shelf h b c)
      → PushesJobs (lent_shelf h b c) specs files mid new result
      → PushesJobs (lent_shelf h a c) specs all old new result
  pushed_first a b c all file files old mid new result is one before kept more =
      subst (λ (fs : List (List ℕ)). PushesJobs (lent_shelf h a c) specs fs old new result) (sym is)
      (pushes_first a b c file files old mid new result one before kept more)

  pub pushed_one : {X : Type 0} (a b : H) (file : List ℕ) (job : Job) (old new : List Member)
      (result : Result X BatchFault) → MakesOn (lent_shelf h a b) file specs (Ok job)
      → IsServable specs job
      → MatchResult result (λ u. new ≡ old ++ waiting job ∷ []) (λ e. e ≡ batch.Memory)
      → PushesJobs (lent_shelf h a b) specs (file ∷ []) old new result
  pushed_one a b file job old new (Ok u) makes servable is = record {
    jobs = job ∷ [];
    made = (makes, tt);
    servable = (servable, tt);
    members = is;
  }
  pushed_one a b file job old new (Err e) makes servable is =
      subst (λ (f : BatchFault). IsWhyUnmade (lent_shelf h a b) specs (file ∷ []) f) (sym is) tt

  -- a file that makes no job goes before those after it
  unmade_before : (a b : H) (file named : List ℕ) (files : List (List ℕ)) (fault : JobFault)
      → IsUnmade (lent_shelf h a b) specs (file ∷ []) named fault
      → IsUnmade (lent_shelf h a b) specs (file ∷ files) named fault
  unmade_before a b file named files fault x = record {
    other_than_shelf = x.other_than_shelf;
    other_than_memory = x.other_than_memory;
    first = λ told. first_by (x.first told);
    none = none_by;
    alike = alike_by;
  }
    where
      first_by : IsFirstFault specs (h.held a) (file ∷ []) named fault
          → IsFirstFault specs (h.held a) (file ∷ files) named fault
      first_by (inl here) = inl here
      first_by (inr later) = absurd later.2

      none_by : h.tells → (jobs : List Job) → AllMade specs (h.held a) (file ∷ files) jobs → ⊥
      none_by told [] all = all
      none_by told (j ∷ js) all = x.none told (j ∷ []) (all.0, tt)

      alike_by : h.tells → (other_file : List ℕ) (other : JobFault)
          → IsFirstFault specs (h.held a) (file ∷ files) other_file other
          → (other_file ≡ named) × (without_witness fault ≡ without_witness other)
      alike_by told other_file other (inl here) = x.alike told other_file other (inl here)
      alike_by told other_file other (inr later) =
          absurd (x.none told (later.0 ∷ []) (later.1, tt))

  why_before : (a b : H) (file : List ℕ) (files : List (List ℕ)) (fault : BatchFault)
      → IsWhyUnmade (lent_shelf h a b) specs (file ∷ []) fault
      → IsWhyUnmade (lent_shelf h a b) specs (file ∷ files) fault
  why_before a b file files batch.Shelf x = x
  why_before a b file files batch.Memory x = tt
  why_before a b file files (batch.Job named fault) x = unmade_before a b file named files fault x
  why_before a b file files (batch.SameFolder p q) x = absurd x
  why_before a b file files (batch.Limit n) x = absurd x

  -- of files of which this is the first
  pub why_first : (a b : H) (all : List (List ℕ)) (file : List ℕ) (files : List (List ℕ))
      (fault : BatchFault) → all ≡ file ∷ files
      → IsWhyUnmade (lent_shelf h a b) specs (file ∷ []) fault
      → IsWhyUnmade (lent_shelf h a b) specs all fault
  why_first a b all file files fault is why =
      subst (λ (fs : List (List ℕ)). IsWhyUnmade (lent_shelf h a b) specs fs fault) (sym is)
      (why_before a b file files fault why)

  -- ---- a file that makes no job

  unmade_here : (a b : H) (file : List ℕ) (files : List (List ℕ)) (fault : JobFault)
      → fault ≢ faults.Shelf → fault ≢ faults.Memory
      → MakesOn (lent_shelf h a b) file specs (Err fault)
      → IsUnmade (lent_shelf h a b) specs (file ∷ files) file fault
  unmade_here a b file files fault not_shelf not_memory makes = record {
    other_than_shelf = not_shelf;
    other_than_memory = not_memory;
    first = λ told. inl (
      refl,
      fault_is_made file specs (h.held a) fault not_shelf not_memory (makes.answers told),
    );
    none = none_made;
    alike = alike_by;
  }
    where
      not_one : (fault ≡ faults.Memory) ⊎ (fault ≡ faults.Shelf) → ⊥
      not_one (inl e) = not_memory e
      not_one (inr e) = not_shelf e

      none_made : h.tells → (jobs : List Job) → AllMade specs (h.held a) (file ∷ files) jobs → ⊥
      none_made told [] all = all
      none_made told (j ∷ js) all = not_one (makes.only told j all.0)

      same_but : (other : JobFault) → (fault ≡ faults.Memory)
          ⊎ ((fault ≡ faults.Shelf) ⊎ (without_witness fault ≡ without_witness other))
          → without_witness fault ≡ without_witness other
      same_but other (inl e) = absurd (not_memory e)
      same_but other (inr (inl e)) = absurd (not_shelf e)
      same_but other (inr (inr e)) = e

      alike_by : h.tells → (named : List ℕ) (other : JobFault)
          → IsFirstFault specs (h.held a) (file ∷ files) named other
          → (named ≡ file) × (without_witness fault ≡ without_witness other)
      alike_by told named other (inl here) =
          (here.0, same_but other (makes.faulty told other here.1))
      alike_by told named other (inr later) =
          absurd (not_one (makes.only told later.0 later.1))

  pub not_made : (a b : H) (file : List ℕ) (files : List (List ℕ)) (fault : JobFault)
      (told : BatchFault) → MakesOn (lent_shelf h a b) file specs (Err fault)
      → (told ≡ batch.Memory) ⊎ (told ≡ of_file file fault)
      → IsWhyUnmade (lent_shelf h a b) specs (file ∷ files) told
  not_made a b file files fault told makes (inl e) =
      subst (λ (x : BatchFault). IsWhyUnmade (lent_shelf h a b) specs (file ∷ files) x) (sym e) tt
  not_made a b file files fault told makes (inr e) =
      subst (λ (x : BatchFault). IsWhyUnmade (lent_shelf h a b) specs (file ∷ files) x) (sym e)
      (go (sorted file fault))
    where
      go : IsSorted file fault
          → IsWhyUnmade (lent_shelf h a b) specs (file ∷ files) (of_file file fault)
      go (by_shelf is) =
          subst (λ (x : JobFault).
          IsWhyUnmade (lent_shelf h a b) specs (file ∷ files) (of_file file x)) (sym is)
          (makes.cause.failed (ap a_fault is))
      go (by_memory is) =
          subst (λ (x : JobFault).
          IsWhyUnmade (lent_shelf h a b) specs (file ∷ files) (of_file file x)) (sym is) tt
      go (by_other not_shelf not_memory is) =
          subst (λ (x : BatchFault). IsWhyUnmade (lent_shelf h a b) specs (file ∷ files) x) (sym is)
          (unmade_here a b file files fault not_shelf not_memory makes)

-- ---- why the jobs aren't run

pub why_unmade : (s : Lent Held) (specs : List Spec) (files : List (List ℕ)) (fault : BatchFault)
    → IsWhyUnmade s specs files fault → IsWhy s specs files fault
why_unmade s specs files batch.Shelf x = x
why_unmade s specs files batch.Memory x = tt
why_unmade s specs files (batch.Job file fault) x = x
why_unmade s specs files (batch.SameFolder a b) x = absurd x
why_unmade s specs files (batch.Limit n) x = absurd x

pub jobs_waiting : (jobs : List Job) → jobs_of (map waiting jobs) ≡ jobs
jobs_waiting [] = refl
jobs_waiting (job ∷ jobs) = ap (λ (js : List Job). job ∷ js) (jobs_waiting jobs)

-- ---- faults of jobs that were made

abbrev IsOfJobs : BatchFault → Type 0
IsOfJobs batch.Shelf = ⊥
IsOfJobs batch.Memory = ⊥
IsOfJobs (batch.Job file fault) = ⊥
IsOfJobs (batch.SameFolder a b) = Unit {0}
IsOfJobs (batch.Limit n) = Unit {0}

same_fault : (a b : BatchFault) → Some a ≡ Some b → a ≡ b
same_fault a b e = cc

folder_is : (o : Option (List ℕ × List ℕ)) (e : BatchFault)
    → option_map (λ pair. batch.SameFolder pair.0 pair.1) o ≡ Some e → IsOfJobs e
folder_is None e is = absurd cc
folder_is (Some pair) e is =
    subst (λ (x : BatchFault). IsOfJobs x)
    (same_fault (batch.SameFolder pair.0 pair.1) e is) tt

limit_is : (b : Bool) (n : ℕ) (e : BatchFault) → (if b then Some (batch.Limit n) else None) ≡ Some e
    → IsOfJobs e
limit_is true n e is = subst (λ (x : BatchFault). IsOfJobs x) (same_fault (batch.Limit n) e is) tt
limit_is false n e is = absurd cc

either_is : (a b : Option BatchFault) (e : BatchFault) → (a ≡ Some e → IsOfJobs e)
    → (b ≡ Some e → IsOfJobs e) → or_else a b ≡ Some e → IsOfJobs e
either_is None b e one two is = two is
either_is (Some x) b e one two is = one is

of_jobs : (files : List (List ℕ)) (jobs : List Job) (e : BatchFault)
    → jobs_fault files jobs ≡ Some e → IsOfJobs e
of_jobs files jobs e is =
    either_is (folder_fault files jobs) (cells_fault jobs) e
    (folder_is (same_folder files jobs) e)
    (either_is (above (owned_by_all jobs) (2 ^ 26)) (above (local_by_all jobs) (2 ^ 27)) e
    (limit_is (nat_lt (2 ^ 26) (owned_by_all jobs)) (in_64_bits (owned_by_all jobs)) e)
    (limit_is (nat_lt (2 ^ 27) (local_by_all jobs)) (in_64_bits (local_by_all jobs)) e)) is

fault_why : (s : Lent Held) (specs : List Spec) (files : List (List ℕ)) (jobs : List Job)
    (e : BatchFault) → AreMade s specs files jobs → jobs_fault files jobs ≡ Some e
    → IsWhy s specs files e
fault_why s specs files jobs batch.Shelf made is = absurd (of_jobs files jobs batch.Shelf is)
fault_why s specs files jobs batch.Memory made is = tt
fault_why s specs files jobs (batch.Job file fault) made is =
    absurd (of_jobs files jobs (batch.Job file fault) is)
fault_why s specs files jobs (batch.SameFolder a b) made is =
    record { jobs = jobs; made = made; fault_is = is }
fault_why s specs files jobs (batch.Limit n) made is =
    record { jobs = jobs; made = made; fault_is = is }

-- ---- members

pushed_are : (s : Lent Held) (specs : List Spec) (files : List (List ℕ)) (old ms : List Member)
    → old ≡ [] → (x : HasPushed s specs files old ms) → ms ≡ map waiting x.jobs
pushed_are s specs files old ms none x =
    x.members ∙ ap (λ (l : List Member). l ++ map waiting x.jobs) none

pushed_jobs : (s : Lent Held) (specs : List Spec) (files : List (List ℕ)) (old ms : List Member)
    → old ≡ [] → (x : HasPushed s specs files old ms) → jobs_of ms ≡ x.jobs
pushed_jobs s specs files old ms none x =
    ap jobs_of (pushed_are s specs files old ms none x) ∙ jobs_waiting x.jobs

pub checked_members : {V : Type 0} (items : V → List Member) (s : Lent Held) (specs : List Spec)
    (files : List (List ℕ)) (old ms : List Member) (result : Result V BatchFault) → old ≡ []
    → HasPushed s specs files old ms
    → MatchResult result (λ v. (items v ≡ ms) × (jobs_fault files (jobs_of ms) ≡ None))
    (λ e. (e ≡ batch.Memory) ⊎ (jobs_fault files (jobs_of ms) ≡ Some e))
    → MatchResult result (λ v. HasMembers s specs files (items v)) (IsWhy s specs files)
checked_members items s specs files old ms (Ok v) none x is = record {
  jobs = x.jobs;
  are = record {
    made = x.made;
    no_fault = subst (λ (js : List Job). jobs_fault files js ≡ None)
        (pushed_jobs s specs files old ms none x) is.1;
    servable = x.servable;
  };
  members = is.0 ∙ pushed_are s specs files old ms none x;
}
checked_members items s specs files old ms (Err e) none x (inl memory) =
    subst (λ (f : BatchFault). IsWhy s specs files f) (sym memory) tt
checked_members items s specs files old ms (Err e) none x (inr is) =
    fault_why s specs files x.jobs e x.made
    (subst (λ (js : List Job). jobs_fault files js ≡ Some e)
    (pushed_jobs s specs files old ms none x) is)

-- ---- members that can be run

same_length : (s : Lent Held) (specs : List Spec) (files : List (List ℕ)) (jobs : List Job)
    → AreMade s specs files jobs → length files ≡ length (map waiting jobs)
same_length s specs [] [] made = refl
same_length s specs [] (job ∷ jobs) made = absurd made
same_length s specs (file ∷ files) [] made = absurd made
same_length s specs (file ∷ files) (job ∷ jobs) made =
    let more = same_length s specs files jobs made.1 in omega (arith, more)

pub as_many : (s : Lent Held) (specs : List Spec) (files : List (List ℕ)) (ms : List Member)
    → HasMembers s specs files ms → length files ≡ length ms
as_many s specs files ms x =
    same_length s specs files x.jobs x.are.made ∙ ap (λ (l : List Member). length l) (sym x.members)

runnable_jobs : (specs : List Spec) (jobs : List Job) → AreServable specs jobs
    → AreRunnable specs (map waiting jobs)
runnable_jobs specs [] x = tt
runnable_jobs specs (job ∷ jobs) x =
    (record { waits = refl; servable = x.0 }, runnable_jobs specs jobs x.1)

pub runnable : (s : Lent Held) (specs : List Spec) (files : List (List ℕ)) (ms : List Member)
    → HasMembers s specs files ms → AreRunnable specs ms
runnable s specs files ms x =
    subst (λ (l : List Member). AreRunnable specs l) (sym x.members)
    (runnable_jobs specs x.jobs x.are.servable)

few_by : (p q r : Bool) (n : ℕ) → (p && q && r) ≡ true → (q ≡ true → n ≤ 8) → n ≤ 8
few_by true true r n e few = few refl
few_by true false r n e few = absurd cc
few_by false q r n e few = absurd cc

pub few_files : (files : List (List ℕ)) → are_files files ≡ true → length files ≤ 8
few_files files e =
    few_by (nat_le 2 (length files)) (nat_le (length files) 8) (list_all is_file files)
    (length files) e (λ x. grind (arith, nat_tests, x))

pub few_members : (s : Lent Held) (specs : List Spec) (files : List (List ℕ)) (ms : List Member)
    (n : ℕ) → are_files files ≡ true → HasMembers s specs files ms → 8 ≤ n → length ms ≤ n
few_members s specs files ms n are x many =
    let few = few_files files are in
    let same = as_many s specs files ms x in omega (arith, few, same, many)
