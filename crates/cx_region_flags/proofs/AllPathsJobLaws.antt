-- Where the paths of a job lead, by their parts.
use Rattle.std.proofs.Common.{◌≡◌, ℕ, zero, suc, ◌+◌, ◌*◌, ◌<◌, ◌≤◌, ℤ, pos, negsuc, int_lt, Bool, true, false, refl, sym, subst, ◌∙◌, List, [], ◌∷◌, length, map, get_or, drop, replicate, ◌⊎◌, inl, inr, MatchBool}
use Rattle.std.proofs.lemmas.List.{drop_more, drop_all, get_or_past}
use Rattle.std.proofs.Math.ListN.{length-replicate}
use Rattle.cx_plan.specs.declared.tree.Tree.{Seq}
use Rattle.cx_plan.specs.declared.job.Job.{Job}
use Rattle.cx_plan.specs.Setups.{Setup, setup_of}
use Rattle.cx_plan.specs.Lookups.{bin, is_empty, STARTUP, WRAGH, PARAMCHECK, BASEGRID, INITIAL, POSTINITIAL, PRESTEP, EVOL, POSTSTEP, CHECKPOINT, ANALYSIS, TERMINATE, SHUTDOWN}
use Rattle.cx_plan.specs.Regions.{Rotates, cleared}
use Rattle.cx_plan.specs.Paths.{Mark, Meets, letter_i, letter_y, letter_n, Then, Just, Path, PathOfBins, PathOfAnalysis, PathOfCheckpoint, PathOfStart, PathOfIteration, PathOfIterations, Sound}
use Rattle.cx_region_flags.specs.declared.flags.LevelFlags.{LevelFlags}
use Rattle.cx_region_flags.specs.Cells.{none_set}
use Rattle.cx_region_flags.specs.AllPaths.{Meet, IsBelow, IsSure, Leads, PathOfAllIterations, outputs_if}
use Rattle.cx_region_flags.proofs.MeetLaws.{meet-first, meet-second}
use Rattle.cx_region_flags.proofs.AllPathsLaws.{leads-from, leads-then, leads-nothing, leads-either, leads-lower, leads-higher, leads-letter, leads-behind, leads-any}
use Rattle.cx_region_flags.proofs.PathLaws.{leads-seq}
use Rattle.cx_region_flags.proofs.StoredLaws.{cleared_at_first}

-- ---- bins

-- what the bins that are left lead to, all lead to
pub record PassingBins (job : Job) (all rest : List ℕ) (first now : List LevelFlags) : Type 0 where
  pub goes_on : (new : List LevelFlags) → Leads job (PathOfBins (setup_of job) rest) now new
      → Leads job (PathOfBins (setup_of job) all) first new

pub passing_bins-none : (job : Job) (all : List ℕ) (first : List LevelFlags)
    → PassingBins job all all first first
passing_bins-none job all first = record { goes_on = λ new l. l }

pub passing_bins-next : {B : Type 0} (f : B → ℕ) (job : Job) (all : List B) (i : ℕ) (d : B)
    (first now mid : List LevelFlags) → i < length all
    → Leads job (Path (bin (setup_of job) (f (get_or all i d)))) now mid
    → PassingBins job (map f all) (map f (drop i all)) first now
    → PassingBins job (map f all) (map f (drop (i + 1) all)) first mid
passing_bins-next f job all i d first now mid below l p =
    record {
      goes_on = λ new rest.
          let setup = setup_of job in
          let b = get_or all i d in
          let here : drop i all ≡ b ∷ drop (i + 1) all = drop_more all i d below in
          p.goes_on new (subst (λ bs. Leads job (PathOfBins setup (map f bs)) now new) (sym here)
          (leads-then job (Path (bin setup (f b))) (PathOfBins setup (map f (drop (i + 1) all)))
          now mid new l rest));
    }

pub passing_bins-all : {B : Type 0} (f : B → ℕ) (job : Job) (all : List B) (i : ℕ)
    (first now : List LevelFlags) → length all ≤ i
    → PassingBins job (map f all) (map f (drop i all)) first now
    → Leads job (PathOfBins (setup_of job) (map f all)) first now
passing_bins-all f job all i first now past p =
    p.goes_on now (subst (λ bs. Leads job (PathOfBins (setup_of job) (map f bs)) now now)
    (sym (drop_all i all past)) (leads-nothing job now))

-- a bin that isn't there is empty
pub leads-no_bin : (job : Job) (b : ℕ) (old : List LevelFlags) → length job.plan.bins ≤ b
    → Leads job (Path (bin (setup_of job) b)) old old
leads-no_bin job b old past =
    leads-seq job (bin (setup_of job) b) [] [] old old (get_or_past job.plan.bins b (Seq []) past)
    refl (leads-nothing job old)

-- ---- what stands behind the bins

analysis : (setup : Setup) (z : ℤ) (marks : List Mark)
    → PathOfAnalysis
    (record {
      shape = setup.shape;
      vars = setup.vars;
      items = setup.items;
      steers = setup.steers;
      bins = setup.bins;
      itlast = setup.itlast;
      while_limit = setup.while_limit;
      out_every = z;
      out_vars = setup.out_vars;
      chk_every = setup.chk_every;
      on_end = setup.on_end;
    }) marks
    → Then (Path (bin setup ANALYSIS)) (Just (outputs_if (int_lt (pos 0) z))) marks
analysis setup (pos zero) marks way = way
analysis setup (pos (suc n)) marks way = way
analysis setup (negsuc n) marks way = way

pub leads-analysis : (job : Job) (old mid new : List LevelFlags)
    → Leads job (Path (bin (setup_of job) ANALYSIS)) old mid
    → Leads job (Just (outputs_if (int_lt (pos 0) job.out_every))) mid new
    → Leads job (PathOfAnalysis (setup_of job)) old new
leads-analysis job old mid new one two =
    let setup = setup_of job in
    leads-from job (PathOfAnalysis setup)
    (Then (Path (bin setup ANALYSIS)) (Just (outputs_if (int_lt (pos 0) job.out_every))))
    old new (analysis setup job.out_every)
    (leads-then job (Path (bin setup ANALYSIS)) (Just (outputs_if (int_lt (pos 0) job.out_every)))
    old mid new one two)

pub leads-checkpoint : (job : Job) (old behind new : List LevelFlags)
    → Leads job (Path (bin (setup_of job) CHECKPOINT)) old behind → Meet old behind new
    → Leads job (PathOfCheckpoint (setup_of job)) old new
leads-checkpoint job old behind new body meet =
    let P = Path (bin (setup_of job) CHECKPOINT) in
    let taken = Then (Just (letter_y ∷ [])) P in
    let either = λ (marks : List Mark). taken marks ⊎ Just (letter_n ∷ []) marks in
    let low = meet-first old behind new meet in
    leads-from job (PathOfCheckpoint (setup_of job))
    (λ (marks : List Mark). Just [] marks ⊎ either marks) old new
    (by (is_empty (bin (setup_of job) CHECKPOINT)))
    (leads-either job (Just []) either old new
    (leads-lower job (Just []) old old new low (leads-nothing job old))
    (leads-either job taken (Just (letter_n ∷ [])) old new
    (leads-lower job taken old behind new (meet-second old behind new body.same_length meet)
    (leads-then job (Just (letter_y ∷ [])) P old old behind (leads-letter job 121 old) body))
    (leads-lower job (Just (letter_n ∷ [])) old old new low (leads-letter job 110 old))))
  where
    by : (t : Bool) (marks : List Mark)
        → MatchBool t (Just [] marks)
        (Then (Just (letter_y ∷ [])) (Path (bin (setup_of job) CHECKPOINT)) marks
        ⊎ Just (letter_n ∷ []) marks)
        → Just [] marks ⊎ (Then (Just (letter_y ∷ [])) (Path (bin (setup_of job) CHECKPOINT)) marks
        ⊎ Just (letter_n ∷ []) marks)
    by true marks way = inl way
    by false marks way = inr way

-- ---- the parts of a job

pub leads-start : (job : Job) (old mid new : List LevelFlags)
    → Leads job (PathOfBins (setup_of job)
    (STARTUP ∷ WRAGH ∷ PARAMCHECK ∷ BASEGRID ∷ INITIAL ∷ POSTINITIAL ∷ POSTSTEP ∷ [])) old mid
    → Leads job (PathOfAnalysis (setup_of job)) mid new
    → Leads job (PathOfStart (setup_of job)) old new
leads-start job old mid new one two =
    leads-then job (PathOfBins (setup_of job)
    (STARTUP ∷ WRAGH ∷ PARAMCHECK ∷ BASEGRID ∷ INITIAL ∷ POSTINITIAL ∷ POSTSTEP ∷ []))
    (PathOfAnalysis (setup_of job)) old mid new one two

pub leads-iteration : (job : Job) (old a b c new : List LevelFlags)
    → Leads job (Just (Meets Rotates ∷ [])) old a
    → Leads job (PathOfBins (setup_of job) (PRESTEP ∷ EVOL ∷ POSTSTEP ∷ [])) a b
    → Leads job (PathOfCheckpoint (setup_of job)) b c
    → Leads job (PathOfAnalysis (setup_of job)) c new
    → Leads job (PathOfIteration (setup_of job)) old new
leads-iteration job old a b c new one two three four =
    let setup = setup_of job in
    let bins = PathOfBins setup (PRESTEP ∷ EVOL ∷ POSTSTEP ∷ []) in
    let last = Then (PathOfCheckpoint setup) (PathOfAnalysis setup) in
    leads-then job (Just (letter_i ∷ Meets Rotates ∷ [])) (Then bins last) old a new
    (leads-behind job Rotates 105 old a one)
    (leads-then job bins last a b new two
    (leads-then job (PathOfCheckpoint setup) (PathOfAnalysis setup) b c new three four))

several : (job : Job) (old : List LevelFlags) → Leads job (PathOfIteration (setup_of job)) old old
    → (n : ℕ) → Leads job (PathOfIterations (setup_of job) n) old old
several job old body zero = leads-nothing job old
several job old body (suc n) =
    leads-then job (PathOfIteration (setup_of job)) (PathOfIterations (setup_of job) n)
    old old old body (several job old body n)

pub leads-iterations : (job : Job) (first old behind : List LevelFlags) → IsBelow old first
    → IsBelow old behind → Leads job (PathOfIteration (setup_of job)) old behind
    → Leads job (PathOfAllIterations (setup_of job)) first old
leads-iterations job first old behind below still body =
    leads-higher job (PathOfAllIterations (setup_of job)) first old old below
    (leads-any job (PathOfIterations (setup_of job)) old old
    (several job old (leads-lower job (PathOfIteration (setup_of job))
    old behind old still body)))

sure-first : (job : Job) → IsSure job (replicate (8 * length job.vars) none_set) cleared
sure-first job =
    record {
      size = length-replicate (8 * length job.vars) none_set;
      set = λ v level f stored h. sym (cleared_at_first (8 * length job.vars) v level f) ∙ h;
    }

pub sound-from : (job : Job) (first a b new : List LevelFlags)
    → first ≡ replicate (8 * length job.vars) none_set
    → Leads job (PathOfStart (setup_of job)) first a
    → Leads job (PathOfAllIterations (setup_of job)) a b
    → Leads job (PathOfBins (setup_of job) (TERMINATE ∷ SHUTDOWN ∷ [])) b new → Sound (setup_of job)
sound-from job first a b new is one two three =
    let setup = setup_of job in
    let last = PathOfBins setup (TERMINATE ∷ SHUTDOWN ∷ []) in
    let all = leads-then job (PathOfStart setup) (Then (PathOfAllIterations setup) last)
    first a new one (leads-then job (PathOfAllIterations setup) last a b new two three) in
    λ marks way. all.passes marks cleared [] way
    (subst (λ cells. IsSure job cells cleared) (sym is) (sure-first job))
