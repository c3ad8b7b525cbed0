-- A flag that is followed through a job, by the parts of its paths.
use Rattle.std.proofs.Common.{◌≡◌, ℕ, zero, suc, ◌+◌, ◌*◌, ◌<◌, ◌≤◌, ℤ, pos, negsuc, int_lt, Bool, true, false, refl, sym, ap, subst, ◌∙◌, List, [], ◌∷◌, ◌++◌, length, map, get_or, drop, replicate, Vec, Result, Ok, Err, ◌⊎◌, inl, inr, MatchBool}
use Rattle.std.specs.declared.alloc.Global.{Global}
use Rattle.std.proofs.lemmas.List.{drop_more, drop_all, get_or_past}
use Rattle.cx_plan.specs.declared.tree.Tree.{Seq}
use Rattle.cx_plan.specs.declared.job.Job.{Job}
use Rattle.cx_plan.specs.Setups.{Setup, setup_of}
use Rattle.cx_plan.specs.Lookups.{bin, is_empty, STARTUP, WRAGH, PARAMCHECK, BASEGRID, INITIAL, POSTINITIAL, PRESTEP, EVOL, POSTSTEP, CHECKPOINT, ANALYSIS, TERMINATE, SHUTDOWN}
use Rattle.cx_plan.specs.Regions.{Rotates, Outputs, cleared}
use Rattle.cx_plan.specs.Paths.{Mark, Meets, letter_i, letter_y, letter_n, Then, Just, Path, PathOfBins, PathOfAnalysis, PathOfCheckpoint, PathOfStart, PathOfIteration, PathOfIterations, PathOfJob}
use Rattle.cx_plan.specs.Whole.{IsWhole}
use Rattle.cx_region.specs.declared.one_flag_tree.Rounds.TheVariants.{Settled}
use Rattle.cx_region.specs.declared.witness.Witness.{Witness}
use Rattle.cx_region.specs.declared.witness.Followed.{Followed}
use Rattle.cx_region.specs.declared.witness.WitnessStop.{WitnessStop}
use Rattle.cx_region.specs.declared.witness.WitnessStop.TheVariants.{Unset, Memory}
use Rattle.cx_region_flags.specs.Cells.{none_set}
use Rattle.cx_region_flags.specs.AllPaths.{PathOfAllIterations, outputs_if}
use Rattle.cx_region.specs.Witnesses.{StopsAt, with_letter, IsAmong, IsCovered, covers, Joins, GoOn, Stop, Goes}
use Rattle.cx_region_flags.specs.Unmet.{seen}
use Rattle.cx_region.specs.OneFlag.{IsAlwaysMet, Follows}
use Rattle.cx_region_flags.proofs.AgreeLaws.{agrees-first}
use Rattle.cx_region_flags.proofs.StoredLaws.{cleared_at_first}
use Rattle.cx_region.proofs.WitnessLaws.{Same, goes-from, goes-nothing, goes-letter, goes-join, goes-stop-first, goes-stop-second, goes-stop-from}
use Rattle.cx_region.proofs.OneFlagLaws.{Passed, passed-then, goes-same, goes-behind, goes-behind-letter, Again, AnyTimes, IsHead, head-next, stop-turn, goes-settled}
use Rattle.cx_region.proofs.OneFlagTreeLaws.{some_path, goes-seq, empty-seq}

-- a stop in the next part is one of the whole
pub passed-stop : (job : Job) (x : Followed) (Whole P Q : List Mark → Type 0)
    (first now : List Witness) (stop : WitnessStop) → ((marks : List Mark) × Q marks)
    → Stop job P now stop → Passed job Settled x Whole (Then P Q) first now
    → Stop job Whole first stop
passed-stop job x Whole P Q first now stop some s passed =
    passed.goes_on (Err stop) (goes-stop-first job P Q now stop some s)

-- ---- some paths

pub both_some : (P Q : List Mark → Type 0) → ((marks : List Mark) × P marks)
    → ((marks : List Mark) × Q marks) → (marks : List Mark) × Then P Q marks
both_some P Q one two = (one.0 ++ two.0, (one.0, two.0, one.1, two.1, refl))

pub some_bins : (setup : Setup) (bs : List ℕ) → (marks : List Mark) × PathOfBins setup bs marks
some_bins setup [] = ([], refl)
some_bins setup (b ∷ bs) =
    both_some (Path (bin setup b)) (PathOfBins setup bs) (some_path (bin setup b))
    (some_bins setup bs)

-- ---- bins

pub passed-bin : {B : Type 0} (f : B → ℕ) (job : Job) (x : Followed) (all : List B) (i : ℕ) (d : B)
    (first now mid : List Witness) → i < length all
    → GoOn job x (Path (bin (setup_of job) (f (get_or all i d)))) now mid
    → Passed job Settled x (PathOfBins (setup_of job) (map f all))
    (PathOfBins (setup_of job) (map f (drop i all))) first now
    → Passed job Settled x (PathOfBins (setup_of job) (map f all))
    (PathOfBins (setup_of job) (map f (drop (i + 1) all))) first mid
passed-bin f job x all i d first now mid below one passed =
    let setup = setup_of job in
    let b = get_or all i d in
    let here : drop i all ≡ b ∷ drop (i + 1) all = drop_more all i d below in
    passed-then job Settled x (PathOfBins setup (map f all)) (Path (bin setup (f b)))
    (PathOfBins setup (map f (drop (i + 1) all))) first now mid one
    (subst (λ bs. Passed job Settled x (PathOfBins setup (map f all)) (PathOfBins setup (map f bs))
    first now) here passed)

pub stop-bin : {B : Type 0} (f : B → ℕ) (job : Job) (x : Followed) (all : List B) (i : ℕ) (d : B)
    (first now : List Witness) (stop : WitnessStop) → i < length all
    → Stop job (Path (bin (setup_of job) (f (get_or all i d)))) now stop
    → Passed job Settled x (PathOfBins (setup_of job) (map f all))
    (PathOfBins (setup_of job) (map f (drop i all))) first now
    → Stop job (PathOfBins (setup_of job) (map f all)) first stop
stop-bin f job x all i d first now stop below s passed =
    let setup = setup_of job in
    let b = get_or all i d in
    let rest = drop (i + 1) all in
    let here : drop i all ≡ b ∷ rest = drop_more all i d below in
    passed-stop job x (PathOfBins setup (map f all)) (Path (bin setup (f b)))
    (PathOfBins setup (map f rest)) first now stop (some_bins setup (map f rest)) s
    (subst (λ bs. Passed job Settled x (PathOfBins setup (map f all)) (PathOfBins setup (map f bs))
    first now) here passed)

pub passed-all_bins : {B : Type 0} (f : B → ℕ) (job : Job) (x : Followed) (all : List B) (i : ℕ)
    (first : List Witness) (now : Vec Witness Global) → length all ≤ i
    → Passed job Settled x (PathOfBins (setup_of job) (map f all))
    (PathOfBins (setup_of job) (map f (drop i all))) first now.items
    → GoOn job x (PathOfBins (setup_of job) (map f all)) first now.items
passed-all_bins f job x all i first now past passed =
    passed.goes_on (Ok now)
    (subst (λ bs. GoOn job x (PathOfBins (setup_of job) (map f bs)) now.items now.items)
    (sym (drop_all i all past)) (goes-nothing job x now.items))

-- a bin that isn't there is empty
pub goes-no_bin : (job : Job) (x : Followed) (b : ℕ) (ways : Vec Witness Global)
    → length job.plan.bins ≤ b → GoOn job x (Path (bin (setup_of job) b)) ways.items ways.items
goes-no_bin job x b ways past =
    goes-seq job Settled x (bin (setup_of job) b) [] [] ways.items (Ok ways)
    (get_or_past job.plan.bins b (Seq []) past) refl (goes-nothing job x ways.items)

-- ---- what stands behind the bins

pub same-analysis : (setup : Setup) (z : ℤ)
    → Same (Then (Path (bin setup ANALYSIS)) (Just (outputs_if (int_lt (pos 0) z))))
    (PathOfAnalysis
    (record {
      shape = setup.shape;
      vars = setup.vars;
      items = setup.items;
      steers = setup.steers;
      bins = setup.bins;
      itlast = setup.itlast;
      while_limit = setup.while_limit;
      out_every = z;
      out_vars = setup.out_vars;
      chk_every = setup.chk_every;
      on_end = setup.on_end;
    }))
same-analysis setup (pos zero) = record { into = λ marks on. on; back = λ marks on. on }
same-analysis setup (pos (suc n)) = record { into = λ marks on. on; back = λ marks on. on }
same-analysis setup (negsuc n) = record { into = λ marks on. on; back = λ marks on. on }

pub goes-analysis : (job : Job) (x : Followed) (old mid : List Witness)
    (r : Result (Vec Witness Global) WitnessStop)
    → GoOn job x (Path (bin (setup_of job) ANALYSIS)) old mid
    → Goes job x (Just (outputs_if (int_lt (pos 0) job.out_every))) mid r
    → Goes job x (PathOfAnalysis (setup_of job)) old r
goes-analysis job x old mid r one two =
    let setup = setup_of job in
    goes-same job x (Then (Path (bin setup ANALYSIS))
    (Just (outputs_if (int_lt (pos 0) job.out_every)))) (PathOfAnalysis setup) old r
    (same-analysis setup job.out_every)
    (goes-behind job x (Path (bin setup ANALYSIS))
    (Just (outputs_if (int_lt (pos 0) job.out_every))) old mid r one two)

pub stop-analysis : (job : Job) (old : List Witness) (stop : WitnessStop)
    → Stop job (Path (bin (setup_of job) ANALYSIS)) old stop
    → Stop job (PathOfAnalysis (setup_of job)) old stop
stop-analysis job old stop s =
    let setup = setup_of job in
    let output = outputs_if (int_lt (pos 0) job.out_every) in
    goes-stop-from job (Then (Path (bin setup ANALYSIS)) (Just output)) (PathOfAnalysis setup)
    old stop (same-analysis setup job.out_every).into
    (goes-stop-first job (Path (bin setup ANALYSIS)) (Just output) old stop (output, refl) s)

pub some_analysis : (setup : Setup) → (marks : List Mark) × PathOfAnalysis setup marks
some_analysis setup =
    let output = outputs_if (int_lt (pos 0) setup.out_every) in
    let some = both_some (Path (bin setup ANALYSIS)) (Just output) (some_path (bin setup ANALYSIS))
    (output, refl) in
    (some.0, (same-analysis setup setup.out_every).into some.0 some.1)

pub goes-output : (job : Job) (x : Followed) (old : List Witness)
    (r : Result (Vec Witness Global) WitnessStop) (t : Bool) → t ≡ true
    → Goes job x (Just (Meets Outputs ∷ [])) old r → Goes job x (Just (outputs_if t)) old r
goes-output job x old r t e g = subst (λ t. Goes job x (Just (outputs_if t)) old r) (sym e) g

pub goes-no_output : (job : Job) (x : Followed) (old : List Witness) (t : Bool) → t ≡ false
    → GoOn job x (Just (outputs_if t)) old old
goes-no_output job x old t e =
    subst (λ t. GoOn job x (Just (outputs_if t)) old old) (sym e) (goes-nothing job x old)

-- ---- the CHECKPOINT bin

pub empty-past : (job : Job) (b : ℕ) → length job.plan.bins ≤ b
    → true ≡ is_empty (bin (setup_of job) b)
empty-past job b past = sym (ap is_empty (get_or_past job.plan.bins b (Seq []) past) ∙ empty-seq [])

pub same-empty : (setup : Setup) → is_empty (bin setup CHECKPOINT) ≡ true
    → Same (Just []) (PathOfCheckpoint setup)
same-empty setup e =
    subst (λ t. Same (Just [])
    (λ marks. MatchBool t (Just [] marks)
    (Then (Just (letter_y ∷ [])) (Path (bin setup CHECKPOINT)) marks
    ⊎ Just (letter_n ∷ []) marks))) (sym e)
    (record { into = λ marks on. on; back = λ marks on. on })

pub same-either : (setup : Setup) → is_empty (bin setup CHECKPOINT) ≡ false
    → Same (λ marks. Just (letter_n ∷ []) marks
    ⊎ Then (Just (letter_y ∷ [])) (Path (bin setup CHECKPOINT)) marks) (PathOfCheckpoint setup)
same-either setup e =
    subst
    (λ t. Same (λ marks. Just (letter_n ∷ []) marks
    ⊎ Then (Just (letter_y ∷ [])) (Path (bin setup CHECKPOINT)) marks)
    (λ marks. MatchBool t (Just [] marks)
    (Then (Just (letter_y ∷ [])) (Path (bin setup CHECKPOINT)) marks
    ⊎ Just (letter_n ∷ []) marks))) (sym e)
    (record { into = λ marks on. turned marks on; back = λ marks on. back marks on })
  where
    turned : (marks : List Mark)
        → Just (letter_n ∷ []) marks
        ⊎ Then (Just (letter_y ∷ [])) (Path (bin setup CHECKPOINT)) marks
        → Then (Just (letter_y ∷ [])) (Path (bin setup CHECKPOINT)) marks
        ⊎ Just (letter_n ∷ []) marks
    turned marks (inl on) = inr on
    turned marks (inr on) = inl on

    back : (marks : List Mark)
        → Then (Just (letter_y ∷ [])) (Path (bin setup CHECKPOINT)) marks
        ⊎ Just (letter_n ∷ []) marks
        → Just (letter_n ∷ []) marks
        ⊎ Then (Just (letter_y ∷ [])) (Path (bin setup CHECKPOINT)) marks
    back marks (inl on) = inr on
    back marks (inr on) = inl on

pub goes-empty : (job : Job) (x : Followed) (ways : List Witness) (t : Bool)
    → t ≡ is_empty (bin (setup_of job) CHECKPOINT) → t ≡ true
    → GoOn job x (PathOfCheckpoint (setup_of job)) ways ways
goes-empty job x ways t told e =
    goes-from job x (Just []) (PathOfCheckpoint (setup_of job)) ways ways
    (same-empty (setup_of job) (sym told ∙ e)) (goes-nothing job x ways)

pub goes-checkpoint : (job : Job) (x : Followed) (old lent passed taken new : List Witness)
    (t : Bool) → IsWhole job → t ≡ is_empty (bin (setup_of job) CHECKPOINT) → t ≡ false → lent ≡ old
    → GoOn job x (Then (Just (letter_y ∷ [])) (Path (bin (setup_of job) CHECKPOINT))) lent taken
    → passed ≡ map (with_letter 110) old → Joins x passed taken new
    → GoOn job x (PathOfCheckpoint (setup_of job)) old new
goes-checkpoint job x old lent passed taken new t is told e same taken_goes is_passed joins =
    let setup = setup_of job in
    let N = Just (letter_n ∷ []) in
    let Y = Then (Just (letter_y ∷ [])) (Path (bin setup CHECKPOINT)) in
    let passes : GoOn job x N old passed =
    subst (λ ways. GoOn job x N old ways) (sym is_passed) (goes-letter job x 110 old) in
    goes-from job x (λ marks. N marks ⊎ Y marks) (PathOfCheckpoint setup) old new
    (same-either setup (sym told ∙ e))
    (goes-join job x N Y old passed taken new is passes
    (subst (λ (ways : List Witness). GoOn job x Y ways taken) same taken_goes) joins)

pub stop-checkpoint : (job : Job) (old lent : List Witness) (stop : WitnessStop) (t : Bool)
    → t ≡ is_empty (bin (setup_of job) CHECKPOINT) → t ≡ false → lent ≡ old
    → Stop job (Then (Just (letter_y ∷ [])) (Path (bin (setup_of job) CHECKPOINT))) lent stop
    → Stop job (PathOfCheckpoint (setup_of job)) old stop
stop-checkpoint job old lent stop t told e same s =
    let setup = setup_of job in
    let Y = Then (Just (letter_y ∷ [])) (Path (bin setup CHECKPOINT)) in
    goes-stop-from job Y (PathOfCheckpoint setup) old stop
    (λ marks on. (same-either setup (sym told ∙ e)).into marks (inr on))
    (subst (λ (ways : List Witness). Stop job Y ways stop) same s)

pub some_checkpoint : (setup : Setup) → (marks : List Mark) × PathOfCheckpoint setup marks
some_checkpoint setup = by (is_empty (bin setup CHECKPOINT)) refl
  where
    by : (t : Bool) → is_empty (bin setup CHECKPOINT) ≡ t
        → (marks : List Mark) × PathOfCheckpoint setup marks
    by true e = ([], (same-empty setup e).into [] refl)
    by false e = (letter_n ∷ [], (same-either setup e).into (letter_n ∷ []) (inl refl))

-- ---- the parts of a job

pub stop-start : (job : Job) (old : List Witness) (stop : WitnessStop)
    → Stop job (PathOfBins (setup_of job)
    (STARTUP ∷ WRAGH ∷ PARAMCHECK ∷ BASEGRID ∷ INITIAL ∷ POSTINITIAL ∷ POSTSTEP ∷ [])) old stop
    → Stop job (PathOfStart (setup_of job)) old stop
stop-start job old stop s =
    goes-stop-first job (PathOfBins (setup_of job)
    (STARTUP ∷ WRAGH ∷ PARAMCHECK ∷ BASEGRID ∷ INITIAL ∷ POSTINITIAL ∷ POSTSTEP ∷ []))
    (PathOfAnalysis (setup_of job)) old stop (some_analysis (setup_of job)) s

pub goes-start : (job : Job) (x : Followed) (old mid : List Witness)
    (r : Result (Vec Witness Global) WitnessStop)
    → GoOn job x (PathOfBins (setup_of job)
    (STARTUP ∷ WRAGH ∷ PARAMCHECK ∷ BASEGRID ∷ INITIAL ∷ POSTINITIAL ∷ POSTSTEP ∷ [])) old mid
    → Goes job x (PathOfAnalysis (setup_of job)) mid r
    → Goes job x (PathOfStart (setup_of job)) old r
goes-start job x old mid r one two =
    goes-behind job x (PathOfBins (setup_of job)
    (STARTUP ∷ WRAGH ∷ PARAMCHECK ∷ BASEGRID ∷ INITIAL ∷ POSTINITIAL ∷ POSTSTEP ∷ []))
    (PathOfAnalysis (setup_of job)) old mid r one two

abbrev pub Begins : List Mark → Type 0
Begins = Just (letter_i ∷ Meets Rotates ∷ [])

same-begun : Same (Then (Just (letter_i ∷ [])) (Just (Meets Rotates ∷ [])))
    (Just (letter_i ∷ Meets Rotates ∷ []))
same-begun =
    record {
      into = λ marks on. on.4 ∙ ap (λ t. t ++ on.1) on.2 ∙ ap (λ t. letter_i ∷ t) on.3;
      back = λ marks on. (letter_i ∷ [], Meets Rotates ∷ [], refl, refl, on);
    }

pub goes-begun : (job : Job) (x : Followed) (old inside : List Witness)
    (r : Result (Vec Witness Global) WitnessStop) → inside ≡ map (with_letter 105) old
    → Goes job x (Just (Meets Rotates ∷ [])) inside r
    → Goes job x (Just (letter_i ∷ Meets Rotates ∷ [])) old r
goes-begun job x old inside r is g =
    goes-same job x (Then (Just (letter_i ∷ [])) (Just (Meets Rotates ∷ [])))
    (Just (letter_i ∷ Meets Rotates ∷ [])) old r same-begun
    (goes-behind-letter job x 105 (Just (Meets Rotates ∷ [])) old inside r is g)

abbrev pub Steps : Setup → List Mark → Type 0
Steps setup = PathOfBins setup (PRESTEP ∷ EVOL ∷ POSTSTEP ∷ [])

some_last : (setup : Setup)
    → (marks : List Mark) × Then (PathOfCheckpoint setup) (PathOfAnalysis setup) marks
some_last setup = both_some (PathOfCheckpoint setup) (PathOfAnalysis setup) (some_checkpoint setup)
    (some_analysis setup)

some_steps : (setup : Setup)
    → (marks : List Mark) × Then (Steps setup)
    (Then (PathOfCheckpoint setup) (PathOfAnalysis setup)) marks
some_steps setup = both_some (Steps setup) (Then (PathOfCheckpoint setup) (PathOfAnalysis setup))
    (some_bins setup (PRESTEP ∷ EVOL ∷ POSTSTEP ∷ [])) (some_last setup)

pub goes-iteration : (job : Job) (x : Followed) (old a b c : List Witness)
    (r : Result (Vec Witness Global) WitnessStop) → GoOn job x Begins old a
    → GoOn job x (Steps (setup_of job)) a b → GoOn job x (PathOfCheckpoint (setup_of job)) b c
    → Goes job x (PathOfAnalysis (setup_of job)) c r
    → Goes job x (PathOfIteration (setup_of job)) old r
goes-iteration job x old a b c r one two three four =
    let setup = setup_of job in
    let last = Then (PathOfCheckpoint setup) (PathOfAnalysis setup) in
    goes-behind job x Begins (Then (Steps setup) last) old a r one
    (goes-behind job x (Steps setup) last a b r two
    (goes-behind job x (PathOfCheckpoint setup) (PathOfAnalysis setup) b c r three four))

pub stop-begun : (job : Job) (old : List Witness) (stop : WitnessStop) → Stop job Begins old stop
    → Stop job (PathOfIteration (setup_of job)) old stop
stop-begun job old stop s =
    let setup = setup_of job in
    goes-stop-first job Begins
    (Then (Steps setup) (Then (PathOfCheckpoint setup) (PathOfAnalysis setup))) old stop
    (some_steps setup) s

pub stop-steps : (job : Job) (x : Followed) (old a : List Witness) (stop : WitnessStop)
    → GoOn job x Begins old a → Stop job (Steps (setup_of job)) a stop
    → Stop job (PathOfIteration (setup_of job)) old stop
stop-steps job x old a stop one s =
    let setup = setup_of job in
    let last = Then (PathOfCheckpoint setup) (PathOfAnalysis setup) in
    goes-stop-second job x Begins (Then (Steps setup) last) old a stop one
    (goes-stop-first job (Steps setup) last a stop (some_last setup) s)

pub stop-behind_steps : (job : Job) (x : Followed) (old a b : List Witness) (stop : WitnessStop)
    → GoOn job x Begins old a → GoOn job x (Steps (setup_of job)) a b
    → Stop job (PathOfCheckpoint (setup_of job)) b stop
    → Stop job (PathOfIteration (setup_of job)) old stop
stop-behind_steps job x old a b stop one two s =
    let setup = setup_of job in
    let last = Then (PathOfCheckpoint setup) (PathOfAnalysis setup) in
    goes-stop-second job x Begins (Then (Steps setup) last) old a stop one
    (goes-stop-second job x (Steps setup) last a b stop two
    (goes-stop-first job (PathOfCheckpoint setup) (PathOfAnalysis setup) b stop
    (some_analysis setup) s))

-- ---- iterations

iterations-into : (setup : Setup) (n : ℕ) (marks : List Mark)
    → Again (PathOfIteration setup) (Just []) n marks → PathOfIterations setup n marks
iterations-into setup zero marks on = on
iterations-into setup (suc n) marks (a, b, one, rest, all) =
    (a, b, one, iterations-into setup n b rest, all)

iterations-back : (setup : Setup) (n : ℕ) (marks : List Mark) → PathOfIterations setup n marks
    → Again (PathOfIteration setup) (Just []) n marks
iterations-back setup zero marks on = on
iterations-back setup (suc n) marks (a, b, one, rest, all) =
    (a, b, one, iterations-back setup n b rest, all)

same-iterations : (setup : Setup)
    → Same (AnyTimes (PathOfIteration setup) (Just [])) (PathOfAllIterations setup)
same-iterations setup =
    record {
      into = λ marks on. (on.0, iterations-into setup on.0 marks on.1);
      back = λ marks on. (on.0, iterations-back setup on.0 marks on.1);
    }

-- the ways before an iteration
abbrev pub IsHeadOfIterations : Job → Followed → List Witness → List Witness → Type 0
IsHeadOfIterations job x = IsHead job x (AnyTimes (PathOfIteration (setup_of job)) (Just []))

pub stop-iterations : (job : Job) (x : Followed) (first head lent : List Witness)
    (stop : WitnessStop) → lent ≡ head → IsHeadOfIterations job x first head
    → Stop job (PathOfIteration (setup_of job)) lent stop
    → Stop job (PathOfAllIterations (setup_of job)) first stop
stop-iterations job x first head lent stop same is_head s =
    let Turn = PathOfIteration (setup_of job) in
    goes-stop-from job (AnyTimes Turn (Just [])) (PathOfAllIterations (setup_of job)) first stop
    (same-iterations (setup_of job)).into
    (stop-turn job x Turn (Just []) first head stop ([], refl) is_head
    (subst (λ (ways : List Witness). Stop job Turn ways stop) same s))

pub iterations-next : (job : Job) (x : Followed) (first head lent turned new : List Witness)
    → lent ≡ head → IsHeadOfIterations job x first head
    → GoOn job x (PathOfIteration (setup_of job)) lent turned → Joins x head turned new
    → IsHeadOfIterations job x first new
iterations-next job x first head lent turned new same is_head turn joins =
    let Turn = PathOfIteration (setup_of job) in
    head-next job x Turn (Just []) first head turned new is_head
    (subst (λ (ways : List Witness). GoOn job x Turn ways turned) same turn).each joins

pub iterations-end : (job : Job) (x : Followed) (first head lent turned : List Witness)
    → IsWhole job → lent ≡ head → IsHeadOfIterations job x first head
    → GoOn job x (PathOfIteration (setup_of job)) lent turned → covers x head turned ≡ true
    → GoOn job x (PathOfAllIterations (setup_of job)) first head
iterations-end job x first head lent turned is same is_head turn covers =
    let Turn = PathOfIteration (setup_of job) in
    goes-from job x (AnyTimes Turn (Just [])) (PathOfAllIterations (setup_of job)) first head
    (same-iterations (setup_of job))
    (goes-settled job x Turn (Just []) first head turned head is is_head covers
    (subst (λ (ways : List Witness). GoOn job x Turn ways turned) same turn)
    (goes-nothing job x head))

-- ---- the whole job

abbrev pub Ends : Setup → List Mark → Type 0
Ends setup = PathOfBins setup (TERMINATE ∷ SHUTDOWN ∷ [])

some_end : (setup : Setup) → (marks : List Mark) × Ends setup marks
some_end setup = some_bins setup (TERMINATE ∷ SHUTDOWN ∷ [])

pub goes-job : (job : Job) (x : Followed) (old a b : List Witness)
    (r : Result (Vec Witness Global) WitnessStop) → GoOn job x (PathOfStart (setup_of job)) old a
    → GoOn job x (PathOfAllIterations (setup_of job)) a b → Goes job x (Ends (setup_of job)) b r
    → Goes job x (PathOfJob (setup_of job)) old r
goes-job job x old a b r one two three =
    let setup = setup_of job in
    goes-behind job x (PathOfStart setup) (Then (PathOfAllIterations setup) (Ends setup))
    old a r one
    (goes-behind job x (PathOfAllIterations setup) (Ends setup) a b r two three)

pub stop-job-start : (job : Job) (old : List Witness) (stop : WitnessStop)
    → Stop job (PathOfStart (setup_of job)) old stop → Stop job (PathOfJob (setup_of job)) old stop
stop-job-start job old stop s =
    let setup = setup_of job in
    goes-stop-first job (PathOfStart setup) (Then (PathOfAllIterations setup) (Ends setup)) old stop
    (both_some (PathOfAllIterations setup) (Ends setup) ([], (0, refl)) (some_end setup)) s

pub stop-job-iterations : (job : Job) (x : Followed) (old a : List Witness) (stop : WitnessStop)
    → GoOn job x (PathOfStart (setup_of job)) old a
    → Stop job (PathOfAllIterations (setup_of job)) a stop
    → Stop job (PathOfJob (setup_of job)) old stop
stop-job-iterations job x old a stop one s =
    let setup = setup_of job in
    goes-stop-second job x (PathOfStart setup) (Then (PathOfAllIterations setup) (Ends setup))
    old a stop one
    (goes-stop-first job (PathOfAllIterations setup) (Ends setup) a stop (some_end setup) s)

-- ---- from the beginning

abbrev pub first_way : Job → Witness
first_way job = record { letters = []; flags = replicate (8 * length job.vars) none_set }

only : (one way : Witness) → IsAmong (one ∷ []) way → way ≡ one
only one way (zero, at) = cc
only one way (suc k, at) = absurd (cc)

covered-first : (job : Job) (x : Followed) → IsCovered job x (first_way job ∷ []) cleared
covered-first job x = λ level stored e.
    (first_way job, (0, refl), cleared_at_first (8 * length job.vars) x.variable level x.flag)

pub follows-ok : (job : Job) (x : Followed) (first new : List Witness) → first ≡ first_way job ∷ []
    → GoOn job x (PathOfJob (setup_of job)) first new → IsAlwaysMet (setup_of job) x
follows-ok job x first new is g =
    λ marks on. g.met cleared marks on
    (subst (λ ways. IsCovered job x ways cleared) (sym is) (covered-first job x))

pub follows-stop : (job : Job) (x : Followed) (first : List Witness) (stop : WitnessStop)
    → first ≡ first_way job ∷ [] → Stop job (PathOfJob (setup_of job)) first stop
    → Follows {X = Unit {0}} (setup_of job) x (Err stop)
follows-stop job x first Memory is s = tt
follows-stop job x first (Unset letters unmet) is s =
    let Q = PathOfJob (setup_of job) in
    let here : s.0 ≡ first_way job =
    only (first_way job) s.0 (subst (λ ways. IsAmong ways s.0) is s.1) in
    let stops = subst (λ (way : Witness). StopsAt job Q way letters (seen unmet)) here s.2 in
    (stops.marks, stops.on, stops.unmet cleared (agrees-first job))
