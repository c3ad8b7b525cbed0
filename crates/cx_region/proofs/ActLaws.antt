-- What the paths of a whole job meet are steps of it; so a need that isn't met is one of its
-- variables.
use Rattle.std.proofs.Common.{◌≡◌, ℕ, zero, suc, ◌<◌, ◌≤◌, pos, int_lt, Bool, true, false, not, ◌&&◌, cond, refl, sym, ap, subst, ◌∙◌, List, [], ◌∷◌, ◌++◌, length, get_or, Some, None, ◌⊎◌, inl, inr}
use Rattle.std.specs.List.{All}
use Rattle.std.proofs.lemmas.Bool.{cases_lt, eq-eqb}
use Rattle.std.proofs.lemmas.List.{get_or_past}
use Rattle.std.proofs.lemmas.List.Elements.{All-head, All-tail, All-get_or}
use Rattle.cx_plan.specs.declared.flag.Flag.{Flag}
use Rattle.cx_plan.specs.declared.flag.Flag.TheVariants.{I, B, G, S}
use Rattle.cx_plan.specs.declared.job.Job.{Job}
use Rattle.cx_plan.specs.declared.tree.Tree.{Tree, Seq, Seq', Call, Sync, If', While', Row_of-Tree, end_of-Tree, more_of-Tree}
use Rattle.cx_plan.specs.Setups.{Setup, setup_of}
use Rattle.cx_plan.specs.Lookups.{bin, is_empty, STARTUP, WRAGH, PARAMCHECK, BASEGRID, INITIAL, POSTINITIAL, PRESTEP, EVOL, POSTSTEP, CHECKPOINT, ANALYSIS, TERMINATE, SHUTDOWN}
use Rattle.cx_plan.specs.Regions.{Flags, Act, Turns, Syncs, Tests, Rotates, Need, needs, leaves, is_met, cleared}
use Rattle.cx_plan.specs.Paths.{Mark, Letter, Meets, letter_i, letter_y, letter_n, letter_w, letter_x, Then, Just, Loop, Path, PathIn, PathOfBins, PathOfAnalysis, PathOfCheckpoint, PathOfStart, PathOfIteration, PathOfIterations, PathOfJob, or_go_on, first_unmet, Sound}
use Rattle.cx_plan.specs.Whole.{IsWhole, IsTree, IsRow}
use Rattle.cx_region.specs.declared.witness.Followed.{Followed}
use Rattle.cx_region_flags.specs.Agreeing.{IsAct}
use Rattle.cx_region_flags.specs.AllPaths.{outputs_if}
use Rattle.cx_region_flags.specs.Unmet.{first_unmet_of}
use Rattle.cx_region.specs.Witnesses.{same_flag, is_followed, AreMet}
use Rattle.cx_region.specs.OneFlag.{IsAlwaysMet}
use Rattle.cx_region_flags.proofs.AgreeLaws.{needs_stored}
use Rattle.cx_region.proofs.OneFlagTreeLaws.{same-seq}
use Rattle.cx_region.proofs.OneFlagJobLaws.{same-analysis, same-empty, same-either}

-- ---- steps of the job

abbrev pub AreActs : Job → List Mark → Type 0
AreActs job [] = Unit {0}
AreActs job (Letter c ∷ marks) = AreActs job marks
AreActs job (Meets act ∷ marks) = IsAct job act × AreActs job marks

acts-append : (job : Job) (a b : List Mark) → AreActs job a → AreActs job b → AreActs job (a ++ b)
acts-append job [] b one two = two
acts-append job (Letter c ∷ a) b one two = acts-append job a b one two
acts-append job (Meets act ∷ a) b one two = (one.0, acts-append job a b one.1 two)

acts-just : (job : Job) (these marks : List Mark) → AreActs job these → Just these marks
    → AreActs job marks
acts-just job these marks are is = subst (AreActs job) (sym is) are

acts-then : (job : Job) (P Q : List Mark → Type 0)
    → ((marks : List Mark) → P marks → AreActs job marks)
    → ((marks : List Mark) → Q marks → AreActs job marks) → (marks : List Mark) → Then P Q marks
    → AreActs job marks
acts-then job P Q one two marks (a, b, p, q, all) =
    subst (AreActs job) (sym all) (acts-append job a b (one a p) (two b q))

acts-loop : (job : Job) (test : Act) (Body : List Mark → Type 0) → IsAct job test
    → ((marks : List Mark) → Body marks → AreActs job marks) → (n : ℕ) (marks : List Mark)
    → Loop test Body n marks → AreActs job marks
acts-loop job test Body is body zero marks on =
    acts-just job (Meets test ∷ letter_x ∷ []) marks (is, tt) on
acts-loop job test Body is body (suc n) marks on =
    acts-then job (Just (Meets test ∷ letter_w ∷ [])) (Then Body (Loop test Body n))
    (λ ms at. acts-just job (Meets test ∷ letter_w ∷ []) ms (is, tt) at)
    (λ ms at. acts-then job Body (Loop test Body n) body
    (λ l there. acts-loop job test Body is body n l there) ms at) marks on

mutual
  acts-tree : (job : Job) (t : Tree) → IsTree job t → (marks : List Mark) → Path t marks
      → AreActs job marks
  acts-tree job (Seq' shape all) is marks on = acts-row job all is marks on
  acts-tree job (Call k) is marks on = acts-just job (Meets (Turns k) ∷ []) marks (is, tt) on
  acts-tree job (Sync vars path) is marks on =
      acts-just job (Meets (Syncs vars path) ∷ []) marks (is.0, tt) on
  acts-tree job (If' v path shape one) is marks (inl on) =
      acts-then job (Just (Meets (Tests v path) ∷ letter_y ∷ [])) (PathIn one)
      (λ ms at. acts-just job (Meets (Tests v path) ∷ letter_y ∷ []) ms (is.0, tt) at)
      (λ ms at. acts-row job one is.1 ms at) marks on
  acts-tree job (If' v path shape one) is marks (inr on) =
      acts-just job (Meets (Tests v path) ∷ letter_n ∷ []) marks (is.0, tt) on
  acts-tree job (While' v path shape one) is marks on =
      acts-loop job (Tests v path) (PathIn one) is.0 (λ ms at. acts-row job one is.1 ms at)
      on.0 marks on.1

  acts-row : {m : _} (job : Job) (row : Row_of-Tree m) → IsRow job row → (marks : List Mark)
      → PathIn row marks → AreActs job marks
  acts-row job end_of-Tree is marks on = acts-just job [] marks tt on
  acts-row job (more_of-Tree tree rest) is marks on =
      acts-then job (Path tree) (PathIn rest) (λ ms at. acts-tree job tree is.0 ms at)
      (λ ms at. acts-row job rest is.1 ms at) marks on

acts-bin : (job : Job) → IsWhole job → (b : ℕ) (marks : List Mark)
    → Path (bin (setup_of job) b) marks → AreActs job marks
acts-bin job is b marks on = by (cases_lt b (length job.plan.bins))
  where
    by : (b < length job.plan.bins) ⊎ (length job.plan.bins ≤ b) → AreActs job marks
    by (inl below) = acts-tree job (bin (setup_of job) b)
        (All-get_or (IsTree job) job.plan.bins b (Seq []) below is.trees) marks on
    by (inr past) =
        acts-just job [] marks tt
        ((same-seq []).back marks
        (subst (λ (t : Tree). Path t marks) (get_or_past job.plan.bins b (Seq []) past) on))

acts-bins : (job : Job) → IsWhole job → (bs : List ℕ) (marks : List Mark)
    → PathOfBins (setup_of job) bs marks → AreActs job marks
acts-bins job is [] marks on = acts-just job [] marks tt on
acts-bins job is (b ∷ bs) marks on =
    acts-then job (Path (bin (setup_of job) b)) (PathOfBins (setup_of job) bs) (acts-bin job is b)
    (λ ms at. acts-bins job is bs ms at) marks on

acts-analysis : (job : Job) → IsWhole job → (marks : List Mark)
    → PathOfAnalysis (setup_of job) marks → AreActs job marks
acts-analysis job is marks on =
    let setup = setup_of job in
    acts-then job (Path (bin setup ANALYSIS)) (Just (outputs_if (int_lt (pos 0) job.out_every)))
    (acts-bin job is ANALYSIS)
    (λ ms at. acts-just job (outputs_if (int_lt (pos 0) job.out_every)) ms
    (output (int_lt (pos 0) job.out_every)) at) marks
    ((same-analysis setup job.out_every).back marks on)
  where
    output : (t : Bool) → AreActs job (outputs_if t)
    output true = (tt, tt)
    output false = tt

acts-checkpoint : (job : Job) → IsWhole job → (marks : List Mark)
    → PathOfCheckpoint (setup_of job) marks → AreActs job marks
acts-checkpoint job is marks on = by (is_empty (bin (setup_of job) CHECKPOINT)) refl
  where
    either : Just (letter_n ∷ []) marks
        ⊎ Then (Just (letter_y ∷ [])) (Path (bin (setup_of job) CHECKPOINT)) marks
        → AreActs job marks
    either (inl at) = acts-just job (letter_n ∷ []) marks tt at
    either (inr at) =
        acts-then job (Just (letter_y ∷ [])) (Path (bin (setup_of job) CHECKPOINT))
        (λ ms here. acts-just job (letter_y ∷ []) ms tt here) (acts-bin job is CHECKPOINT)
        marks at

    by : (t : Bool) → is_empty (bin (setup_of job) CHECKPOINT) ≡ t → AreActs job marks
    by true e = acts-just job [] marks tt ((same-empty (setup_of job) e).back marks on)
    by false e = either ((same-either (setup_of job) e).back marks on)

acts-start : (job : Job) → IsWhole job → (marks : List Mark) → PathOfStart (setup_of job) marks
    → AreActs job marks
acts-start job is marks on =
    acts-then job (PathOfBins (setup_of job)
    (STARTUP ∷ WRAGH ∷ PARAMCHECK ∷ BASEGRID ∷ INITIAL ∷ POSTINITIAL ∷ POSTSTEP ∷ []))
    (PathOfAnalysis (setup_of job))
    (acts-bins job is (STARTUP ∷ WRAGH ∷ PARAMCHECK ∷ BASEGRID ∷ INITIAL ∷ POSTINITIAL ∷ POSTSTEP
    ∷ [])) (acts-analysis job is) marks on

acts-iteration : (job : Job) → IsWhole job → (marks : List Mark)
    → PathOfIteration (setup_of job) marks → AreActs job marks
acts-iteration job is marks on =
    let setup = setup_of job in
    let steps = PathOfBins setup (PRESTEP ∷ EVOL ∷ POSTSTEP ∷ []) in
    let last = Then (PathOfCheckpoint setup) (PathOfAnalysis setup) in
    acts-then job (Just (letter_i ∷ Meets Rotates ∷ [])) (Then steps last)
    (λ ms at. acts-just job (letter_i ∷ Meets Rotates ∷ []) ms (tt, tt) at)
    (acts-then job steps last (acts-bins job is (PRESTEP ∷ EVOL ∷ POSTSTEP ∷ []))
    (acts-then job (PathOfCheckpoint setup) (PathOfAnalysis setup) (acts-checkpoint job is)
    (acts-analysis job is))) marks on

acts-iterations : (job : Job) → IsWhole job → (n : ℕ) (marks : List Mark)
    → PathOfIterations (setup_of job) n marks → AreActs job marks
acts-iterations job is zero marks on = acts-just job [] marks tt on
acts-iterations job is (suc n) marks on =
    acts-then job (PathOfIteration (setup_of job)) (PathOfIterations (setup_of job) n)
    (acts-iteration job is) (λ ms at. acts-iterations job is n ms at) marks on

pub acts-job : (job : Job) → IsWhole job → (marks : List Mark) → PathOfJob (setup_of job) marks
    → AreActs job marks
acts-job job is marks on =
    let setup = setup_of job in
    let All' = λ (ms : List Mark). (n : ℕ) × PathOfIterations setup n ms in
    let last = PathOfBins setup (TERMINATE ∷ SHUTDOWN ∷ []) in
    acts-then job (PathOfStart setup) (Then All' last) (acts-start job is)
    (acts-then job All' last (λ ms at. acts-iterations job is at.0 ms at.1)
    (acts-bins job is (TERMINATE ∷ SHUTDOWN ∷ []))) marks on

-- ---- each flag of each variable

same_flag-same : (f : Flag) → same_flag f f ≡ true
same_flag-same I = refl
same_flag-same B = refl
same_flag-same G = refl
same_flag-same S = refl

abbrev pub flag_at : ℕ → Flag → Followed
flag_at v f = record { variable = record { 0 = v }; flag = f }

follows-itself : (n : Need) → is_followed (flag_at n.var.0 n.flag) n ≡ true
follows-itself n = ap (λ t. t && same_flag n.flag n.flag) (eq-eqb n.var.0 n.var.0 refl)
    ∙ same_flag-same n.flag

none_found : (setup : Setup) (F : Flags) (ns : List Need) → All (λ n. is_met setup F n ≡ true) ns
    → first_unmet_of setup F ns ≡ None
none_found setup F [] met = refl
none_found setup F (n ∷ ns) met =
    ap (λ t. cond (not t) (Some n) (first_unmet_of setup F ns))
    (All-head (λ n. is_met setup F n ≡ true) n ns met)
    ∙ none_found setup F ns (All-tail (λ n. is_met setup F n ≡ true) n ns met)

abbrev AreAllMet : Job → Flags → List Mark → Type 0
AreAllMet job F marks = (v : ℕ) (f : Flag) → v < length job.vars
    → AreMet (setup_of job) (flag_at v f) F marks

none-unmet : (job : Job) → IsWhole job → (marks : List Mark) (letters : List ℕ) (F : Flags)
    → AreActs job marks → AreAllMet job F marks → first_unmet (setup_of job) letters F marks ≡ None
none-unmet job is [] letters F acts met = refl
none-unmet job is (Letter c ∷ marks) letters F acts met =
    none-unmet job is marks (letters ++ c ∷ []) F acts met
none-unmet job is (Meets act ∷ marks) letters F acts met =
    let setup = setup_of job in
    let ns = needs setup act in
    let all_met : All (λ n. is_met setup F n ≡ true) ns =
    λ i d below.
    let n = get_or ns i d in
    let stored = needs_stored job act is acts.0 i d below in
    (met n.var.0 n.flag stored.0).0 i d below (follows-itself n)
    in
    ap (λ o. or_go_on letters o (first_unmet setup letters (leaves setup act F) marks))
    (none_found setup F ns all_met)
    ∙ none-unmet job is marks letters (leaves setup act F) acts.1 (λ v f below. (met v f below).1)

-- where each flag of each variable is always met, the job is sound
pub sound-of-all : (job : Job) → IsWhole job
    → ((v : ℕ) (f : Flag) → v < length job.vars → IsAlwaysMet (setup_of job) (flag_at v f))
    → Sound (setup_of job)
sound-of-all job is met =
    λ marks on. none-unmet job is marks [] cleared (acts-job job is marks on)
    (λ v f below. met v f below marks on)
