-- Steps on ways: a way goes on by a step that it takes, and ways that all take a step cover what
-- follows.
use Rattle.std.proofs.Common.{◌≡◌, ℕ, zero, suc, ◌<◌, ◌≤◌, Bool, true, false, not, ◌&&◌, ◌||◌, cond, eqb, ltb, refl, sym, ap, subst, ◌∙◌, List, [], ◌∷◌, ◌++◌, length, get_or, Some, None, Result, Ok, Err, ◌⊎◌, inl, inr, arith}
use Rattle.std.specs.Prelude.{◌==◌}
use Rattle.std.specs.List.{All}
use Rattle.std.proofs.lemmas.Bool.{eqb-true, cases_lt}
use Rattle.std.proofs.lemmas.List.{append-nil, get_or_past}
use Rattle.std.proofs.lemmas.List.Elements.{All-nil, All-cons}
use Rattle.cx_plan.specs.declared.flag.Flag.{Flag}
use Rattle.cx_plan.specs.declared.flag.Flag.TheVariants.{I, B, G, S}
use Rattle.cx_plan.specs.declared.item.Region.{Region}
use Rattle.cx_plan.specs.declared.item.Region.TheVariants.{Interior, Boundary, Everywhere}
use Rattle.cx_plan.specs.declared.item.Touch.{Touch}
use Rattle.cx_plan.specs.declared.variable.VarId.{VarId}
use Rattle.cx_plan.specs.declared.job.Job.{Job}
use Rattle.cx_plan.specs.Setups.{Setup, setup_of}
use Rattle.cx_plan.specs.Lookups.{item, is_scalar, levels_of}
use Rattle.cx_plan.specs.Regions.{Flags, Act, Turns, Syncs, Tests, Rotates, Outputs, Need, needs, leaves, is_met, is_B, is_G, is_among, has_boundary, after_scalar, after_write, written, all_written, same_variable}
use Rattle.cx_plan.specs.Paths.{Meets, Just, or_go_on}
use Rattle.cx_plan.specs.Whole.{IsWhole, IsStored}
use Rattle.cx_region_flags.specs.declared.flags.LevelFlags.{LevelFlags}
use Rattle.cx_region.specs.declared.witness.Witness.{Witness}
use Rattle.cx_region.specs.declared.witness.Followed.{Followed}
use Rattle.cx_region.specs.declared.witness.WitnessStop.{WitnessStop}
use Rattle.cx_region.specs.declared.witness.WitnessStop.TheVariants.{Unset, Memory}
use Rattle.cx_region_flags.specs.Agreeing.{IsAct}
use Rattle.cx_region_flags.specs.Cells.{none_set, flag_of, place, flags_in, Holds}
use Rattle.cx_region_flags.specs.AllPaths.{flags_after}
use Rattle.cx_region_flags.specs.Unmet.{seen, first_unmet_of}
use Rattle.cx_region.specs.Witnesses.{Comes, IsTaken, Takes, same_flag, is_followed, AreMet, IsAmong, IsClearedOn, IsCovered, GoOn, Stop}
use Rattle.cx_region_flags.proofs.TableLaws.{flag-none}
use Rattle.cx_region_flags.proofs.AgreeLaws.{agrees-leaves, IsStoredNeed, needs_stored, unmet-same}
use Rattle.cx_region.proofs.WitnessLaws.{stored_few}

-- ---- one way

-- a way that has taken a step goes on by it, and one that stops stops at it
pub comes-takes : (job : Job) (act : Act) (old : Witness) (result : Result Witness WitnessStop)
    → IsWhole job → IsAct job act → Takes job act old result
    → Comes job (Just (Meets act ∷ [])) old result
comes-takes job act old (Ok new) is there taken =
    record {
      marks = Meets act ∷ [];
      on = refl;
      letters = taken.letters ∙ sym (append-nil old.letters);
      flags = λ F agrees. agrees-leaves job act old.flags new.flags F is agrees taken.flags;
      met = λ F agrees.
          ap (λ o. or_go_on old.letters o None)
          (sym (unmet-same job old.flags F (needs (setup_of job) act) agrees
          (needs_stored job act is there)) ∙ taken.met);
    }
comes-takes job act old (Err Memory) is there taken = tt
comes-takes job act old (Err (Unset letters unmet)) is there taken =
    record {
      marks = Meets act ∷ [];
      on = refl;
      unmet = λ F agrees.
          ap (λ o. or_go_on old.letters o None)
          (sym (unmet-same job old.flags F (needs (setup_of job) act) agrees
          (needs_stored job act is there)) ∙ taken.1)
          ∙ ap (λ ls. Some (ls, seen unmet)) (sym taken.0);
    }

-- ---- what a step makes of a flag of a level

-- it sets it, clears it, or it is that of a stored level, also as it was
pub data Fate (job : Job) (after : Flags → Bool) (v : VarId) (f : Flag) : Type 0 where
  sets : ((F : Flags) → after F ≡ true) → Fate job after v f
  clears : ((F : Flags) → after F ≡ false) → Fate job after v f
  copies : (level : ℕ) → IsStored job v level → ((F : Flags) → after F ≡ F v level f)
      → Fate job after v f

-- a test of one flag is always true, always false, or that flag
data OfOne (g : Bool → Bool) : Type 0 where
  always : ((t : Bool) → g t ≡ true) → OfOne g
  never : ((t : Bool) → g t ≡ false) → OfOne g
  as_it_was : ((t : Bool) → g t ≡ t) → OfOne g

scalar-one : (f : Flag) → OfOne (after_scalar f)
scalar-one S = always (λ t. refl)
scalar-one I = as_it_was (λ t. refl)
scalar-one B = as_it_was (λ t. refl)
scalar-one G = as_it_was (λ t. refl)

write-one : (r : Region) (f : Flag) → OfOne (after_write r f)
write-one Interior I = always (λ t. refl)
write-one Interior B = never (λ t. refl)
write-one Interior G = never (λ t. refl)
write-one Interior S = as_it_was (λ t. refl)
write-one Everywhere I = always (λ t. refl)
write-one Everywhere B = always (λ t. refl)
write-one Everywhere G = always (λ t. refl)
write-one Everywhere S = as_it_was (λ t. refl)
write-one Boundary I = as_it_was (λ t. refl)
write-one Boundary B = always (λ t. refl)
write-one Boundary G = as_it_was (λ t. refl)
write-one Boundary S = as_it_was (λ t. refl)

written-one : (r : Region) (f : Flag) (here scalar : Bool)
    → OfOne (λ t. cond here (cond scalar (after_scalar f t) (after_write r f t)) t)
written-one r f true true = scalar-one f
written-one r f true false = write-one r f
written-one r f false scalar = as_it_was (λ t. refl)

-- writes, one after another
after-one : (g : Bool → Bool) (h : Bool → Bool) → OfOne g → OfOne h → OfOne (λ t. h (g t))
after-one g h one (always e) = always (λ t. e (g t))
after-one g h one (never e) = never (λ t. e (g t))
after-one g h (always e) (as_it_was i) = always (λ t. i (g t) ∙ e t)
after-one g h (never e) (as_it_was i) = never (λ t. i (g t) ∙ e t)
after-one g h (as_it_was e) (as_it_was i) = as_it_was (λ t. i (g t) ∙ e t)

-- what writes make of a flag is a test of that flag alone
all_written-one : (setup : Setup) (ws : List Touch) (v : VarId) (level : ℕ) (f : Flag)
    → (g : Bool → Bool) × OfOne g
    × ((F : Flags) → all_written setup ws F v level f ≡ g (F v level f))
all_written-one setup [] v level f = (λ t. t, as_it_was (λ t. refl), λ F. refl)
all_written-one setup (w ∷ ws) v level f =
    let g = λ (t : Bool). cond (same_variable v w.var && eqb level w.level)
    (cond (is_scalar setup v) (after_scalar f t) (after_write w.region f t)) t in
    let rest = all_written-one setup ws v level f in
    let one = written-one w.region f (same_variable v w.var && eqb level w.level)
    (is_scalar setup v) in
    (λ t. rest.0 (g t), after-one g rest.0 one rest.1, λ F. rest.2 (written setup F w))

fate-one : (job : Job) (v : VarId) (level : ℕ) (f : Flag) (after : Flags → Bool) (g : Bool → Bool)
    → IsStored job v level → OfOne g → ((F : Flags) → after F ≡ g (F v level f))
    → Fate job after v f
fate-one job v level f after g stored (always e) told = sets (λ F. told F ∙ e (F v level f))
fate-one job v level f after g stored (never e) told = clears (λ F. told F ∙ e (F v level f))
fate-one job v level f after g stored (as_it_was e) told =
    copies level stored (λ F. told F ∙ e (F v level f))

or-one : (c : Bool) → OfOne (λ t. c || t)
or-one true = always (λ t. refl)
or-one false = as_it_was (λ t. refl)

pub fate-of : (job : Job) (act : Act) (v : VarId) (level : ℕ) (f : Flag) → IsStored job v level
    → Fate job (λ F. leaves (setup_of job) act F v level f) v f
fate-of job (Turns k) v level f stored =
    let told = all_written-one (setup_of job) (item (setup_of job) k).writes v level f in
    fate-one job v level f (λ F. leaves (setup_of job) (Turns k) F v level f)
    told.0 stored told.1 told.2
fate-of job (Syncs vars path) v level f stored =
    let c = is_among v vars && level == 0 && is_G f in
    fate-one job v level f (λ F. leaves (setup_of job) (Syncs vars path) F v level f) (λ t. c || t)
    stored (or-one c) (λ F. refl)
fate-of job (Tests u path) v level f stored = copies level stored (λ F. refl)
fate-of job Outputs v level f stored = copies level stored (λ F. refl)
fate-of job Rotates v zero f stored = by (ltb 1 (levels_of (setup_of job) v))
  where
    by : (t : Bool) → Fate job (λ F. cond t false (F v 0 f)) v f
    by true = clears (λ F. refl)
    by false = copies 0 stored (λ F. refl)
fate-of job Rotates v (suc level) f stored = by (ltb 1 (levels_of (setup_of job) v))
  where
    by : (t : Bool) → Fate job (λ F. cond t (F v level f) (F v (suc level) f)) v f
    by true =
        let newer : IsStored job v level = (stored.0, omega arith) in
        copies level newer (λ F. refl)
    by false = copies (suc level) stored (λ F. refl)

-- a flag that a step leaves cleared is cleared in cells that hold what it leaves
pub cleared-leaves : (job : Job) (act : Act) (old new : List LevelFlags) (v : VarId) (level : ℕ)
    (f : Flag) → level < 8 → Holds old new (leaves (setup_of job) act (flags_in old))
    → leaves (setup_of job) act (flags_in old) v level f ≡ false → flags_in new v level f ≡ false
cleared-leaves job act old new v level f few holds cleared =
    by (cases_lt (place v level) (length old))
  where
    by : (place v level < length old) ⊎ (length old ≤ place v level)
        → flags_in new v level f ≡ false
    by (inl there) = holds.same_flags v level f (record { few = few; there = there }) ∙ cleared
    by (inr past) =
        let behind : length new ≤ place v level = omega (arith, past, holds.same_length) in
        ap (λ (x : LevelFlags). flag_of x f) (get_or_past new (place v level) none_set behind)
        ∙ flag-none f

-- ---- several ways

-- each of the new ways is the old one after a step
abbrev pub AllTaken : Job → Act → List Witness → List Witness → Type 0
AllTaken job act [] [] = Unit {0}
AllTaken job act [] (new ∷ news) = ⊥
AllTaken job act (old ∷ olds) [] = ⊥
AllTaken job act (old ∷ olds) (new ∷ news) = IsTaken job act old new × AllTaken job act olds news

taken-more : (job : Job) (act : Act) (olds news : List Witness) (old new : Witness)
    → AllTaken job act olds news → IsTaken job act old new
    → AllTaken job act (olds ++ old ∷ []) (news ++ new ∷ [])
taken-more job act [] [] old new all one = (one, tt)
taken-more job act [] (n ∷ news) old new all one = absurd all
taken-more job act (o ∷ olds) [] old new all one = absurd all
taken-more job act (o ∷ olds) (n ∷ news) old new all one =
    (all.0, taken-more job act olds news old new all.1 one)

pub taken-pushed : (job : Job) (act : Act) (olds news pushed : List Witness) (old new : Witness)
    → pushed ≡ news ++ new ∷ [] → AllTaken job act olds news → IsTaken job act old new
    → AllTaken job act (olds ++ old ∷ []) pushed
taken-pushed job act olds news pushed old new items all one =
    subst (AllTaken job act (olds ++ old ∷ [])) (sym items)
    (taken-more job act olds news old new all one)

-- the old one of a new way
taken-back : (job : Job) (act : Act) (olds news : List Witness) (new : Witness)
    → AllTaken job act olds news → IsAmong news new
    → (old : Witness) × IsAmong olds old × IsTaken job act old new
taken-back job act [] [] new all (k, at) = absurd (cc)
taken-back job act [] (n ∷ news) new all among = absurd all
taken-back job act (o ∷ olds) [] new all among = absurd all
taken-back job act (o ∷ olds) (n ∷ news) new all (zero, at) =
    let same : n ≡ new = cc in
    (o, (0, refl), subst (IsTaken job act o) same all.0)
taken-back job act (o ∷ olds) (n ∷ news) new all (suc k, at) =
    let later = taken-back job act olds news new all.1 (k, at) in
    (later.0, (suc later.1.0, later.1.1), later.2)

-- the new one of an old way
taken-on : (job : Job) (act : Act) (olds news : List Witness) (old : Witness)
    → AllTaken job act olds news → IsAmong olds old
    → (new : Witness) × IsAmong news new × IsTaken job act old new
taken-on job act [] [] old all (k, at) = absurd (cc)
taken-on job act [] (n ∷ news) old all among = absurd all
taken-on job act (o ∷ olds) [] old all among = absurd all
taken-on job act (o ∷ olds) (n ∷ news) old all (zero, at) =
    let same : o ≡ old = cc in
    (n, (0, refl), subst (λ w. IsTaken job act w n) same all.0)
taken-on job act (o ∷ olds) (n ∷ news) old all (suc k, at) =
    let later = taken-on job act olds news old all.1 (k, at) in
    (later.0, (suc later.1.0, later.1.1), later.2)

-- ---- coverage

-- where a step leaves a followed flag cleared, it is cleared on a new way
taken-covered : (job : Job) (x : Followed) (act : Act) (olds news : List Witness) (F : Flags)
    → IsWhole job → 1 ≤ length olds → AllTaken job act olds news → IsCovered job x olds F
    → IsCovered job x news (leaves (setup_of job) act F)
taken-covered job x act olds news F is some all covered = λ level stored cleared.
    by level stored cleared (fate-of job act x.variable level x.flag stored)
  where
    false_true : true ≡ false → ⊥
    false_true e = absurd (cc)

    on_new : (level : ℕ) (old : Witness) → IsStored job x.variable level → IsAmong olds old
        → leaves (setup_of job) act (flags_in old.flags) x.variable level x.flag ≡ false
        → IsClearedOn x news level
    on_new level old stored among cleared =
        let on = taken-on job act olds news old all among in (
          on.0,
          on.1,
          cleared-leaves job act old.flags on.0.flags x.variable level x.flag
              (stored_few job x.variable level is stored) on.2.flags cleared,
        )

    first : (ways : List Witness) → 1 ≤ length ways → (way : Witness) × IsAmong ways way
    first [] some = absurd (omega arith)
    first (way ∷ ways) some = (way, (0, refl))

    by : (level : ℕ) → IsStored job x.variable level
        → leaves (setup_of job) act F x.variable level x.flag ≡ false
        → Fate job (λ F. leaves (setup_of job) act F x.variable level x.flag) x.variable x.flag
        → IsClearedOn x news level
    by level stored cleared (sets e) = absurd (false_true (sym (e F) ∙ cleared))
    by level stored cleared (clears e) =
        let way = first olds some in
        on_new level way.0 stored way.1 (e (flags_in way.0.flags))
    by level stored cleared (copies from kept e) =
        let on = covered from kept (sym (e F) ∙ cleared) in
        on_new level on.0 stored on.1 (e (flags_in on.0.flags) ∙ on.2)

same_flag-true : (a b : Flag) → same_flag a b ≡ true → a ≡ b
same_flag-true I I h = refl
same_flag-true B B h = refl
same_flag-true G G h = refl
same_flag-true S S h = refl
same_flag-true I B h = absurd (cc)
same_flag-true I G h = absurd (cc)
same_flag-true I S h = absurd (cc)
same_flag-true B I h = absurd (cc)
same_flag-true B G h = absurd (cc)
same_flag-true B S h = absurd (cc)
same_flag-true G I h = absurd (cc)
same_flag-true G B h = absurd (cc)
same_flag-true G S h = absurd (cc)
same_flag-true S I h = absurd (cc)
same_flag-true S B h = absurd (cc)
same_flag-true S G h = absurd (cc)

-- no need of a list is unmet
met-all : (setup : Setup) (F : Flags) (ns : List Need) → first_unmet_of setup F ns ≡ None
    → All (λ n. is_met setup F n ≡ true) ns
met-all setup F [] none = All-nil (λ n. is_met setup F n ≡ true)
met-all setup F (n ∷ ns) none = by (is_met setup F n) refl none (met-all setup F ns)
  where
    by : (t : Bool) → is_met setup F n ≡ t
        → cond (not t) (Some n) (first_unmet_of setup F ns) ≡ None
        → (first_unmet_of setup F ns ≡ None → All (λ n. is_met setup F n ≡ true) ns)
        → All (λ n. is_met setup F n ≡ true) (n ∷ ns)
    by true at none rest = All-cons (λ n. is_met setup F n ≡ true) n ns at (rest none)
    by false at none rest = absurd (cc)

abbrev variable_of : ℕ → VarId
variable_of k = record { 0 = k }

-- where each way has met its needs, those of the followed flag are met from all flags that the ways
-- cover
taken-met : (job : Job) (x : Followed) (act : Act) (olds news : List Witness) (F : Flags)
    → IsWhole job → IsAct job act → AllTaken job act olds news → IsCovered job x olds F
    → All (λ n. is_followed x n ≡ true → is_met (setup_of job) F n ≡ true)
    (needs (setup_of job) act)
taken-met job x act olds news F is there all covered = λ k d below.
    let n = get_or (needs (setup_of job) act) k d in
    one k d below n refl (F n.var n.level n.flag) refl
  where
    split : (a b : Bool) → (a && b) ≡ true → (a ≡ true) × (b ≡ true)
    split true b h = (refl, h)
    split false b h = absurd (cc)

    met_later : (a b : Bool) → a ≡ false → (a || b) ≡ true → b ≡ true
    met_later true b e h = absurd (cc)
    met_later false b e h = h

    one : (k : ℕ) (d : Need) → k < length (needs (setup_of job) act) → (n : Need)
        → get_or (needs (setup_of job) act) k d ≡ n → (t : Bool) → F n.var n.level n.flag ≡ t
        → is_followed x n ≡ true → is_met (setup_of job) F n ≡ true
    one k d below n at true set followed =
        ap (λ t. t || (is_B n.flag && not (has_boundary job.shape))) set
    one k d below n at false cleared followed =
        let parts = split (eqb n.var.0 x.variable.0) (same_flag n.flag x.flag) followed in
        let var : n.var ≡ x.variable = ap variable_of (eqb-true n.var.0 x.variable.0 parts.0) in
        let flag : n.flag ≡ x.flag = same_flag-true n.flag x.flag parts.1 in
        let stored : IsStoredNeed job n =
        subst (IsStoredNeed job) at (needs_stored job act is there k d below) in
        let here : F x.variable n.level x.flag ≡ false =
        ap (λ v. F v n.level x.flag) (sym var) ∙ ap (λ f. F n.var n.level f) (sym flag)
        ∙ cleared in
        let on = covered n.level (subst (λ v. IsStored job v n.level) var stored) here in
        let taken = taken-on job act olds news on.0 all on.1 in
        let met_there : is_met (setup_of job) (flags_in on.0.flags) n ≡ true =
        subst (λ m. is_met (setup_of job) (flags_in on.0.flags) m ≡ true) at
        (met-all (setup_of job) (flags_in on.0.flags) (needs (setup_of job) act)
        taken.2.met k d below) in
        let cleared_there : flags_in on.0.flags n.var n.level n.flag ≡ false =
        ap (λ v. flags_in on.0.flags v n.level n.flag) var
        ∙ ap (λ f. flags_in on.0.flags x.variable n.level f) flag ∙ on.2 in
        let empty = is_B n.flag && not (has_boundary job.shape) in
        ap (λ t. t || empty) cleared
        ∙ met_later (flags_in on.0.flags n.var n.level n.flag) empty cleared_there met_there

-- ways that have all taken a step go on by it
pub goes-taken : (job : Job) (x : Followed) (act : Act) (old new : List Witness) → IsWhole job
    → IsAct job act → 1 ≤ length old → AllTaken job act old new
    → GoOn job x (Just (Meets act ∷ [])) old new
goes-taken job x act old new is there some all =
    record {
      each = λ new_way among.
          let from = taken-back job act old new new_way all among in
          (from.0, from.1, comes-takes job act from.0 (Ok new_way) is there from.2);
      met = λ F marks on covered.
          subst (AreMet (setup_of job) x F) (sym on)
          (taken-met job x act old new F is there all covered, tt);
      covered = λ F marks on covered.
          subst (λ ms. IsCovered job x new (flags_after (setup_of job) F ms)) (sym on)
          (taken-covered job x act old new F is some all covered);
    }

-- where one of the ways can't take a step, they stop
pub goes-stopped : (job : Job) (act : Act) (old : List Witness) (way : Witness) (stop : WitnessStop)
    → IsWhole job → IsAct job act → IsAmong old way → Takes job act way (Err stop)
    → Stop job (Just (Meets act ∷ [])) old stop
goes-stopped job act old way Memory is there among stops = tt
goes-stopped job act old way (Unset letters unmet) is there among stops =
    (way, among, comes-takes job act way (Err (Unset letters unmet)) is there stops)
