-- Flags only help: what is met by few flags is met by more, and each step keeps that there are
-- more.
use Rattle.std.proofs.Common.{◌≡◌, ℕ, zero, suc, Bool, true, false, not, ◌&&◌, ◌||◌, cond, eqb, ltb, refl, sym, ap, ◌∙◌, List, [], ◌∷◌, ◌++◌, Option, Some, None, arith}
use Rattle.std.specs.Prelude.{◌==◌}
use Rattle.std.specs.List.{All}
use Rattle.std.proofs.lemmas.List.Elements.{All-head, All-tail}
use Rattle.cx_plan.specs.declared.variable.VarId.{VarId}
use Rattle.cx_plan.specs.declared.flag.Flag.{Flag}
use Rattle.cx_plan.specs.declared.flag.Flag.TheVariants.{I, B, G, S}
use Rattle.cx_plan.specs.declared.item.Region.{Region}
use Rattle.cx_plan.specs.declared.item.Region.TheVariants.{Interior, Boundary, Everywhere}
use Rattle.cx_plan.specs.declared.item.Touch.{Touch}
use Rattle.cx_plan.specs.declared.job.Job.{Job}
use Rattle.cx_plan.specs.Setups.{Setup, setup_of}
use Rattle.cx_plan.specs.Lookups.{item, is_scalar, levels_of}
use Rattle.cx_plan.specs.Regions.{Flags, Act, Turns, Syncs, Tests, Rotates, Outputs, Need, needs, leaves, is_met, is_B, is_G, is_among, has_boundary, after_scalar, after_write, written, all_written, same_variable}
use Rattle.cx_plan.specs.Paths.{Mark, Letter, Meets, or_go_on, first_unmet}
use Rattle.cx_plan.specs.Whole.{IsWhole, IsStored}
use Rattle.cx_region_flags.specs.declared.flags.LevelFlags.{LevelFlags}
use Rattle.cx_region_flags.specs.Cells.{flags_in, Holds}
use Rattle.cx_region_flags.specs.Unmet.{first_unmet_of}
use Rattle.cx_region_flags.specs.Agreeing.{IsAct}
use Rattle.cx_region_flags.specs.AllPaths.{flags_after, IsSure}
use Rattle.cx_region_flags.proofs.StoredLaws.{stored_kept}
use Rattle.cx_region_flags.proofs.AgreeLaws.{IsStoredNeed, needs_stored}

-- ---- steps

false_true : false ≡ true → ⊥
false_true e = absurd (cc)

-- what grows with a flag grows
grows : (g : Bool → Bool) (a b : Bool) → (g false ≡ true → g true ≡ true) → (a ≡ true → b ≡ true)
    → g a ≡ true → g b ≡ true
grows g true true up more h = h
grows g false false up more h = h
grows g false true up more h = up h
grows g true false up more h = absurd (false_true (more refl))

scalar-up : (f : Flag) → after_scalar f false ≡ true → after_scalar f true ≡ true
scalar-up S h = refl
scalar-up I h = refl
scalar-up B h = refl
scalar-up G h = refl

write-up : (r : Region) (f : Flag) → after_write r f false ≡ true → after_write r f true ≡ true
write-up Interior I h = refl
write-up Interior B h = h
write-up Interior G h = h
write-up Interior S h = refl
write-up Everywhere I h = refl
write-up Everywhere B h = refl
write-up Everywhere G h = refl
write-up Everywhere S h = refl
write-up Boundary I h = refl
write-up Boundary B h = refl
write-up Boundary G h = refl
write-up Boundary S h = refl

written-up : (r : Region) (f : Flag) (here scalar : Bool)
    → cond here (cond scalar (after_scalar f false) (after_write r f false)) false ≡ true
    → cond here (cond scalar (after_scalar f true) (after_write r f true)) true ≡ true
written-up r f true true h = scalar-up f h
written-up r f true false h = write-up r f h
written-up r f false scalar h = refl

written-more : (setup : Setup) (w : Touch) (F H : Flags) (v : VarId) (level : ℕ) (f : Flag)
    → (F v level f ≡ true → H v level f ≡ true) → written setup F w v level f ≡ true
    → written setup H w v level f ≡ true
written-more setup w F H v level f more h =
    grows (λ t. cond (same_variable v w.var && eqb level w.level)
    (cond (is_scalar setup v) (after_scalar f t) (after_write w.region f t)) t) (F v level f)
    (H v level f)
    (written-up w.region f (same_variable v w.var && eqb level w.level) (is_scalar setup v)) more h

all_written-more : (setup : Setup) (ws : List Touch) (F H : Flags) (v : VarId) (level : ℕ)
    → ((f : Flag) → F v level f ≡ true → H v level f ≡ true) → (f : Flag)
    → all_written setup ws F v level f ≡ true → all_written setup ws H v level f ≡ true
all_written-more setup [] F H v level more f h = more f h
all_written-more setup (w ∷ ws) F H v level more f h =
    all_written-more setup ws (written setup F w) (written setup H w) v level
    (λ f. written-more setup w F H v level f (more f)) f h

or-up : (c : Bool) → (c || false) ≡ true → (c || true) ≡ true
or-up true h = refl
or-up false h = refl

cond-more : (t a b c d : Bool) → (a ≡ true → c ≡ true) → (b ≡ true → d ≡ true) → cond t a b ≡ true
    → cond t c d ≡ true
cond-more true a b c d one two h = one h
cond-more false a b c d one two h = two h

-- each step keeps that more is set
leaves-more : (job : Job) (act : Act) (F H : Flags)
    → ((v : VarId) (level : ℕ) (f : Flag) → IsStored job v level → F v level f ≡ true
    → H v level f ≡ true) → (v : VarId) (level : ℕ) (f : Flag) → IsStored job v level
    → leaves (setup_of job) act F v level f ≡ true → leaves (setup_of job) act H v level f ≡ true
leaves-more job (Turns k) F H more v level f stored h =
    all_written-more (setup_of job) (item (setup_of job) k).writes F H v level
    (λ f. more v level f stored) f h
leaves-more job (Syncs vars path) F H more v level f stored h =
    grows (λ t. (is_among v vars && level == 0 && is_G f) || t) (F v level f) (H v level f)
    (or-up (is_among v vars && level == 0 && is_G f)) (more v level f stored) h
leaves-more job (Tests u path) F H more v level f stored h = more v level f stored h
leaves-more job Rotates F H more v zero f stored h =
    cond-more (ltb 1 (levels_of (setup_of job) v)) false (F v 0 f) false (H v 0 f) (λ e. e)
    (more v 0 f stored) h
leaves-more job Rotates F H more v (suc level) f stored h =
    let newer : IsStored job v level = (stored.0, omega arith) in
    cond-more (ltb 1 (levels_of (setup_of job) v)) (F v level f) (F v (suc level) f) (H v level f)
    (H v (suc level) f) (more v level f newer) (more v (suc level) f stored) h
leaves-more job Outputs F H more v level f stored h = more v level f stored h

pub sure-leaves : (job : Job) (act : Act) (old new : List LevelFlags) (F : Flags) → IsWhole job
    → IsSure job old F → Holds old new (leaves (setup_of job) act (flags_in old))
    → IsSure job new (leaves (setup_of job) act F)
sure-leaves job act old new F is sure holds =
    record {
      size = holds.same_length ∙ sure.size;
      set = λ v level f stored h.
          leaves-more job act (flags_in old) F sure.set v level f stored
          (sym (holds.same_flags v level f (stored_kept job old v level is sure.size stored)) ∙ h);
    }

-- ---- needs

needs-more : (setup : Setup) (F H : Flags) (n : Need) (rest : Option Need)
    → (F n.var n.level n.flag ≡ true → H n.var n.level n.flag ≡ true)
    → cond (not (is_met setup F n)) (Some n) rest ≡ None → not (is_met setup H n) ≡ false
needs-more setup F H n rest more h =
    by (F n.var n.level n.flag) (H n.var n.level n.flag)
    (is_B n.flag && not (has_boundary setup.shape)) more h
  where
    by : (a b c : Bool) → (a ≡ true → b ≡ true) → cond (not (a || c)) (Some n) rest ≡ None
        → not (b || c) ≡ false
    by a true c more h = refl
    by a false true c_more h = refl
    by true false false more h = absurd (false_true (more refl))
    by false false false more h = absurd (cc)

rest_of : (t : Bool) (n : Need) (rest : Option Need) → cond t (Some n) rest ≡ None → rest ≡ None
rest_of true n rest h = absurd (cc)
rest_of false n rest h = h

unmet-more : (job : Job) (F H : Flags) (ns : List Need)
    → ((v : VarId) (level : ℕ) (f : Flag) → IsStored job v level → F v level f ≡ true
    → H v level f ≡ true) → All (IsStoredNeed job) ns → first_unmet_of (setup_of job) F ns ≡ None
    → first_unmet_of (setup_of job) H ns ≡ None
unmet-more job F H [] more stored h = refl
unmet-more job F H (n ∷ ns) more stored h =
    let setup = setup_of job in
    let here = needs-more setup F H n (first_unmet_of setup F ns)
    (more n.var n.level n.flag (All-head (IsStoredNeed job) n ns stored)) h in
    let rest = unmet-more job F H ns more (All-tail (IsStoredNeed job) n ns stored)
    (rest_of (not (is_met setup F n)) n (first_unmet_of setup F ns) h) in
    ap (λ t. cond t (Some n) (first_unmet_of setup H ns)) here ∙ rest

pub sure-met : (job : Job) (act : Act) (cells : List LevelFlags) (F : Flags) → IsWhole job
    → IsAct job act → IsSure job cells F
    → first_unmet_of (setup_of job) (flags_in cells) (needs (setup_of job) act) ≡ None
    → first_unmet_of (setup_of job) F (needs (setup_of job) act) ≡ None
sure-met job act cells F is there sure none =
    unmet-more job (flags_in cells) F (needs (setup_of job) act) sure.set
    (needs_stored job act is there) none

-- ---- marks, one list after another

pub flags_after-append : (setup : Setup) (F : Flags) (a b : List Mark)
    → flags_after setup F (a ++ b) ≡ flags_after setup (flags_after setup F a) b
flags_after-append setup F [] b = refl
flags_after-append setup F (Letter c ∷ a) b = flags_after-append setup F a b
flags_after-append setup F (Meets act ∷ a) b = flags_after-append setup (leaves setup act F) a b

parts-none : (letters : List ℕ) (o : Option Need) (rest : Option (List ℕ × Need))
    → or_go_on letters o rest ≡ None → (o ≡ None) × (rest ≡ None)
parts-none letters None rest h = (refl, h)
parts-none letters (Some n) rest h = absurd (cc)

pub first_unmet-append : (setup : Setup) (letters : List ℕ) (F : Flags) (a b : List Mark)
    → first_unmet setup letters F a ≡ None
    → ((letters : List ℕ) → first_unmet setup letters (flags_after setup F a) b ≡ None)
    → first_unmet setup letters F (a ++ b) ≡ None
first_unmet-append setup letters F [] b one two = two letters
first_unmet-append setup letters F (Letter c ∷ a) b one two =
    first_unmet-append setup (letters ++ c ∷ []) F a b one two
first_unmet-append setup letters F (Meets act ∷ a) b one two =
    let parts = parts-none letters (first_unmet_of setup F (needs setup act))
    (first_unmet setup letters (leaves setup act F) a) one in
    ap (λ o. or_go_on letters o (first_unmet setup letters (leaves setup act F) (a ++ b))) parts.0
    ∙ first_unmet-append setup letters (leaves setup act F) a b parts.1 two
