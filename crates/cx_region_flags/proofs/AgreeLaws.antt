-- Cells that agree with flags go on to agree after each step, and tell the same needs.
use Rattle.std.proofs.Common.{◌≡◌, ℕ, zero, suc, ◌*◌, false, not, ◌&&◌, ◌||◌, cond, ltb, refl, ap, ◌∙◌, List, [], ◌∷◌, map, length, get_or, replicate, Some, arith}
use Rattle.std.specs.Prelude.{flat_map, codes, ◌==◌}
use Rattle.std.specs.List.{All}
use Rattle.std.proofs.Math.ListN.{length-replicate}
use Rattle.std.proofs.lemmas.List.Elements.{All-nil, All-cons, All-head, All-tail, All-append, All-map, All-get_or}
use Rattle.cx_plan.specs.declared.variable.VarId.{VarId}
use Rattle.cx_plan.specs.declared.flag.Flag.{Flag}
use Rattle.cx_plan.specs.declared.flag.Flag.TheVariants.{I, B, S}
use Rattle.cx_plan.specs.declared.job.Job.{Job}
use Rattle.cx_plan.specs.Setups.{setup_of}
use Rattle.cx_plan.specs.Lookups.{item, no_item, is_scalar, levels_of}
use Rattle.cx_plan.specs.Regions.{Flags, Act, Turns, Syncs, Tests, Rotates, Outputs, Need, needs, leaves, is_B, is_G, is_among, has_boundary, cleared, needs_of_read, read_needs, flags_or_none, output_needs}
use Rattle.cx_plan.specs.Whole.{IsWhole, IsItem, IsStored}
use Rattle.cx_region_flags.specs.declared.flags.LevelFlags.{LevelFlags}
use Rattle.cx_region_flags.specs.Cells.{none_set, flags_in, Holds}
use Rattle.cx_region_flags.specs.Unmet.{first_unmet_of}
use Rattle.cx_region_flags.specs.Agreeing.{Agrees, IsAct}
use Rattle.cx_region_flags.proofs.TableLaws.{all_written-same}
use Rattle.cx_region_flags.proofs.StoredLaws.{stored_kept, cleared_at_first}

-- at first no flag is set
pub agrees-first : (job : Job) → Agrees job (replicate (8 * length job.vars) none_set) cleared
agrees-first job =
    record {
      size = length-replicate (8 * length job.vars) none_set;
      same = λ v level f stored. cleared_at_first (8 * length job.vars) v level f;
    }

-- what a step leaves at a stored level is told by the stored levels
leaves-same : (job : Job) (act : Act) (F H : Flags)
    → ((v : VarId) (level : ℕ) (f : Flag) → IsStored job v level → F v level f ≡ H v level f)
    → (v : VarId) (level : ℕ) (f : Flag) → IsStored job v level
    → leaves (setup_of job) act F v level f ≡ leaves (setup_of job) act H v level f
leaves-same job (Turns k) F H same v level f stored =
    all_written-same (setup_of job) (item (setup_of job) k).writes F H v level
    (λ f. same v level f stored) f
leaves-same job (Syncs vars path) F H same v level f stored =
    ap (λ t. (is_among v vars && level == 0 && is_G f) || t) (same v level f stored)
leaves-same job (Tests u path) F H same v level f stored = same v level f stored
leaves-same job Rotates F H same v zero f stored =
    ap (λ t. cond (ltb 1 (levels_of (setup_of job) v)) false t) (same v 0 f stored)
leaves-same job Rotates F H same v (suc level) f stored =
    let newer : IsStored job v level = (stored.0, omega arith) in
    ap (λ t. cond (ltb 1 (levels_of (setup_of job) v)) t (F v (suc level) f)) (same v level f newer)
    ∙ ap (λ t. cond (ltb 1 (levels_of (setup_of job) v)) (H v level f) t)
    (same v (suc level) f stored)
leaves-same job Outputs F H same v level f stored = same v level f stored

pub agrees-leaves : (job : Job) (act : Act) (old new : List LevelFlags) (F : Flags) → IsWhole job
    → Agrees job old F → Holds old new (leaves (setup_of job) act (flags_in old))
    → Agrees job new (leaves (setup_of job) act F)
agrees-leaves job act old new F is agrees holds =
    record {
      size = holds.same_length ∙ agrees.size;
      same = λ v level f stored.
          holds.same_flags v level f (stored_kept job old v level is agrees.size stored)
          ∙ leaves-same job act (flags_in old) F agrees.same v level f stored;
    }

-- ---- needs

abbrev pub IsStoredNeed : Job → Need → Type 0
IsStoredNeed job n = IsStored job n.var n.level

pub unmet-same : (job : Job) (cells : List LevelFlags) (F : Flags) (ns : List Need)
    → Agrees job cells F → All (IsStoredNeed job) ns
    → first_unmet_of (setup_of job) (flags_in cells) ns ≡ first_unmet_of (setup_of job) F ns
unmet-same job cells F [] agrees stored = refl
unmet-same job cells F (n ∷ ns) agrees stored =
    let here = agrees.same n.var n.level n.flag (All-head (IsStoredNeed job) n ns stored) in
    let rest = unmet-same job cells F ns agrees (All-tail (IsStoredNeed job) n ns stored) in
    ap (λ t. cond (not (t || (is_B n.flag && not (has_boundary job.shape)))) (Some n)
    (first_unmet_of (setup_of job) (flags_in cells) ns)) here
    ∙ ap (λ o. cond (not (F n.var n.level n.flag || (is_B n.flag && not (has_boundary job.shape))))
    (Some n) o) rest

all_of_each : {X : Type 0} (job : Job) (f : X → List Need) (xs : List X)
    → All (λ x. All (IsStoredNeed job) (f x)) xs → All (IsStoredNeed job) (flat_map f xs)
all_of_each job f [] h = All-nil (IsStoredNeed job)
all_of_each job f (x ∷ xs) h =
    All-append (IsStoredNeed job) (f x) (flat_map f xs)
    (All-head (λ x. All (IsStoredNeed job) (f x)) x xs h)
    (all_of_each job f xs (All-tail (λ x. All (IsStoredNeed job) (f x)) x xs h))

of_level : (job : Job) (place : List ℕ) (v : VarId) (level : ℕ) (fs : List Flag)
    → IsStored job v level → All (IsStoredNeed job)
    (map (λ f. record { place = place; var = v; level = level; flag = f }) fs)
of_level job place v level fs stored =
    All-map (IsStoredNeed job)
    (λ (f : Flag). record { place = place; var = v; level = level; flag = f }) fs
    (λ k d below. stored)

pub needs_stored : (job : Job) (act : Act) → IsWhole job → IsAct job act
    → All (IsStoredNeed job) (needs (setup_of job) act)
needs_stored job (Turns k) is there =
    let setup = setup_of job in
    let x = item setup k in
    let its = All-get_or (IsItem job) job.items k no_item there is.items in
    all_of_each job (needs_of_read setup x) x.reads
    (λ i d below. of_level job x.path (get_or x.reads i d).var (get_or x.reads i d).level
    (flags_or_none (read_needs setup x (get_or x.reads i d))) (its.reads i d below))
needs_stored job (Syncs vars path) is stored =
    All-map (IsStoredNeed job)
    (λ (v : VarId). record { place = path; var = v; level = 0; flag = I }) vars
    (λ k d below. (stored k d below).0)
needs_stored job (Tests v path) is stored =
    All-cons (IsStoredNeed job) (record { place = path; var = v; level = 0; flag = S }) [] stored.0
    (All-nil (IsStoredNeed job))
needs_stored job Rotates is u = All-nil (IsStoredNeed job)
needs_stored job Outputs is u =
    let setup = setup_of job in
    all_of_each job (output_needs setup) job.out_vars
    (λ i d below. of_level job (codes "output") (get_or job.out_vars i d) 0
    (cond (is_scalar setup (get_or job.out_vars i d)) (S ∷ []) (I ∷ B ∷ []))
    (is.outputs i d below))
