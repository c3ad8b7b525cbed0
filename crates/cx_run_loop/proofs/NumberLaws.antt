-- A checkpoint of a job, whose numbers are those of their types, can be spelled.
use Rattle.std.proofs.Common.{◌≡◌, ℕ, zero, suc, ◌*◌, ◌^◌, ◌≤◌, ◌<◌, Bool, true, false, List, [], ◌∷◌, ◌++◌, length, get_or, inr, arith, lit<, ap, ◌∙◌, refl, subst, sym}
use Rattle.std.proofs.lemmas.List.{length-map}
use Rattle.std.proofs.lemmas.List.Elements.{All-head, All-tail}
use Rattle.std.specs.Int.{w64}
use Rattle.std.specs.Int.RustNames.{FitsSigned}
use Rattle.std.specs.List.{AllByRecursion}
use Rattle.std.specs.Prelude.{ℤ, All, AllPairs, codes, if◌then◌else◌}
use Rattle.cx_grid.specs.Boxes.{point_count}
use Rattle.cx_grid.specs.Grid.{whole as box}
use Rattle.cx_plan.specs.Lookups.{variable}
use Rattle.cx_plan.specs.Setups.{Setup, setup_of}
use Rattle.cx_plan.specs.Whole.{IsStored, IsWhole, scalar_count, level_count}
use Rattle.cx_plan.specs.declared.job.Job.{Job}
use Rattle.cx_plan.specs.declared.variable.VarId.{VarId}
use Rattle.cx_plan.specs.declared.variable.VarInfo.{VarInfo}
use Rattle.cx_outputs.specs.Names.{HasShortNames, output_count, output_names}
use Rattle.cx_chk.specs.Encoding.{IsCheckpoint, IsLevel, IsShort, IsWord}
use Rattle.cx_core_buffers.specs.Checkpoints.{total}
use Rattle.cx_core_buffers.specs.Gathering.{Buffers, HasRoom}
use Rattle.cx_run_loop.specs.Numbers.{AreNumbers}
use Rattle.cx_run_loop.proofs.Elements.{all_by}

below : (a most limit : ℕ) → a ≤ most → most < limit → a < limit
below a most limit first second = omega arith

-- a variable has eight levels at most
scalars_few : (b : Bool) (n : ℕ) → n ≤ 8 → (if b then n else 0) ≤ 8
scalars_few true n h = h
scalars_few false n h = omega arith

levels_few : (b : Bool) (n : ℕ) → n ≤ 8 → (if b then 0 else n) ≤ 8
levels_few true n h = omega arith
levels_few false n h = h

total_few : (count : VarInfo → ℕ) → ((v : VarInfo) → v.levels ≤ 8 → count v ≤ 8)
    → (vs : List VarInfo) → All (λ (v : VarInfo). v.levels ≤ 8) vs → total count vs ≤ 8 * length vs
total_few count each [] h = omega arith
total_few count each (v ∷ vs) h =
    let a : count v ≤ 8 = each v (All-head (λ (v : VarInfo). v.levels ≤ 8) v vs h) in
    let b : total count vs ≤ 8 * length vs =
    total_few count each vs (All-tail (λ (v : VarInfo). v.levels ≤ 8) v vs h) in
    omega arith

are_levels : (n : ℕ) → n ≤ 2 ^ 24 → (levels : List (List ℤ))
    → All (λ (level : List ℤ). length level ≡ n) levels → All (All (FitsSigned w64)) levels
    → AllByRecursion IsLevel levels
are_levels n few [] same fit = tt
are_levels n few (level ∷ more) same fit =
    let one : length level ≡ n = All-head (λ (l : List ℤ). length l ≡ n) level more same in (
      (
        below (length level) (2 ^ 24) (2 ^ 64) (subst (λ (k : ℕ). k ≤ 2 ^ 24) (sym one) few)
            (lit< tt),
        all_by (FitsSigned w64) level (All-head (All (FitsSigned w64)) level more fit),
      ),
      are_levels n few more (All-tail (λ (l : List ℤ). length l ≡ n) level more same)
          (All-tail (All (FitsSigned w64)) level more fit),
    )

few_vars : (a b : ℕ) → a ≤ 8 * b → b ≤ 256 → a ≤ 2048
few_vars a b first second = omega arith

-- the name of each output can be spelled, and there are so many of them
names_count : (setup : Setup) → length (output_names setup) ≡ output_count setup
names_count setup =
    length-map setup.out_vars (λ (v : VarId). (variable setup v).full ++ codes ".asc")

-- numbers that rise are at least as large as their places
at_least : (vs : List VarId) → AllPairs (λ (a b : VarId). a.0 < b.0) vs → (d : VarId) (k : ℕ)
    → k < length vs → k ≤ (get_or vs k d).0
at_least vs rise d zero l = omega arith
at_least vs rise d (suc k) l =
    omega (arith, at_least vs rise d k (omega arith), rise k (suc k) d (omega arith) l)

few_outputs : (job : Job) → IsWhole job → (vs : List VarId) → vs ≡ job.out_vars → length vs ≤ 256
few_outputs job whole [] e = omega arith
few_outputs job whole (v ∷ vs) e =
    let rise = subst (AllPairs (λ (a b : VarId). a.0 < b.0)) (sym e) whole.outputs_rise in
    let stored = subst (All (λ u. IsStored job u 0)) (sym e) whole.outputs in
    omega (
      arith,
      at_least (v ∷ vs) rise v (length vs) (omega arith),
      (stored (length vs) v (omega arith)).0,
      whole.variables_limit,
    )

pub is_checkpoint : (job : Job) → IsWhole job → HasShortNames (setup_of job) → (b : Buffers)
    → HasRoom (setup_of job) b → b.state.key ≡ job.key → AreNumbers b.state
    → IsCheckpoint b.state
is_checkpoint job whole short b room key fit = record {
  version = inr (
    room.version,
    ap (λ (names : List (List ℕ)). length names) room.names ∙ names_count (setup_of job)
        ∙ sym room.lengths,
    subst (λ (names : List (List ℕ)). AllByRecursion IsShort names) (sym room.names) short,
  );
  iteration = fit.iteration;
  key = subst (λ (k : List ℕ). length k < 2 ^ 32) (sym key) whole.key_limit;
  lengths = (
    subst (λ (k : ℕ). k < 2 ^ 32) (sym room.lengths)
        (below (output_count (setup_of job)) 256 (2 ^ 32) (few_outputs job whole job.out_vars refl)
        (lit< tt)),
    all_by IsWord b.state.lengths fit.lengths,
  );
  scalars = (
    subst (λ (k : ℕ). k < 2 ^ 32) (sym room.state.scalars)
        (below (total scalar_count job.vars) 2048 (2 ^ 32)
        (few_vars (total scalar_count job.vars) (length job.vars)
        (total_few scalar_count (λ v h. scalars_few v.scalar v.levels h)
        job.vars whole.levels_limit) whole.variables_limit) (lit< tt)),
    all_by (FitsSigned w64) b.state.scalars fit.scalars,
  );
  levels = (
    subst (λ (k : ℕ). k < 2 ^ 32) (sym room.state.levels)
        (below (total level_count job.vars) 2048 (2 ^ 32)
        (few_vars (total level_count job.vars) (length job.vars)
        (total_few level_count (λ v h. levels_few v.scalar v.levels h) job.vars whole.levels_limit)
        whole.variables_limit) (lit< tt)),
    are_levels (point_count (box job.shape)) whole.shape.few b.state.levels room.state.points
        fit.levels,
  );
}
