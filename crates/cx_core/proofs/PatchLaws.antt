-- The patches of the parts as a run begins.
use Rattle.std.proofs.Common.{◌≡◌, ℕ, zero, suc, ◌+◌, List, [], ◌∷◌, ◌++◌, length, slice_get, Option, Some, None, arith, sym, ap, ◌∙◌, subst}
use Rattle.cx_plan.specs.declared.job.Job.{Job}
use Rattle.cx_plan.specs.Setups.{setup_of}
use Rattle.cx_chk.specs.declared.checkpoint.Checkpoint.{Checkpoint}
use Rattle.cx_rule.specs.Routine.{Rule}
use Rattle.cx_rule.specs.States.{State}
use Rattle.cx_model.specs.Turns.{values_of}
use Rattle.cx_cut.specs.Cuts.{Parts, local}
use Rattle.cx_cut.specs.Faults.{parts_of}
use Rattle.cx_field.specs.Patches.{PatchValue, with_numbers}
use Rattle.cx_core_buffers.specs.Checkpoints.{state_of}
use Rattle.cx_core_buffers.specs.Gathering.{scattered}
use Rattle.cx_core_part.specs.Frames.{IsPatchOf}
use Rattle.law_parts.specs.Beginnings.{Afresh, run_of}
use Rattle.law_parts.specs.Holding.{state_in}
use Rattle.law_parts.specs.Nets.{held_first}
use Rattle.cx_core.specs.Starts.{HasFirst, ArePatches, filled_first}

none_some : {X : Type 0} (y : X) → None ≡ Some y → ⊥
none_some y e = cc

some_is : {X : Type 0} (x y : X) → Some x ≡ Some y → x ≡ y
some_is x y e = cc

-- ---- one more

pub no_patches : (job : Job) (cut : Parts) (state : Option Checkpoint) → ArePatches job cut state []
no_patches job cut state k p e = absurd (none_some p e)

last_at : (P : ℕ → PatchValue → Type 0) (ps : List PatchValue) (n : ℕ) (q : PatchValue)
    → ((k : ℕ) (p : PatchValue) → slice_get ps k ≡ Some p → P (n + k) p)
    → P (n + length ps) q → (k : ℕ) (p : PatchValue) → slice_get (ps ++ q ∷ []) k ≡ Some p
    → P (n + k) p
last_at P [] n q all h zero p e = subst (P (n + 0)) (some_is q p e) h
last_at P [] n q all h (suc k) p e = absurd (none_some p e)
last_at P (x ∷ ps) n q all h zero p e = all zero p e
last_at P (x ∷ ps) n q all h (suc k) p e =
    let next : suc n + k ≡ n + suc k = omega arith in
    let many : n + suc (length ps) ≡ suc n + length ps = omega arith in
    subst (λ i. P i p) next
    (last_at P ps (suc n) q
    (λ j y f. let g : n + suc j ≡ suc n + j = omega arith in
    subst (λ i. P i y) g (all (suc j) y f)) (subst (λ i. P i q) many h) k p e)

pub patch_more : (job : Job) (cut : Parts) (state : Option Checkpoint) (ps : List PatchValue)
    (k : ℕ) (q : PatchValue) → length ps ≡ k
    → ArePatches job cut state ps → HasFirst job cut state k q
    → ArePatches job cut state (ps ++ q ∷ [])
patch_more job cut state ps k q e all h i p f =
    let start : (j : ℕ) → 0 + j ≡ j = λ j. omega arith in
    let many : k ≡ 0 + length ps = omega (arith, e) in
    subst (λ j. HasFirst job cut state j p) (start i)
    (last_at (λ j y. HasFirst job cut state j y) ps 0 q
    (λ j y g. subst (λ m. HasFirst job cut state m y) (sym (start j)) (all j y g))
    (subst (λ j. HasFirst job cut state j q) many h) i p f)

-- ---- one patch

module _ (job : Job) (cut : Parts) (is_cut : cut ≡ parts_of job.shape job.cut) (k : ℕ)
    (p : PatchValue) (frame : IsPatchOf (setup_of job) cut k p)
    (numbers : (rules : List Rule) → p.numbers ≡ (held_first (run_of job rules Afresh) k).numbers)
  where
    frame_kept : (state : State) → IsPatchOf (setup_of job) cut k (with_numbers p state)
    frame_kept state = record {
      patch = record {
        shape = frame.patch.shape;
        vars = frame.patch.vars;
        rooms = λ i d l. let h = frame.patch.rooms i d l in
            record { writes = h.writes; values = h.values };
      };
      owned_is = frame.owned_is;
      local_is = frame.local_is;
    }

    pub first_is : (state : Option Checkpoint)
        → HasFirst job cut state k (filled_first (setup_of job) state p)
    first_is None = record { frame = frame; numbers = numbers }
    first_is (Some c) = record {
      frame = frame_kept (scattered (setup_of job) c p);
      numbers = λ rules.
          ap (λ b. state_in (setup_of job) (values_of (setup_of job) (state_of job.vars c)) b 0
          (state_of job.vars c))
          (frame.local_is ∙ ap (λ (c : Parts). local c k) is_cut);
    }
