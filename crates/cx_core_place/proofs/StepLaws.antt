-- What a step of a place has room for.
use Rattle.std.proofs.Common.{◌≡◌, ℕ, zero, suc, ◌+◌, ◌^◌, ◌≤◌, ◌<◌, Bool, true, false, ℤ, pos, negsuc, List, [], ◌∷◌, ◌++◌, length, refl, ap, ◌∙◌, subst, arith, length-append, cond}
use Rattle.std.specs.Prelude.{All, ◌≢◌, ◌==◌}
use Rattle.cx_plan.specs.declared.variable.VarId.{VarId}
use Rattle.cx_plan.specs.declared.job.Job.{Job}
use Rattle.cx_plan.specs.Setups.{setup_of}
use Rattle.cx_plan.specs.Dues.{is_due, is_written}
use Rattle.cx_plan.specs.Whole.{IsWhole}
use Rattle.cx_flat.specs.declared.op.Op.{Op}
use Rattle.cx_flat.specs.declared.op.Op.TheVariants as op
use Rattle.cx_model.specs.Courses.{by_zero}
use Rattle.cx_flat.specs.Code.{op_at, code, analysis_place}
use Rattle.cx_flat.specs.Flats.{Opened, Control, last_turns, to, next, leaves_loop, control_after}
use Rattle.cx_flat.specs.Ways.{at_place}
use Rattle.cx_core_place.specs.Steps.{Fits, IsReached, continues, follows}
use Rattle.cx_core_place.proofs.RunLaws.{places_fit}

-- ---- numbers and 0

pub zero_first : (n : ℤ) (a b : Control) → n ≡ pos 0 → by_zero n a b ≡ a
zero_first n a b e = ap (λ m. by_zero m a b) e

pub other_second : (n : ℤ) (a b : Control) → n ≢ pos 0 → by_zero n a b ≡ b
other_second (pos zero) a b h = absurd (h refl)
other_second (pos (suc n)) a b h = refl
other_second (negsuc n) a b h = refl

-- ---- room

abbrev none : VarId → ℤ
none v = pos 0

-- a place that is reached, and the operation that stands there
pub record Stands (job : Job) (c : Control) (o : Op) : Type 0 where
  pub whole : IsWhole job
  pub reached : IsReached (setup_of job) c
  pub here : o ≡ op_at (code (setup_of job)) c.pc

module _ (job : Job) (c : Control) (o : Op) (s : Stands job c o) where
  fits : Fits (setup_of job) (code (setup_of job)) c
  fits = (places_fit job s.whole).fit c s.reached

  -- there are far fewer than 2^32 operations
  few : (n : ℕ) → n < length (code (setup_of job)) → n + 1 < 2 ^ 32
  few n l = omega (arith, l, (places_fit job s.whole).few)

  pub room-next : c.pc + 1 < 2 ^ 32
  room-next = few c.pc fits.pc

  after : (scalars : VarId → ℤ)
      → Fits (setup_of job) (code (setup_of job)) (control_after (setup_of job) o scalars c)
  after scalars =
      (places_fit job s.whole).fit (control_after (setup_of job) o scalars c)
      (follows c scalars s.reached (ap (λ z. control_after (setup_of job) z scalars c) s.here))

  -- where an operation leads if the scalar is 0
  jumps : (z : Op) → o ≡ z → (goal : Control) → control_after (setup_of job) z none c ≡ goal
      → goal.pc < 2 ^ 32
  jumps z is goal e =
      let f : Fits (setup_of job) (code (setup_of job)) goal =
      subst (Fits (setup_of job) (code (setup_of job)))
      (ap (λ x. control_after (setup_of job) x none c) is ∙ e) (after none) in
      omega (arith, few goal.pc f.pc)

  pub room-test : (v : VarId) (path : List ℕ) (skip : ℕ) → o ≡ op.Test v path skip
      → c.pc + skip < 2 ^ 32
  room-test v path skip is = jumps (op.Test v path skip) is (to c (c.pc + skip)) refl

  pub room-turn : (v : VarId) (path : List ℕ) (skip : ℕ) → o ≡ op.Turn v path skip
      → c.pc + skip < 2 ^ 32
  room-turn v path skip is =
      jumps (op.Turn v path skip) is (leaves_loop c (c.pc + skip))
      (same (last_turns c.opened == (setup_of job).while_limit) (leaves_loop c (c.pc + skip)))
    where
      same : (b : Bool) (d : Control) → cond b d d ≡ d
      same true d = refl
      same false d = refl

  pub room-due : (skip : ℕ) → o ≡ op.Due skip → is_due (setup_of job) c.iteration ≡ false
      → c.pc + skip < 2 ^ 32
  room-due skip is e = jumps (op.Due skip) is (to c (c.pc + skip))
      (ap (λ b. cond b (next c) (to c (c.pc + skip))) e)

  pub room-written : (skip : ℕ) → o ≡ op.Written skip
      → is_written (setup_of job) c.iteration ≡ false → c.pc + skip < 2 ^ 32
  room-written skip is e =
      jumps (op.Written skip) is (to c (c.pc + skip))
      (ap (λ b. cond b (next c) (to c (c.pc + skip))) e)

  pub room-skip : (skip : ℕ) → o ≡ op.Skip skip → c.pc + skip < 2 ^ 32
  room-skip skip is = jumps (op.Skip skip) is (to c (c.pc + skip)) refl

  pub room-open : o ≡ op.Open → length c.opened < 32
  room-open is =
      let o : Opened = record { place = suc c.pc; turns = 0 } in
      let f =
      subst (λ x. Fits (setup_of job) (code (setup_of job))
      (control_after (setup_of job) x none c)) is (after none) in
      let d : length (c.opened ++ o ∷ []) ≤ 32 = f.depth in
      omega (arith, d, length-append c.opened (o ∷ []))

  last_most : (most : ℕ) (os : List Opened) → All (λ (o : Opened). o.turns ≤ most) os
      → last_turns os ≤ most
  last_most most [] h = omega arith
  last_most most (o ∷ []) h = h 0 o (omega arith)
  last_most most (o ∷ p ∷ os) h = last_most most (p ∷ os) (λ k d l. h (suc k) d (omega arith))

  pub room-depth : length c.opened ≤ 32
  room-depth = fits.depth

  pub room-turns : last_turns c.opened + 1 < 2 ^ 64
  room-turns =
      let l : last_turns c.opened ≤ job.while_limit =
      last_most job.while_limit c.opened fits.turns in
      omega (arith, l, s.whole.while_limit)

-- ---- ANALYSIS

pub analysis_small : (job : Job) → IsWhole job → analysis_place (setup_of job) < 2 ^ 31
analysis_small job whole =
    let law = places_fit job whole in
    let f : Fits (setup_of job) (code (setup_of job)) (at_place (analysis_place (setup_of job)) 0) =
    law.fit (at_place (analysis_place (setup_of job)) 0) (continues 0 (omega arith) refl) in
    omega (arith, f.pc, law.few)
