-- Where wires tell, the way by what the parts give is the undivided run.
use Rattle.std.proofs.Common.{◌≡◌, ℕ, zero, suc, ◌<◌, refl, ap, ◌∙◌}
use Rattle.cx_plan.specs.Lookups.{item}
use Rattle.cx_model.specs.States.{State}
use Rattle.cx_flat.specs.declared.op.Op.{Op}
use Rattle.cx_flat.specs.declared.op.Op.TheVariants.{Sweep, Apply, Give, Join, Post, Take, Test, Open, Turn, Again, Rotate, Due, Written, Skip, Next, Piece, Save, Halt}
use Rattle.cx_model.specs.Courses.{state_or}
use Rattle.law_parts.specs.Holding.{joined, join_turn}
use Rattle.law_parts.specs.Runs.{Run, Oracle, next_op, given_before, joined_at, guided_state, guided_step, guided, parts_in}
use Rattle.law_parts.proofs.ListLaws.{range_same}

module _ (r : Run) (one another : Oracle)
    (same : (k n : ℕ) → k < parts_in r → one k n ≡ another k n) where
  given_same : (n k : ℕ) → k < parts_in r → given_before one n k ≡ given_before another n k
  given_same zero k l = refl
  given_same (suc n) k l = same k n l

  pub joined_same : (k n : ℕ) → joined_at r one k n ≡ joined_at r another k n
  joined_same k n = ap (joined (item r.setup k).kind)
      (range_same (parts_in r) (given_before one n) (given_before another n) (given_same n))

  state_same : (n : ℕ) (o : Op) (iteration : ℕ) (state : State)
      → guided_state r one n o iteration state ≡ guided_state r another n o iteration state
  state_same n (Sweep k) iteration state = refl
  state_same n (Apply k) iteration state = refl
  state_same n (Give k) iteration state = refl
  state_same n (Join k) iteration state =
      ap (λ z. state_or (join_turn r.setup (item r.setup k) state z) state) (joined_same k n)
  state_same n (Post d vars) iteration state = refl
  state_same n (Take d vars path) iteration state = refl
  state_same n (Test v path skip) iteration state = refl
  state_same n Open iteration state = refl
  state_same n (Turn v path skip) iteration state = refl
  state_same n (Again back) iteration state = refl
  state_same n Rotate iteration state = refl
  state_same n (Due skip) iteration state = refl
  state_same n (Written skip) iteration state = refl
  state_same n (Skip skip) iteration state = refl
  state_same n (Next back) iteration state = refl
  state_same n (Piece v) iteration state = refl
  state_same n Save iteration state = refl
  state_same n Halt iteration state = refl

  -- the way depends on what the parts give alone
  pub parts_guide : (n : ℕ) → guided r one n ≡ guided r another n
  parts_guide zero = refl
  parts_guide (suc n) =
      ap (λ g. guided_step r one n (next_op r g.control) g) (parts_guide n)
      ∙ ap (λ s. record {
        control =
            (guided_step r another n (next_op r (guided r another n).control)
            (guided r another n)).control;
        state = s;
      })
      (state_same n (next_op r (guided r another n).control) (guided r another n).control.iteration
      (guided r another n).state)
