-- Runs that are steered alike up to an iteration.
use Rattle.std.specs.Prelude.{ℕ, ◌≡◌, ◌≤◌, nat_le, List, filter, take}
use Rattle.cx_plan.specs.Setups.{Setup}
use Rattle.cx_plan.specs.declared.steered.Steered.{Steered}
use Rattle.cx_plan.specs.declared.variable.VarId.{VarId}
use Rattle.cx_rule.specs.Routine.{Rule}
use Rattle.cx_rule.specs.States.{State}
use Rattle.cx_model.specs.Runs.{Lengths, output, Reaches}

-- the same run with other steers
abbrev pub steered_as : Setup → List Steered → Setup
steered_as setup steers = record setup { steers = steers }

-- the steers of iterations up to c
abbrev pub steers_to : ℕ → List Steered → List Steered
steers_to c steers = filter (λ (s : Steered). nat_le s.at c) steers

-- up to the checkpoint place of c two runs do the same, and so is what they have written there of
-- each variable
pub record SameUpTo (setup : Setup) (other : List Steered) (rules : List Rule)
    (c : ℕ) : Type 0 where
  pub places : (d : ℕ) (state : State) (so_far : Lengths) → d ≤ c
      → (r : Reaches setup rules d state so_far)
      → (q : Reaches (steered_as setup other) rules d state so_far) × (q.earlier ≡ r.earlier)
  pub output : (d : ℕ) (state : State) (so_far : Lengths) → d ≤ c
      → Reaches setup rules d state so_far
      → (v : VarId) → take (so_far v.0) (output setup rules v)
      ≡ take (so_far v.0) (output (steered_as setup other) rules v)

-- runs whose steers up to c are the same
abbrev pub SteeredAlike : Setup → List Rule → Type 0
SteeredAlike setup rules =
    (other : List Steered) (c : ℕ) → steers_to c setup.steers ≡ steers_to c other
    → SameUpTo setup other rules c
