-- States as checkpoints hold them: the scalars' numbers in one list, the levels of the grid
-- variables in another one, variable by variable, the current level first.
use Rattle.std.specs.Prelude.{ℕ, zero, suc, ◌+◌, ◌≡◌, ℤ, List, [], ◌∷◌, ◌++◌, map, length, take, drop, if◌then◌else◌, All}
use Rattle.std.specs.List.{flat_map}
use Rattle.cx_grid.specs.Boxes.{point_count}
use Rattle.cx_grid.specs.Grid.{whole}
use Rattle.cx_plan.specs.declared.variable.VarInfo.{VarInfo}
use Rattle.cx_plan.specs.Setups.{Setup}
use Rattle.cx_rule.specs.States.{State}
use Rattle.cx_chk.specs.declared.checkpoint.Checkpoint.{Checkpoint}
use Rattle.cx_plan.specs.Whole.{scalar_count, level_count}

-- how many of them all variables have, and those before a variable
abbrev pub total : (VarInfo → ℕ) → List VarInfo → ℕ
total count [] = 0
total count (v ∷ vs) = count v + total count vs

abbrev pub before : (VarInfo → ℕ) → List VarInfo → ℕ → ℕ
before count [] v = 0
before count (x ∷ xs) zero = 0
before count (x ∷ xs) (suc v) = count x + before count xs v

-- the state of these numbers and levels: each variable takes its own from the front of what is left
abbrev pub state_from : List VarInfo → List ℤ → List (List ℤ) → State
state_from [] scalars levels = []
state_from (v ∷ vs) scalars levels =
    if v.scalar
    then map (λ (n : ℤ). n ∷ []) (take v.levels scalars)
    ∷ state_from vs (drop v.levels scalars) levels
    else take v.levels levels ∷ state_from vs scalars (drop v.levels levels)

abbrev pub state_of : List VarInfo → Checkpoint → State
state_of vars c = state_from vars c.scalars c.levels

-- the scalars' numbers of a state, and the levels of its grid variables
abbrev pub scalars_in : List VarInfo → State → List ℤ
scalars_in [] state = []
scalars_in (v ∷ vs) [] = []
scalars_in (v ∷ vs) (levels ∷ more) =
    (if v.scalar then flat_map (λ (level : List ℤ). level) levels else []) ++ scalars_in vs more

abbrev pub levels_in : List VarInfo → State → List (List ℤ)
levels_in [] state = []
levels_in (v ∷ vs) [] = []
levels_in (v ∷ vs) (levels ∷ more) = (if v.scalar then [] else levels) ++ levels_in vs more

-- a checkpoint that holds a whole state of a job: a number for each scalar, and for each level of a
-- grid variable one for each point
pub record HoldsState (setup : Setup) (c : Checkpoint) : Type 0 where
  pub scalars : length c.scalars ≡ total scalar_count setup.vars
  pub levels : length c.levels ≡ total level_count setup.vars
  pub points : All (λ (level : List ℤ). length level ≡ point_count (whole setup.shape)) c.levels
