-- The text of what a buffer holds.
use Rattle.std.specs.Prelude.{ℕ, ℤ, pos, List, if◌then◌else◌, slice_index_or}
use Rattle.cx_plan.specs.declared.variable.VarId.{VarId}
use Rattle.cx_plan.specs.Setups.{Setup}
use Rattle.cx_plan.specs.Lookups.{is_scalar, variable}
use Rattle.cx_ascii.specs.Output.{section, line}

-- the section of a whole level, or the line of a scalar's number
abbrev pub text_of_piece : Setup → ℕ → VarId → List ℤ → List ℕ
text_of_piece setup iteration v piece =
    if is_scalar setup v
    then line (variable setup v).full iteration (slice_index_or piece 0 (pos 0))
    else section (variable setup v).full iteration setup.shape piece
