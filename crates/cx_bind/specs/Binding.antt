-- What binding answers.
use Rattle.std.specs.Prelude.{◌≡◌, ◌⊎◌, ℕ, List, [], ◌∷◌, length, codes, Option, Some, None, Result, Ok, Err}
use Rattle.cx_plan.specs.Lists.{first_some}
use Rattle.cx_plan.specs.declared.variable.VarInfo.{VarInfo}
use Rattle.cx_bind.specs.declared.known.Known.{Known}
use Rattle.cx_bind.specs.declared.thorns.Thorn.{Thorn}
use Rattle.cx_bind.specs.declared.thorns.BindFault.{BindFault}
use Rattle.cx_bind.specs.declared.thorns.BindFault.TheVariants.{Memory}
use Rattle.cx_bind.specs.Variables.{variable_infos}
use Rattle.cx_bind.specs.Parameters.{known}
use Rattle.cx_bind.specs.Faults.{providers, two_providers, missing_implementation, missing_capability, missing_thorn, no_parameter, wrong_type, two_variables, two_parameters, unsupported, two_dims, over}

-- the most active thorns beside the built-in ones, and the most variables
abbrev pub max_thorns : ℕ
max_thorns = 64

abbrev pub max_variables : ℕ
max_variables = 256

-- The first fault of thorns, or none where they fit each other: kind by kind, each over all thorns.
abbrev pub needs_fault : List Thorn → Option BindFault
needs_fault thorns =
    first_some
    (two_providers (providers thorns)
    ∷ missing_implementation (providers thorns) thorns
    ∷ missing_capability thorns thorns
    ∷ missing_thorn (providers thorns) thorns
    ∷ [])

abbrev pub names_fault : List Known → List VarInfo → List Thorn → Option BindFault
names_fault knowns infos thorns =
    first_some
    (no_parameter knowns thorns
    ∷ wrong_type knowns thorns
    ∷ two_variables infos
    ∷ two_parameters knowns
    ∷ [])

abbrev pub kinds_fault : List VarInfo → List Thorn → Option BindFault
kinds_fault infos thorns =
    first_some
    (unsupported thorns
    ∷ two_dims thorns
    ∷ over (codes "thorns") (length thorns) max_thorns
    ∷ over (codes "variables") (length infos) max_variables
    ∷ [])

unfoldable pub bind_fault : List Thorn → Option BindFault
bind_fault thorns =
    first_some
    (needs_fault thorns
    ∷ names_fault (known thorns) (variable_infos thorns) thorns
    ∷ kinds_fault (variable_infos thorns) thorns
    ∷ [])

-- Thorns without a fault are bound as they are.
abbrev pub Binds : List Thorn → Result (List Thorn) BindFault → Type 0
Binds thorns (Ok bound) = (bound ≡ thorns) × (bind_fault thorns ≡ None)
Binds thorns (Err e) = (e ≡ Memory) ⊎ (bind_fault thorns ≡ Some e)
