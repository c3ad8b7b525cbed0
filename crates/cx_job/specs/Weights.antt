-- The variable whose numbers weigh the points of the grid.
use Rattle.std.specs.Prelude.{ℕ, List, Option, Some, None, slice_index_or, if◌then◌else◌}
use Rattle.std.specs.Option.{option_map}
use Rattle.cx_parfile.specs.Values.{is_empty}
use Rattle.cx_plan.specs.Lookups.{no_variable}
use Rattle.cx_plan.specs.declared.variable.VarId.{VarId}
use Rattle.cx_plan.specs.declared.variable.VarInfo.{VarInfo}
use Rattle.cx_bind.specs.declared.thorns.Thorn.{Thorn}
use Rattle.cx_bind.specs.Variables.{variable_infos}
use Rattle.cx_scope.specs.declared.fault.ScopeFault.{ScopeFault}
use Rattle.cx_scope.specs.declared.fault.ScopeFault.TheVariants.{NotFound, NotGrid, NoStorage}
use Rattle.cx_scope.specs.Resolving.{var_id}
use Rattle.cx_values.specs.declared.values.Values.{Values}
use Rattle.cx_job_values.specs.RunNumbers.{weight_name}
use Rattle.cx_job.specs.Outputs.{is_stored, variable_named}

-- why what a name gives can't weigh: it is no variable, a scalar, or a variable without storage
abbrev pub grid_fault : List VarInfo → List ℕ → List ℕ → Option ℕ → Option ScopeFault
grid_fault vars storage name None = Some (NotFound name)
grid_fault vars storage name (Some k) =
    if (slice_index_or vars k no_variable).scalar then Some (NotGrid name)
    else (if is_stored storage k then None else Some (NoStorage name))

abbrev pub weight_fault_by : List VarInfo → List ℕ → List ℕ → Option ScopeFault
weight_fault_by vars storage name =
    if is_empty name then None else grid_fault vars storage name (variable_named vars name)

-- the fault of the name of the variable that weighs, if one is named
abbrev pub weight_fault : List Thorn → Values → List ℕ → Option ScopeFault
weight_fault thorns values storage =
    weight_fault_by (variable_infos thorns) storage (weight_name values)

abbrev pub weight_by : List VarInfo → List ℕ → Option VarId
weight_by vars name =
    if is_empty name then None else option_map var_id (variable_named vars name)

-- the variable that weighs; without a name none does
abbrev pub weight_of : List Thorn → Values → Option VarId
weight_of thorns values = weight_by (variable_infos thorns) (weight_name values)
