-- What the lines of a steer file give parameters, and why they can't.
use Rattle.std.specs.Prelude.{◌≡◌, ◌⊎◌, ℕ, zero, suc, nat_lt, Bool, true, false, List, [], ◌∷◌, Option, Some, None, Result, Ok, Err, slice_get, if◌then◌else◌}
use Rattle.std.specs.List.{flat_map}
use Rattle.cx_plan.specs.Lists.{or_else}
use Rattle.cx_plan.specs.Names.{with_owner}
use Rattle.cx_param.specs.declared.declarations.Steer.{Steer}
use Rattle.cx_param.specs.declared.declarations.Steer.TheVariants.{Never, Always, Recover}
use Rattle.cx_parfile.specs.declared.settings.Setting.{Setting}
use Rattle.cx_parfile.specs.declared.steer.SteerLine.{SteerLine}
use Rattle.cx_bind.specs.declared.thorns.Thorn.{Thorn}
use Rattle.cx_bind.specs.declared.thorns.Param.{Param}
use Rattle.cx_bind.specs.Parameters.{parameters}
use Rattle.cx_values.specs.declared.fault.ValueFault.{ValueFault}
use Rattle.cx_values.specs.declared.fault.ValueFault.TheVariants.{UnknownParam, Index, NotSteerable, SteerOrder, Memory}
use Rattle.cx_values.specs.declared.numbers.Dues.{Dues}
use Rattle.cx_values.specs.declared.steering.SteerStep.{SteerStep}
use Rattle.cx_values.specs.declared.values.Values.{Values}
use Rattle.cx_values.specs.Spelling.{held_by}
use Rattle.cx_values.specs.Naming.{Names, element, names}
use Rattle.cx_values.specs.Faults.{value_fault}
use Rattle.cx_values.specs.Numbers.{dues_of, is_due_in}

-- ---- the faults of a line, behind one of an iteration

-- A RECOVER parameter changes only where a run may be recovered: at the iteration that follows a
-- checkpoint.
abbrev pub may_change : Dues → Steer → ℕ → Bool
may_change dues Never n = false
may_change dues Always n = true
may_change dues Recover zero = false
may_change dues Recover (suc n) = is_due_in dues n

abbrev pub order_fault : ℕ → ℕ → ℕ → Option ValueFault
order_fault before n line = if nat_lt n before then Some (SteerOrder line) else None

-- A value has the faults that it has in a parameter file. Only built-in parameters look at the
-- folder of checkpoints, and those never change.
abbrev pub change_fault : Dues → ℕ → SteerLine → Param → Option ValueFault
change_fault dues before l p =
    if may_change dues p.decl.steer l.at
    then or_else (value_fault [] p l.setting.line l.setting.value)
    (order_fault before l.at l.setting.line)
    else Some (NotSteerable l.setting.line)

abbrev pub change_fault_at : Dues → ℕ → SteerLine → Param → Option ℕ → Option ValueFault
change_fault_at dues before l p None = Some (Index l.setting.line)
change_fault_at dues before l p (Some k) = change_fault dues before l p

abbrev pub change_fault_of : Dues → ℕ → SteerLine → Option Param → Option ValueFault
change_fault_of dues before l None = Some (UnknownParam l.setting.line)
change_fault_of dues before l (Some p) =
    change_fault_at dues before l p (element p.decl.length l.setting.index)

abbrev pub named_fault : List Param → Dues → ℕ → SteerLine → Option ℕ → Option ValueFault
named_fault ps dues before l None = Some (UnknownParam l.setting.line)
named_fault ps dues before l (Some n) = change_fault_of dues before l (slice_get ps n)

abbrev pub line_fault : List Param → Names → Dues → ℕ → SteerLine → Option ValueFault
line_fault ps names dues before l =
    named_fault ps dues before l (names (with_owner l.setting.owner l.setting.name))

-- ---- all lines

-- the first line with a fault, each behind the iteration of the line before it
abbrev pub lines_fault : List Param → Names → Dues → ℕ → List SteerLine → Option ValueFault
lines_fault ps names dues before [] = None
lines_fault ps names dues before (l ∷ rest) =
    or_else (line_fault ps names dues before l) (lines_fault ps names dues l.at rest)

unfoldable pub steer_fault : List Thorn → Values → List SteerLine → Option ValueFault
steer_fault thorns values lines =
    lines_fault (parameters thorns) (names thorns) (dues_of values) 0 lines

-- ---- steps

abbrev pub step_of : SteerLine → ℕ → Option Param → List SteerStep
step_of l n None = []
step_of l n (Some p) = record {
  at = l.at;
  param = n;
  index = l.setting.index;
  value = (held_by p.decl.ptype p.ranges l.setting.value).value;
} ∷ []

abbrev pub step_at : List Param → SteerLine → Option ℕ → List SteerStep
step_at ps l None = []
step_at ps l (Some n) = step_of l n (slice_get ps n)

-- what a line gives the parameter that it names
abbrev pub step_by : List Param → Names → SteerLine → List SteerStep
step_by ps names l = step_at ps l (names (with_owner l.setting.owner l.setting.name))

unfoldable pub steps : List Thorn → List SteerLine → List SteerStep
steps thorns lines = flat_map (step_by (parameters thorns) (names thorns)) lines

-- Lines without a fault give a step each.
abbrev pub Steers : List Thorn → Values → List SteerLine → Result (List SteerStep) ValueFault
    → Type 0
Steers thorns values lines (Ok found) =
    (found ≡ steps thorns lines) × (steer_fault thorns values lines ≡ None)
Steers thorns values lines (Err e) = (e ≡ Memory) ⊎ (steer_fault thorns values lines ≡ Some e)
