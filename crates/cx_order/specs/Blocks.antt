-- What counts of a thorn's schedule file.
use Rattle.std.specs.Prelude.{◌≡◌, ◌⊎◌, ℕ, List, Result, Ok, Err}
use Rattle.cx_expr.specs.declared.tree.ExprFault.{ExprFault}
use Rattle.cx_order.specs.declared.fault.OrderFault.{OrderFault}
use Rattle.cx_order.specs.declared.fault.OrderFault.TheVariants.{Expr, Memory}
use Rattle.cx_order_entries.specs.declared.counted.Counted.{Counted as LentCounted}
use Rattle.cx_order_entries.specs.Counted.{Counted, joined}
use Rattle.cx_order_entries.specs.Seen.{seen}

-- what is told of a thorn's file, a fault with the thorn's name
abbrev pub by_thorn : {X : Type 0} → List ℕ → Result X ExprFault → Result X OrderFault
by_thorn name (Ok x) = Ok x
by_thorn name (Err e) = Err (Expr name e)

-- What is told is added behind what was there, or is the fault, or memory is wanting.
abbrev pub AddsOr : Result Counted OrderFault → LentCounted → LentCounted
    → Result (Unit {0}) OrderFault → Type 0
AddsOr told old new (Ok u) = joined (Ok (seen old)) told ≡ Ok (seen new)
AddsOr told old new (Err e) = (e ≡ Memory) ⊎ (told ≡ Err e)

-- An answer is what is told, unless memory is wanting.
abbrev pub CountsOr : Result Counted OrderFault → Result LentCounted OrderFault → Type 0
CountsOr told (Ok counted) = told ≡ Ok (seen counted)
CountsOr told (Err e) = (e ≡ Memory) ⊎ (told ≡ Err e)
