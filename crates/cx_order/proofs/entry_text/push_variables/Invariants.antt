use Rattle.std.proofs.Common.{◌≡◌, ◌++◌, take}
use Rattle.std.specs.Prelude.{codes}
use Rattle.std.specs.List.{flat_map}
use Rattle.cx_order.specs.Texts.{level_name}
use Rattle.cx_order.specs.Worlds.{world_of}
use Rattle.cx_order.proofs.entry_text.push_variables.Given as goal

abbrev pub invariant-variables : goal.invariant-variables
invariant-variables l = l.text
    ≡ l.fn.text ++ flat_map (λ v. codes " " ++ level_name (world_of l.context) v 0)
    (take l.variable-index l.variables)
