-- How large trees are, as numbers of 64 bits.
use Rattle.std.specs.Prelude.{◌≡◌, ◌^◌, ◌-◌, min, Bool, true, false, List, [], ◌∷◌}
use Rattle.cx_plan.specs.Sizes.{all_nodes, greatest_depth}
use Rattle.cx_plan.specs.declared.variable.VarId.{VarId}
use Rattle.cx_plan.specs.declared.tree.Tree.{Tree}
use Rattle.cx_order.specs.declared.sizes.Sizes.{Sizes}

-- a number that 64 bits do not hold is their greatest
pub record AreSizes (trees : List Tree) (sizes : Sizes) : Type 0 where
  pub nodes : sizes.nodes ≡ min (all_nodes trees) (2 ^ 64 - 1)
  pub depth : sizes.depth ≡ min (greatest_depth trees) (2 ^ 64 - 1)

-- whether a SYNC has variables
abbrev pub is_synced : List VarId → Bool
is_synced [] = false
is_synced (v ∷ vs) = true
