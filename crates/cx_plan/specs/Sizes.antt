-- How large trees are.
use Rattle.std.specs.Prelude.{ℕ, ◌+◌, max, sum, map, List, [], ◌∷◌}
use Rattle.cx_plan.specs.declared.tree.Tree.{Tree, Seq', Call, Sync, If', While', Row_of-Tree, end_of-Tree, more_of-Tree}

-- a tree and what stands in it, each counted once
abbrev mutual
  pub nodes : Tree → ℕ
  nodes (Seq' shape all) = 1 + row_nodes all
  nodes (Call k) = 1
  nodes (Sync vars path) = 1
  nodes (If' v path shape one) = 1 + row_nodes one
  nodes (While' v path shape one) = 1 + row_nodes one

  pub row_nodes : {m : _} → Row_of-Tree m → ℕ
  row_nodes end_of-Tree = 0
  row_nodes (more_of-Tree tree rest) = nodes tree + row_nodes rest

-- how deep a tree goes; a call or a SYNC alone is 1 deep
abbrev mutual
  pub depth : Tree → ℕ
  depth (Seq' shape all) = 1 + row_depth all
  depth (Call k) = 1
  depth (Sync vars path) = 1
  depth (If' v path shape one) = 1 + row_depth one
  depth (While' v path shape one) = 1 + row_depth one

  pub row_depth : {m : _} → Row_of-Tree m → ℕ
  row_depth end_of-Tree = 0
  row_depth (more_of-Tree tree rest) = max (depth tree) (row_depth rest)

abbrev pub all_nodes : List Tree → ℕ
all_nodes trees = sum (map nodes trees)

abbrev pub greatest_depth : List Tree → ℕ
greatest_depth [] = 0
greatest_depth (tree ∷ trees) = max (depth tree) (greatest_depth trees)
