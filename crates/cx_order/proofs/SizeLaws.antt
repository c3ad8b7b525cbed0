-- How many nodes trees have and how deep they go.
use Rattle.std.proofs.Common.{◌≡◌, ℕ, ◌+◌, Bool, true, false, if◌then◌else◌, List, [], ◌∷◌, ◌++◌, map, refl, sym, ap, ◌∙◌, arith}
use Rattle.std.specs.Prelude.{◌^◌, ◌-◌, min, max}
use Rattle.std.proofs.lemmas.List.Sums.{sum_by-cons}
use mathlib.Core.Former.{Count}
use Rattle.cx_plan.specs.Sizes.{nodes, depth, row_nodes, row_depth, all_nodes, greatest_depth}
use Rattle.cx_plan.specs.declared.variable.VarId.{VarId}
use Rattle.cx_plan.specs.declared.tree.Tree.{Tree, Seq, Seq', Call, Sync, If, While, Row_of-Tree, end_of-Tree, more_of-Tree, items-the_row-Tree, items_hidden-the_row-Tree-0}
use Rattle.cx_order.specs.declared.sizes.Sizes.{Sizes}
use Rattle.cx_order.specs.TreeSizes.{AreSizes, is_synced}
use Rattle.cx_order.specs.Plans.{call_tree}

pub nodes-cons : (tree : Tree) (trees : List Tree)
    → all_nodes (tree ∷ trees) ≡ nodes tree + all_nodes trees
nodes-cons tree trees = sum_by-cons (λ k. k) (nodes tree) (map nodes trees)

nodes_of_row : (n : _) (row : Row_of-Tree n) → row_nodes row ≡ all_nodes (items-the_row-Tree n row)
nodes_of_row n end_of-Tree = refl
nodes_of_row n (more_of-Tree one rest) =
    ap (λ (k : ℕ). nodes one + k) (nodes_of_row _ rest)
    ∙ sym (nodes-cons one (items-the_row-Tree _ rest))

depth_of_row : (n : _) (row : Row_of-Tree n)
    → row_depth row ≡ greatest_depth (items-the_row-Tree n row)
depth_of_row n end_of-Tree = refl
depth_of_row n (more_of-Tree one rest) = ap (λ (k : ℕ). max (depth one) k) (depth_of_row _ rest)

abbrev row_in : Tree → (n : Count) × Row_of-Tree n
row_in (Seq' shape row) = (_, row)
row_in _ = (_, end_of-Tree)

pub nodes-Seq : (trees : List Tree) → nodes (Seq trees) ≡ 1 + all_nodes trees
nodes-Seq trees =
    let one = row_in (Seq trees) in
    ap (λ (k : ℕ). 1 + k) (nodes_of_row one.0 one.1
    ∙ ap all_nodes (items_hidden-the_row-Tree-0 trees))

pub depth-Seq : (trees : List Tree) → depth (Seq trees) ≡ 1 + greatest_depth trees
depth-Seq trees =
    let one = row_in (Seq trees) in
    ap (λ (k : ℕ). 1 + k) (depth_of_row one.0 one.1
    ∙ ap greatest_depth (items_hidden-the_row-Tree-0 trees))

pub nodes-If : (v : VarId) (path : List ℕ) (tree : Tree) → nodes (If v path tree) ≡ 1 + nodes tree
unfolding Rattle.cx_plan.specs.declared.tree.Tree.TheBlock.hidden-the_row-Tree-1
    denote.Hole.Carrier.hidden
nodes-If v path tree = omega arith

pub nodes-While : (v : VarId) (path : List ℕ) (tree : Tree)
    → nodes (While v path tree) ≡ 1 + nodes tree
unfolding Rattle.cx_plan.specs.declared.tree.Tree.TheBlock.hidden-the_row-Tree-1
    denote.Hole.Carrier.hidden
nodes-While v path tree = omega arith

pub depth-If : (v : VarId) (path : List ℕ) (tree : Tree) → depth (If v path tree) ≡ 1 + depth tree
unfolding Rattle.cx_plan.specs.declared.tree.Tree.TheBlock.hidden-the_row-Tree-1
    denote.Hole.Carrier.hidden
depth-If v path tree = omega arith

pub depth-While : (v : VarId) (path : List ℕ) (tree : Tree)
    → depth (While v path tree) ≡ 1 + depth tree
unfolding Rattle.cx_plan.specs.declared.tree.Tree.TheBlock.hidden-the_row-Tree-1
    denote.Hole.Carrier.hidden
depth-While v path tree = omega arith

-- ---- trees behind one another

pub nodes-append : (ts us : List Tree) → all_nodes (ts ++ us) ≡ all_nodes ts + all_nodes us
nodes-append [] us = omega arith
nodes-append (t ∷ ts) us =
    omega (arith, nodes-append ts us, nodes-cons t (ts ++ us), nodes-cons t ts)

pub depth-append : (ts us : List Tree)
    → greatest_depth (ts ++ us) ≡ max (greatest_depth ts) (greatest_depth us)
depth-append [] us = omega arith
depth-append (t ∷ ts) us = omega (arith, depth-append ts us)

-- ---- as numbers of 64 bits

pub before-sizes : (tree : Tree) (trees : List Tree) (first rest all : Sizes)
    → all.nodes ≡ min (first.nodes + rest.nodes) (2 ^ 64 - 1)
    → all.depth ≡ max first.depth rest.depth → AreSizes (tree ∷ []) first → AreSizes trees rest
    → AreSizes (tree ∷ trees) all
before-sizes tree trees first rest all n d f r =
    let fn = f.nodes in let fd = f.depth in let rn = r.nodes in let rd = r.depth in
    record {
      nodes = omega (arith, n, fn, rn, nodes-cons tree trees, nodes-cons tree []);
      depth = omega (arith, d, fd, rd);
    }

-- one node around some trees
pub around-sizes : (tree : Tree) (trees : List Tree) (inner all : Sizes)
    → nodes tree ≡ 1 + all_nodes trees → depth tree ≡ 1 + greatest_depth trees
    → all.nodes ≡ min (inner.nodes + 1) (2 ^ 64 - 1)
    → all.depth ≡ min (inner.depth + 1) (2 ^ 64 - 1) → AreSizes trees inner
    → AreSizes (tree ∷ []) all
around-sizes tree trees inner all tn td n d i =
    let inn = i.nodes in let ind = i.depth in
    record {
      nodes = omega (arith, tn, n, inn, nodes-cons tree []);
      depth = omega (arith, td, d, ind);
    }

pub one-more : (tree : Tree) (trees : List Tree) (inner all : Sizes) → nodes tree ≡ 1
    → depth tree ≡ 1 → all.nodes ≡ min (inner.nodes + 1) (2 ^ 64 - 1)
    → all.depth ≡ max inner.depth 1 → AreSizes trees inner → AreSizes (trees ++ tree ∷ []) all
one-more tree trees inner all tn td n d i =
    let inn = i.nodes in let ind = i.depth in
    record {
      nodes = omega (arith, tn, n, inn, nodes-append trees (tree ∷ []), nodes-cons tree []);
      depth = omega (arith, td, d, ind, depth-append trees (tree ∷ []));
    }

pub nodes-around : (outer tree : Tree) → nodes outer ≡ 1 + nodes tree
    → nodes outer ≡ 1 + all_nodes (tree ∷ [])
nodes-around outer tree e = omega (arith, e, nodes-cons tree [])

pub depth-around : (outer tree : Tree) → depth outer ≡ 1 + depth tree
    → depth outer ≡ 1 + greatest_depth (tree ∷ [])
depth-around outer tree e = omega (arith, e)

-- ---- SYNC and tests

pub called : (synced : Bool) (vars : List VarId) (path : List ℕ) (k : ℕ) → is_synced vars ≡ synced
    → (sizes : Sizes) → sizes
    ≡ (if synced then record { nodes = 3; depth = 2 } else record { nodes = 1; depth = 1 })
    → AreSizes (call_tree path vars k ∷ []) sizes
called true [] path k is sizes s = absurd (cc)
called false (v ∷ vs) path k is sizes s = absurd (cc)
called false [] path k is sizes s = let a = ap (λ (z : Sizes). z.nodes) s in
    let b = ap (λ (z : Sizes). z.depth) s in
    record { nodes = omega (arith, a); depth = omega (arith, b) }
called true (v ∷ vs) path k is sizes s =
    let a = ap (λ (z : Sizes). z.nodes) s in let b = ap (λ (z : Sizes). z.depth) s in
    let tree : List Tree = Call k ∷ Sync (v ∷ vs) path ∷ [] in
    record { nodes = omega (arith, a, nodes-Seq tree); depth = omega (arith, b, depth-Seq tree) }
