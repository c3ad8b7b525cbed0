-- A plan within its limits has at most as many items as a plan may have nodes.
use Rattle.std.proofs.Common.{◌≡◌, ℕ, ◌+◌, ◌-◌, ◌≤◌, ltb-false, Bool, true, false, if◌then◌else◌, List, [], ◌∷◌, ◌++◌, map, length, length-append, Option, Some, None, refl, sym, ap, subst, ◌∙◌, arith}
use Rattle.std.specs.Prelude.{◌^◌, min, nat_lt, codes}
use Rattle.std.specs.List.{flat_map}
use Rattle.std.proofs.lemmas.List.Sums.{sum_by-cons}
use mathlib.Core.Former.{Count}
use Rattle.cx_plan.specs.Lists.{or_else}
use Rattle.cx_plan.specs.Sizes.{nodes, row_nodes, all_nodes, greatest_depth}
use Rattle.cx_plan.specs.declared.variable.VarId.{VarId}
use Rattle.cx_plan.specs.declared.tree.Tree.{Tree, Seq, Seq', Call, Sync, If, While, Row_of-Tree, end_of-Tree, more_of-Tree, items-the_row-Tree, items_hidden-the_row-Tree-0}
use Rattle.cx_order.specs.declared.fault.OrderFault.{OrderFault}
use Rattle.cx_order.specs.declared.fault.OrderFault.TheVariants.{Limit}
use Rattle.cx_order.specs.declared.meaning.Meaning.{Meaning}
use Rattle.cx_order.specs.Meanings.{World, names_of}
use Rattle.cx_order.specs.Plans.{Forest, Done, Then, calls, trees, bin_trees, forest_items, sync_tree, call_tree, with_while, with_if, wrapped, over, limit_fault}
use Rattle.cx_order.proofs.PlanLaws.{count-items}

-- ---- nodes of trees

first_and_rest : (tree : Tree) (ts : List Tree) → all_nodes (tree ∷ ts) ≡ nodes tree + all_nodes ts
first_and_rest tree ts = sum_by-cons (λ k. k) (nodes tree) (map nodes ts)

row_as_list : (n : _) (row : Row_of-Tree n) → row_nodes row ≡ all_nodes (items-the_row-Tree n row)
row_as_list n end_of-Tree = refl
row_as_list n (more_of-Tree one rest) =
    ap (λ (k : ℕ). nodes one + k) (row_as_list _ rest)
    ∙ sym (first_and_rest one (items-the_row-Tree _ rest))

abbrev row_in : Tree → (n : Count) × Row_of-Tree n
row_in (Seq' shape row) = (_, row)
row_in _ = (_, end_of-Tree)

nodes_in_row : (ts : List Tree) → nodes (Seq ts) ≡ 1 + all_nodes ts
nodes_in_row ts =
    let one = row_in (Seq ts) in
    ap (λ (k : ℕ). 1 + k) (row_as_list one.0 one.1 ∙ ap all_nodes (items_hidden-the_row-Tree-0 ts))

nodes_under_if : (v : VarId) (path : List ℕ) (tree : Tree) → nodes (If v path tree) ≡ 1 + nodes tree
unfolding Rattle.cx_plan.specs.declared.tree.Tree.TheBlock.hidden-the_row-Tree-1
    denote.Hole.Carrier.hidden
nodes_under_if v path tree = omega arith

nodes_under_while : (v : VarId) (path : List ℕ) (tree : Tree)
    → nodes (While v path tree) ≡ 1 + nodes tree
unfolding Rattle.cx_plan.specs.declared.tree.Tree.TheBlock.hidden-the_row-Tree-1
    denote.Hole.Carrier.hidden
nodes_under_while v path tree = omega arith

before_others : (ts us : List Tree) → all_nodes ts ≤ all_nodes (ts ++ us)
before_others [] us = omega arith
before_others (t ∷ ts) us =
    omega (arith, before_others ts us, first_and_rest t (ts ++ us), first_and_rest t ts)

-- ---- each call is a node

under_while : (path : List ℕ) (turn : Option VarId) (work : Tree)
    → nodes work ≤ nodes (with_while path turn work)
under_while path None work = omega arith
under_while path (Some v) work = omega (arith, nodes_under_while v path work)

under_if : (path : List ℕ) (test : Option VarId) (work : Tree)
    → nodes work ≤ nodes (with_if path test work)
under_if path None work = omega arith
under_if path (Some v) work = omega (arith, nodes_under_if v path work)

in_wrapped : (m : Meaning) (path : List ℕ) (work : Tree) → nodes work ≤ nodes (wrapped m path work)
in_wrapped m path work =
    omega (arith, under_while path m.turn work, under_if path m.test (with_while path m.turn work))

in_call : (path : List ℕ) (vars : List VarId) (k : ℕ) → 1 ≤ nodes (call_tree path vars k)
in_call path [] k = omega arith
in_call path (v ∷ vs) k = omega (arith, nodes_in_row (Call k ∷ Sync (v ∷ vs) path ∷ []))

in_work : (group : Bool) (path : List ℕ) (vars : List VarId) (k n : ℕ) (ts : List Tree)
    → n ≤ all_nodes ts → (if group then n else 1)
    ≤ nodes (if group then Seq (ts ++ sync_tree path vars) else call_tree path vars k)
in_work true path vars k n ts h =
    omega (
      arith,
      h,
      before_others ts (sync_tree path vars),
      nodes_in_row (ts ++ sync_tree path vars),
    )
in_work false path vars k n ts h = in_call path vars k

one_more : (tree : Tree) (ts : List Tree) (n m : ℕ) → n ≤ nodes tree → m ≤ all_nodes ts
    → n + m ≤ all_nodes (tree ∷ ts)
one_more tree ts n m one rest = omega (arith, first_and_rest tree ts)

pub calls-nodes : (w : World) (k : ℕ) (f : Forest) → calls f ≤ all_nodes (trees w k f)
calls-nodes w k Done = omega arith
calls-nodes w k (Then e path inside rest) =
    let vars = (names_of w e).sync in
    let work : Tree = if e.block.group then Seq (trees w k inside ++ sync_tree path vars)
    else call_tree path vars k in
    let n : ℕ = if e.block.group then calls inside else 1 in
    let in_entry : n ≤ nodes work =
    in_work e.block.group path vars k (calls inside) (trees w k inside) (calls-nodes w k inside)
    in
    let below : n ≤ nodes (wrapped (names_of w e) path work) =
    enough n (nodes work) (nodes (wrapped (names_of w e) path work)) in_entry
    (in_wrapped (names_of w e) path work) in
    one_more (wrapped (names_of w e) path work) (trees w (k + n) rest) n (calls rest) below
    (calls-nodes w (k + n) rest)
  where
    enough : (a b c : ℕ) → a ≤ b → b ≤ c → a ≤ c
    enough a b c h i = omega arith

pub items-nodes : (w : World) (k : ℕ) (fs : List Forest)
    → length (flat_map (forest_items w) fs) ≤ all_nodes (bin_trees w k fs)
items-nodes w k [] = omega arith
items-nodes w k (f ∷ fs) =
    let here = trees w k f in
    let rest = bin_trees w (k + calls f) fs in
    let items : length (flat_map (forest_items w) (f ∷ fs))
    ≡ calls f + length (flat_map (forest_items w) fs) =
    length-append (forest_items w f) (flat_map (forest_items w) fs)
    ∙ ap (λ n. n + length (flat_map (forest_items w) fs)) (count-items w f) in
    let bin : calls f ≤ nodes (Seq here) =
    with_one (calls f) (all_nodes here) (nodes (Seq here)) (calls-nodes w k f)
    (nodes_in_row here) in
    subst (λ n. n ≤ all_nodes (Seq here ∷ rest)) (sym items)
    (one_more (Seq here) rest (calls f) (length (flat_map (forest_items w) fs)) bin
    (items-nodes w (k + calls f) fs))
  where
    with_one : (a b c : ℕ) → a ≤ b → c ≡ 1 + b → a ≤ c
    with_one a b c h i = omega arith

-- ---- limits

within : (what : List ℕ) (number limit : ℕ) → over what number limit ≡ None → number ≤ limit
within what number limit none = by_test (nat_lt limit number) refl none
  where
    by_test : (b : Bool) → nat_lt limit number ≡ b
        → (if b then Some (Limit what (min number (2 ^ 64 - 1))) else None) ≡ None → number ≤ limit
    by_test true is none = absurd (cc)
    by_test false is none = ltb-false limit number is

second : (a b : Option OrderFault) → or_else a b ≡ None → b ≡ None
second None b none = none
second (Some f) b none = absurd (cc)

pub limit-items : (w : World) (fs : List Forest) → limit_fault (bin_trees w 0 fs) ≡ None
    → length (flat_map (forest_items w) fs) ≤ 4096
limit-items w fs none =
    let ts = bin_trees w 0 fs in
    enough (length (flat_map (forest_items w) fs)) (all_nodes ts) (items-nodes w 0 fs)
    (within (codes "nodes") (all_nodes ts) 4096
    (second (over (codes "depth") (greatest_depth ts) 32)
    (over (codes "nodes") (all_nodes ts) 4096) none))
  where
    enough : (a b : ℕ) → a ≤ b → b ≤ 4096 → a ≤ 4096
    enough a b h i = omega arith
