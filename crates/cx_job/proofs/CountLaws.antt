-- How many items trees call.
use Rattle.std.proofs.Common.{◌≡◌, ◌∙◌, sym, ap, refl, ◌<◌, ◌≤◌, ◌+◌, ◌-◌, ◌^◌, ℕ, zero, suc, List, [], ◌∷◌, ◌++◌, length, take, get_or, min, arith}
use Rattle.std.specs.List.{flat_map}
use Rattle.std.proofs.lemmas.List.{length-append, append-nil}
use Rattle.std.proofs.lemmas.List.Sums.{sum_by-cons, sum-map}
use Rattle.cx_plan.specs.Lookups.{called, called_in}
use Rattle.cx_plan.specs.Sizes.{nodes, row_nodes, all_nodes}
use Rattle.cx_plan.specs.declared.tree.Schedule.{Schedule}
use Rattle.cx_plan.specs.declared.tree.Tree.{Tree, Seq, If, While, Seq', Call, Sync, If', While', Row_of-Tree, end_of-Tree, more_of-Tree}
use Rattle.cx_plan.specs.declared.variable.VarId.{VarId}
use Rattle.cx_region.proofs.CalledLaws.{called-seq, called-if, called-while, flat_map-take}
use Rattle.cx_job.specs.JobLimits.{run_count}

-- ---- a tree calls no more items than it has nodes

mutual
  few_called : (tree : Tree) → length (called tree) ≤ nodes tree
  few_called (Seq' shape all) = let few = few_in all in omega (arith, few)
  few_called (Call k) = omega arith
  few_called (Sync vars path) = omega arith
  few_called (If' v path shape one) = let few = few_in one in omega (arith, few)
  few_called (While' v path shape one) = let few = few_in one in omega (arith, few)

  few_in : {m : _} (row : Row_of-Tree m) → length (called_in row) ≤ row_nodes row
  few_in end_of-Tree = omega arith
  few_in (more_of-Tree tree rest) =
      let one = few_called tree in
      let others = few_in rest in
      let both = length-append (called tree) (called_in rest) in
      omega (arith, one, others, both)

few_of : (n : ℕ) (trees : List Tree) → length (flat_map called (take n trees)) ≤ all_nodes trees
few_of zero trees = omega arith
few_of (suc n) [] = omega arith
few_of (suc n) (tree ∷ trees) =
    let one = few_called tree in
    let others = few_of n trees in
    let both = length-append (called tree) (flat_map called (take n trees)) in
    let first : flat_map called (take (suc n) (tree ∷ trees))
    ≡ called tree ++ flat_map called (take n trees) = refl in
    let long : length (flat_map called (take (suc n) (tree ∷ trees)))
    ≡ length (called tree ++ flat_map called (take n trees)) = ap length first in
    let all : all_nodes (tree ∷ trees) ≡ nodes tree + all_nodes trees =
    sum-map nodes (tree ∷ trees) ∙ sum_by-cons nodes tree trees
    ∙ ap (λ n. nodes tree + n) (sym (sum-map nodes trees)) in
    omega (arith, one, others, both, long, all)

pub few_runs : (plan : Schedule) → all_nodes plan.bins ≤ 4096 → run_count plan ≤ 4096
few_runs plan most = let few = few_of 13 plan.bins in omega (arith, few, most)

-- ---- counting up to the greatest number

abbrev pub most : ℕ
most = 2 ^ 64 - 1

abbrev pub counted : List ℕ → ℕ
counted calls = min (length calls) most

-- what both count, one behind the other
both_counted : (a b : ℕ) → min (min a most + min b most) most ≡ min (a + b) most
both_counted a b = omega arith

pub count_next : (trees : List Tree) (k : ℕ) (tree : Tree) (before here after : ℕ)
    → k < length trees → tree ≡ get_or trees k tree
    → before ≡ counted (flat_map called (take k trees)) → here ≡ counted (called tree)
    → after ≡ min (before + here) most → after ≡ counted (flat_map called (take (k + 1) trees))
count_next trees k tree before here after within at is one more =
    let a = flat_map called (take k trees) in
    let joined : a ++ called tree ≡ flat_map called (take (k + 1) trees) =
    ap (λ (t : Tree). a ++ called t) at ∙ flat_map-take called trees k tree within in
    more ∙ ap (λ n. min (n + here) most) is ∙ ap (λ n. min (counted a + n) most) one
    ∙ both_counted (length a) (length (called tree))
    ∙ ap (λ n. min n most) (sym (length-append a (called tree))) ∙ ap counted joined

pub count_seq : (trees : List Tree) → counted (flat_map called trees) ≡ counted (called (Seq trees))
count_seq trees = ap counted (sym (called-seq trees))

pub count_if : (v : VarId) (path : List ℕ) (one : Tree)
    → counted (called one) ≡ counted (called (If v path one))
count_if v path one = ap counted (sym (called-if v path one ∙ append-nil (called one)))

pub count_while : (v : VarId) (path : List ℕ) (one : Tree)
    → counted (called one) ≡ counted (called (While v path one))
count_while v path one = ap counted (sym (called-while v path one ∙ append-nil (called one)))
