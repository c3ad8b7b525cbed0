-- The operations of trees by their parts, and how many there are.
use Rattle.std.proofs.Common.{◌≡◌, ℕ, zero, suc, ◌+◌, ◌*◌, ◌^◌, ◌≤◌, ◌<◌, refl, sym, ap, ◌∙◌, subst, arith, List, [], ◌∷◌, ◌++◌, length, get_or, drop, append_assoc, length-append}
use Rattle.std.proofs.lemmas.List.{append-nil, drop_more, drop_all, get_or_default}
use Rattle.std.proofs.lemmas.List.Sums.{sum-map, sum_by-cons}
use Rattle.std.specs.Prelude.{Result, OnOk, All, AllPairs}
use Rattle.cx_plan.specs.declared.variable.VarId.{VarId}
use Rattle.cx_plan.specs.declared.item.ItemKind.{ItemKind}
use Rattle.cx_plan.specs.declared.item.ItemKind.TheVariants.{Cell, Scalar, Sum, Least, Greatest, Count}
use Rattle.cx_plan.specs.declared.tree.Tree.{Tree, Seq, Call, Sync, If, While, Seq', If', While', Row_of-Tree, end_of-Tree, more_of-Tree, items-the_row-Tree, items_hidden-the_row-Tree-0}
use Rattle.cx_plan.specs.declared.job.Job.{Job}
use Rattle.cx_plan.specs.Setups.{Setup, setup_of}
use Rattle.cx_plan.specs.Lookups.{item, bin, bin_count}
use Rattle.cx_plan.specs.Sizes.{nodes, row_nodes, all_nodes}
use Rattle.cx_plan.specs.Whole.{IsWhole, IsStored}
use Rattle.cx_flat.specs.declared.op.Op.{Op}
use Rattle.cx_flat.specs.declared.op.Op.TheVariants.{Post, Take, Again, Rotate, Due, Written, Skip, Next, Save, Halt}
use Rattle.cx_plan.specs.Lookups.{start_bins, step_bins, end_bins, PRESTEP, EVOL, POSTSTEP, CHECKPOINT, ANALYSIS}
use Rattle.cx_flat.specs.Code.{item_code, sync_code, if_code, while_code, tree_code, row_code, trees_code, bins_code, checkpoint_code, before_code, pieces_code, from_code, start_code, code}

-- ---- a tree's parts

rows_code : (n : _) (setup : Setup) (row : Row_of-Tree n)
    → row_code setup row ≡ trees_code setup (items-the_row-Tree n row)
rows_code n setup end_of-Tree = refl
rows_code n setup (more_of-Tree one rest) =
    ap (λ l. tree_code setup one ++ l) (rows_code _ setup rest)

abbrev row_of : Tree → (n : _) × Row_of-Tree n
row_of (Seq' shape row) = (_, row)
row_of _ = (_, end_of-Tree)

pub seq_code : (setup : Setup) (trees : List Tree)
    → tree_code setup (Seq trees) ≡ trees_code setup trees
seq_code setup trees =
    let r = row_of (Seq trees) in
    rows_code r.0 setup r.1 ∙ ap (trees_code setup) (items_hidden-the_row-Tree-0 trees)

pub if_tree : (setup : Setup) (v : VarId) (path : List ℕ) (one : Tree)
    → tree_code setup (If v path one) ≡ if_code v path (tree_code setup one)
unfolding Rattle.cx_plan.specs.declared.tree.Tree.TheBlock.hidden-the_row-Tree-1
    denote.Hole.Carrier.hidden
if_tree setup v path one = ap (if_code v path) (append-nil (tree_code setup one))

pub while_tree : (setup : Setup) (v : VarId) (path : List ℕ) (one : Tree)
    → tree_code setup (While v path one) ≡ while_code v path (tree_code setup one)
unfolding Rattle.cx_plan.specs.declared.tree.Tree.TheBlock.hidden-the_row-Tree-1
    denote.Hole.Carrier.hidden
while_tree setup v path one = ap (while_code v path) (append-nil (tree_code setup one))

-- ---- a SYNC grows by a direction

pub sync_more : (vars : List VarId) (path : List ℕ) (d count : ℕ)
    → sync_code vars path d (suc count)
    ≡ sync_code vars path d count ++ (Post (d + count) vars ∷ Take (d + count) vars path ∷ [])
sync_more vars path d zero = let e : d ≡ d + 0 = omega arith in
    ap (λ k. Post k vars ∷ Take k vars path ∷ []) e
sync_more vars path d (suc count) =
    let e : suc d + count ≡ d + suc count = omega arith in
    ap (λ l. Post d vars ∷ Take d vars path ∷ l)
    (sync_more vars path (suc d) count
    ∙ ap (λ k. sync_code vars path (suc d) count ++ (Post k vars ∷ Take k vars path ∷ [])) e)

-- ---- how many operations there are

sync_length : (vars : List VarId) (path : List ℕ) (d count : ℕ)
    → length (sync_code vars path d count) ≡ 2 * count
sync_length vars path d zero = refl
sync_length vars path d (suc count) = omega (arith, sync_length vars path (suc d) count)

item_length : (kind : ItemKind) (k : ℕ) → length (item_code kind k) ≤ 2
item_length Cell k = omega arith
item_length Scalar k = omega arith
item_length Sum k = omega arith
item_length Least k = omega arith
item_length Greatest k = omega arith
item_length Count k = omega arith

mutual
  pub tree_length : (setup : Setup) → setup.shape.dims ≤ 3 → (t : Tree)
      → length (tree_code setup t) ≤ 6 * nodes t
  tree_length setup few (Seq' shape all) = omega (arith, row_length setup few all)
  tree_length setup few (Call k) = omega (arith, item_length (item setup k).kind k)
  tree_length setup few (Sync vars path) = omega (arith, sync_length vars path 0 setup.shape.dims)
  tree_length setup few (If' v path shape one) = omega (arith, row_length setup few one)
  tree_length setup few (While' v path shape one) =
      omega (
        arith,
        row_length setup few one,
        length-append (row_code setup one) (Again (suc (length (row_code setup one))) ∷ []),
      )

  row_length : {m : _} (setup : Setup) → setup.shape.dims ≤ 3 → (row : Row_of-Tree m)
      → length (row_code setup row) ≤ 6 * row_nodes row
  row_length setup few end_of-Tree = omega arith
  row_length setup few (more_of-Tree one rest) =
      omega (
        arith,
        tree_length setup few one,
        row_length setup few rest,
        length-append (tree_code setup one) (row_code setup rest),
      )

-- ---- one after another

-- the operations so far, and those of the trees that are left, are those of all; none of these has
-- more than all
pub record Pushed (setup : Setup) (all rest : List Tree) (first now : List Op) : Type 0 where
  pub shorter : length (trees_code setup rest) ≤ length (trees_code setup all)
  pub whole : length (trees_code setup all) < 2 ^ 31
      → now ++ trees_code setup rest ≡ first ++ trees_code setup all

pub pushed_none : (setup : Setup) (all : List Tree) (first : List Op)
    → Pushed setup all all first first
pushed_none setup all first = record { shorter = omega arith; whole = λ _. refl }

pub pushed_next : (setup : Setup) (all : List Tree) (i : ℕ) (t : Tree) (first now new : List Op)
    → i < length all → t ≡ get_or all i t
    → Pushed setup all (drop i all) first now
    → (length (tree_code setup t) < 2 ^ 31 → new ≡ now ++ tree_code setup t)
    → Pushed setup all (drop (i + 1) all) first new
pushed_next setup all i t first now new below is p added =
    let here : drop i all ≡ t ∷ drop (i + 1) all =
    drop_more all i t below ∙ ap (λ (x : Tree). x ∷ drop (i + 1) all) (sym is) in
    let rest = trees_code setup (drop (i + 1) all) in
    let both : length (tree_code setup t) + length rest ≤ length (trees_code setup all) =
    subst (λ n. n ≤ length (trees_code setup all))
    (ap (λ ts. length (trees_code setup ts)) here ∙ length-append (tree_code setup t) rest)
    p.shorter in
    record {
      shorter = omega arith;
      whole = λ few.
          let new_is : new ≡ now ++ tree_code setup t = added (omega arith) in
          ap (λ ops. ops ++ rest) new_is ∙ append_assoc now (tree_code setup t) rest
          ∙ ap (λ ts. now ++ trees_code setup ts) (sym here) ∙ p.whole few;
    }

pub pushed_all : (setup : Setup) (all : List Tree) (i : ℕ) (first now : List Op) → length all ≤ i
    → Pushed setup all (drop i all) first now
    → length (trees_code setup all) < 2 ^ 31 → now ≡ first ++ trees_code setup all
pushed_all setup all i first now past p few =
    sym (append-nil now) ∙ ap (λ ts. now ++ trees_code setup ts) (sym (drop_all i all past))
    ∙ p.whole few

-- ---- what a call adds

pub sync_grown : (vars : List VarId) (path : List ℕ) (d : ℕ) (first now new : List Op)
    → now ≡ first ++ sync_code vars path 0 d → new ≡ now ++ sync_code vars path d 1
    → new ≡ first ++ sync_code vars path 0 (d + 1)
sync_grown vars path d first now new a b =
    let s : suc d ≡ d + 1 = omega arith in
    let z : d ≡ 0 + d = omega arith in
    let grown : sync_code vars path 0 d ++ sync_code vars path d 1 ≡ sync_code vars path 0 (suc d) =
    ap (λ k. sync_code vars path 0 d ++ (Post k vars ∷ Take k vars path ∷ [])) z
    ∙ sym (sync_more vars path 0 d) in
    b ∙ ap (λ l. l ++ sync_code vars path d 1) a
    ∙ append_assoc first (sync_code vars path 0 d) (sync_code vars path d 1)
    ∙ ap (λ l. first ++ l) grown ∙ ap (λ n. first ++ sync_code vars path 0 n) s

-- what is added of a tree is what is added of its parts
pub seq_pushed : {E : Type 0} (setup : Setup) (t : Tree) (trees slice : List Tree)
    (r : Result (Unit {0}) E) (old new : List Op) → t ≡ Seq trees → slice ≡ trees
    → (length (trees_code setup slice) < 2 ^ 31 → OnOk r (new ≡ old ++ trees_code setup slice))
    → length (tree_code setup t) < 2 ^ 31 → OnOk r (new ≡ old ++ tree_code setup t)
seq_pushed setup t trees slice r old new is lent pushed few =
    let e : trees_code setup slice ≡ tree_code setup t =
    ap (trees_code setup) lent ∙ sym (seq_code setup trees) ∙ ap (tree_code setup) (sym is) in
    subst (λ (ops : List Op). OnOk r (new ≡ old ++ ops)) e
    (pushed (subst (λ (ops : List Op). length ops < 2 ^ 31) (sym e) few))

pub if_pushed : {E : Type 0} (setup : Setup) (t : Tree) (v : VarId) (path : List ℕ)
    (one lent_one : Tree) (r : Result (Unit {0}) E) (old new : List Op) → t ≡ If v path one
    → lent_one ≡ one
    → (length (tree_code setup lent_one) < 2 ^ 31
    → OnOk r (new ≡ old ++ if_code v path (tree_code setup lent_one)))
    → length (tree_code setup t) < 2 ^ 31 → OnOk r (new ≡ old ++ tree_code setup t)
if_pushed setup t v path one lent_one r old new is lent pushed few =
    let e : if_code v path (tree_code setup lent_one) ≡ tree_code setup t =
    ap (λ (u : Tree). if_code v path (tree_code setup u)) lent ∙ sym (if_tree setup v path one)
    ∙ ap (tree_code setup) (sym is) in
    let n : suc (length (tree_code setup lent_one)) ≡ length (tree_code setup t) = ap length e in
    subst (λ (ops : List Op). OnOk r (new ≡ old ++ ops)) e (pushed (omega arith))

pub while_pushed : {E : Type 0} (setup : Setup) (t : Tree) (v : VarId) (path : List ℕ)
    (one lent_one : Tree) (r : Result (Unit {0}) E) (old new : List Op) → t ≡ While v path one
    → lent_one ≡ one
    → (length (tree_code setup lent_one) < 2 ^ 31
    → OnOk r (new ≡ old ++ while_code v path (tree_code setup lent_one)))
    → length (tree_code setup t) < 2 ^ 31 → OnOk r (new ≡ old ++ tree_code setup t)
while_pushed setup t v path one lent_one r old new is lent pushed few =
    let body = tree_code setup lent_one in
    let e : while_code v path body ≡ tree_code setup t =
    ap (λ (u : Tree). while_code v path (tree_code setup u)) lent
    ∙ sym (while_tree setup v path one) ∙ ap (tree_code setup) (sym is) in
    let n : length (while_code v path body) ≡ length (tree_code setup t) = ap length e in
    let m : length (body ++ Again (suc (length body)) ∷ []) ≡ length body + 1 =
    length-append body (Again (suc (length body)) ∷ []) in
    subst (λ (ops : List Op). OnOk r (new ≡ old ++ ops)) e (pushed (omega arith))

-- ---- a whole job's bins

-- a bin of a whole job has far fewer than 2^31 operations
nodes_of_all : (trees : List Tree) (i : ℕ) (d : Tree) → i < length trees
    → nodes (get_or trees i d) ≤ all_nodes trees
nodes_of_all [] i d l = absurd (omega arith)
nodes_of_all (t ∷ ts) i d l =
    let all : all_nodes (t ∷ ts) ≡ nodes t + all_nodes ts =
    sum-map nodes (t ∷ ts) ∙ sum_by-cons nodes t ts
    ∙ ap (λ n. nodes t + n) (sym (sum-map nodes ts)) in
    go (λ k h. nodes_of_all ts k d h) i l all
  where
    go : ((k : ℕ) → k < length ts → nodes (get_or ts k d) ≤ all_nodes ts) → (k : ℕ)
        → k < suc (length ts) → all_nodes (t ∷ ts) ≡ nodes t + all_nodes ts
        → nodes (get_or (t ∷ ts) k d) ≤ all_nodes (t ∷ ts)
    go others zero h e = omega arith
    go others (suc k) h e = omega (arith, others k (omega arith))

pub bin_length : (job : Job) → IsWhole job → (b : ℕ) → b < bin_count
    → length (tree_code (setup_of job) (bin (setup_of job) b)) ≤ 24576
bin_length job whole b l =
    let n = nodes_of_all job.plan.bins b (Seq []) (omega (arith, whole.bins)) in
    omega (
      arith,
      tree_length (setup_of job) whole.shape.most (bin (setup_of job) b),
      whole.nodes_limit,
    )

pub pushed_bin : {E : Type 0} (job : Job) → IsWhole job → (b : ℕ) → b < bin_count → (t : Tree)
    → t ≡ get_or job.plan.bins b t → (r : Result (Unit {0}) E) (old new : List Op)
    → (length (tree_code (setup_of job) t) < 2 ^ 31
    → OnOk r (new ≡ old ++ tree_code (setup_of job) t))
    → OnOk r (new ≡ old ++ (tree_code (setup_of job) (bin (setup_of job) b) ++ []))
pushed_bin job whole b l t is r old new pushed =
    let same : t ≡ bin (setup_of job) b =
    is ∙ get_or_default job.plan.bins b t (Seq []) (omega (arith, whole.bins)) in
    let e : tree_code (setup_of job) t ≡ tree_code (setup_of job) (bin (setup_of job) b) ++ [] =
    ap (tree_code (setup_of job)) same
    ∙ sym (append-nil (tree_code (setup_of job) (bin (setup_of job) b))) in
    let n : length (tree_code (setup_of job) t)
    ≡ length (tree_code (setup_of job) (bin (setup_of job) b)) =
    ap (λ (u : Tree). length (tree_code (setup_of job) u)) same in
    subst (λ (ops : List Op). OnOk r (new ≡ old ++ ops)) e
    (pushed (omega (arith, bin_length job whole b l)))

checkpoint_length : (job : Job) → IsWhole job → length (checkpoint_code (setup_of job)) ≤ 24577
checkpoint_length job whole =
    omega (
      arith,
      bin_length job whole CHECKPOINT (omega arith),
      length-append (tree_code (setup_of job) (bin (setup_of job) CHECKPOINT)) (Save ∷ []),
    )

pieces_length : (vars : List VarId) → length (pieces_code vars) ≡ length vars
pieces_length [] = refl
pieces_length (v ∷ vs) = ap suc (pieces_length vs)

-- the operations before ANALYSIS, and from it on, by their pieces
pub before_is : (job : Job) → IsWhole job → (skip : ℕ) (checkpoint step before : List Op)
    → checkpoint ≡ checkpoint_code (setup_of job)
    → step ≡ (Rotate ∷ []) ++ bins_code (setup_of job) step_bins
    → (length checkpoint + 1 < 2 ^ 32 → skip ≡ length checkpoint + 1)
    → before ≡ (step ++ Due skip ∷ []) ++ checkpoint → before ≡ before_code (setup_of job)
before_is job whole skip checkpoint step before a b c d =
    let setup = setup_of job in
    let few : length checkpoint ≤ 24577 =
    subst (λ (ops : List Op). length ops ≤ 24577) (sym a) (checkpoint_length job whole) in
    let e : skip ≡ suc (length (checkpoint_code setup)) =
    c (omega arith) ∙ (let x : length checkpoint + 1 ≡ suc (length checkpoint) = omega arith in
    x) ∙ ap (λ (ops : List Op). suc (length ops)) a in
    d ∙ append_assoc step (Due skip ∷ []) checkpoint
    ∙ ap (λ (ops : List Op). ops ++ Due skip ∷ checkpoint) b
    ∙ ap (λ (n : ℕ). Rotate ∷ bins_code setup step_bins ++ Due n ∷ checkpoint) e
    ∙ ap (λ (ops : List Op). Rotate ∷ bins_code setup step_bins
    ++ Due (suc (length (checkpoint_code setup))) ∷ ops) a

-- ---- outputs

-- numbers that rise are at least as large as their places
at_least : (vs : List VarId) → AllPairs (λ (a b : VarId). a.0 < b.0) vs → (d : VarId) (k : ℕ)
    → k < length vs → k ≤ (get_or vs k d).0
at_least vs rise d zero l = omega arith
at_least vs rise d (suc k) l =
    omega (arith, at_least vs rise d k (omega arith), rise k (suc k) d (omega arith) l)

few_outputs : (job : Job) → IsWhole job → (vs : List VarId) → vs ≡ job.out_vars → length vs ≤ 256
few_outputs job whole [] e = omega arith
few_outputs job whole (v ∷ vs) e =
    let rise = subst (AllPairs (λ (a b : VarId). a.0 < b.0)) (sym e) whole.outputs_rise in
    let stored = subst (All (λ u. IsStored job u 0)) (sym e) whole.outputs in
    omega (
      arith,
      at_least (v ∷ vs) rise v (length vs) (omega arith),
      (stored (length vs) v (omega arith)).0,
      whole.variables_limit,
    )

pub from_is : (job : Job) → IsWhole job → (skip : ℕ) (pieces analysis from : List Op)
    → pieces ≡ pieces_code job.out_vars
    → analysis ≡ tree_code (setup_of job) (bin (setup_of job) ANALYSIS) ++ []
    → (length pieces + 1 < 2 ^ 32 → skip ≡ length pieces + 1)
    → from ≡ (analysis ++ Written skip ∷ []) ++ pieces → from ≡ from_code (setup_of job)
from_is job whole skip pieces analysis from a b c d =
    let setup = setup_of job in
    let tree = tree_code setup (bin setup ANALYSIS) in
    let n : length pieces ≡ length job.out_vars = ap length a ∙ pieces_length job.out_vars in
    let few = few_outputs job whole job.out_vars refl in
    let e : skip ≡ suc (length job.out_vars) =
    c (omega arith) ∙ (let x : length pieces + 1 ≡ suc (length job.out_vars) = omega arith in x)
    in
    d ∙ append_assoc analysis (Written skip ∷ []) pieces
    ∙ ap (λ (ops : List Op). ops ++ Written skip ∷ pieces) (b ∙ append-nil tree)
    ∙ ap (λ (n : ℕ). tree ++ Written n ∷ pieces) e
    ∙ ap (λ (ops : List Op). tree ++ Written (suc (length job.out_vars)) ∷ ops) a

-- ---- all

bins_length : (job : Job) → IsWhole job → length (bins_code (setup_of job) step_bins) ≤ 73728
bins_length job whole =
    let setup = setup_of job in
    let p = tree_code setup (bin setup PRESTEP) in
    let e = tree_code setup (bin setup EVOL) in
    let o = tree_code setup (bin setup POSTSTEP) in
    let x : length (p ++ (e ++ (o ++ []))) ≡ length p + length (e ++ (o ++ [])) =
    length-append p (e ++ (o ++ [])) in
    let y : length (e ++ (o ++ [])) ≡ length e + length (o ++ []) = length-append e (o ++ []) in
    let z : length (o ++ []) ≡ length o = ap length (append-nil o) in
    omega (
      arith,
      bin_length job whole PRESTEP (omega arith),
      bin_length job whole EVOL (omega arith),
      bin_length job whole POSTSTEP (omega arith),
    )

before_length : (job : Job) → IsWhole job → length (before_code (setup_of job)) ≤ 98307
before_length job whole =
    let setup = setup_of job in
    let c = checkpoint_code setup in
    let s = bins_code setup step_bins in
    let x : length (s ++ Due (suc (length c)) ∷ c) ≡ length s + length (Due (suc (length c)) ∷ c) =
    length-append s (Due (suc (length c)) ∷ c) in
    omega (arith, checkpoint_length job whole, bins_length job whole)

from_length : (job : Job) → IsWhole job → length (from_code (setup_of job)) ≤ 24833
from_length job whole =
    let setup = setup_of job in
    let t = tree_code setup (bin setup ANALYSIS) in
    let ps = pieces_code job.out_vars in
    let x : length (t ++ Written (suc (length job.out_vars)) ∷ ps)
    ≡ length t + length (Written (suc (length job.out_vars)) ∷ ps) =
    length-append t (Written (suc (length job.out_vars)) ∷ ps) in
    omega (
      arith,
      bin_length job whole ANALYSIS (omega arith),
      pieces_length job.out_vars,
      few_outputs job whole job.out_vars refl,
    )

grouped : (s k b f n e h : List Op)
    → (((((s ++ k) ++ b) ++ f) ++ n) ++ e) ++ h ≡ s ++ (k ++ ((b ++ (f ++ n)) ++ (e ++ h)))
grouped s k b f n e h = simp append_assoc

pub code_is : (job : Job) → IsWhole job → (skip back : ℕ) (s before from all : List Op)
    → s ≡ bins_code (setup_of job) start_bins → before ≡ before_code (setup_of job)
    → from ≡ from_code (setup_of job)
    → (length before + 1 < 2 ^ 32 → skip ≡ length before + 1)
    → (length before + length from < 2 ^ 32 → back ≡ length before + length from)
    → all ≡ (((((s ++ Skip skip ∷ []) ++ before) ++ from) ++ Next back ∷ [])
    ++ bins_code (setup_of job) end_bins) ++ Halt ∷ []
    → all ≡ code (setup_of job)
code_is job whole skip back s before from all a b c d e f =
    let setup = setup_of job in
    let x : length before ≤ 98307 =
    subst (λ (ops : List Op). length ops ≤ 98307) (sym b) (before_length job whole) in
    let y : length from ≤ 24833 =
    subst (λ (ops : List Op). length ops ≤ 24833) (sym c) (from_length job whole) in
    let p : skip ≡ suc (length (before_code setup)) =
    d (omega arith) ∙ (let q : length before + 1 ≡ suc (length before) = omega arith in q)
    ∙ ap (λ (ops : List Op). suc (length ops)) b in
    let q : back ≡ length (before_code setup) + length (from_code setup) =
    e (omega arith) ∙ ap (λ (ops : List Op). length ops + length from) b
    ∙ ap (λ (ops : List Op). length (before_code setup) + length ops) c in
    let end = bins_code setup end_bins ++ Halt ∷ [] in
    f ∙ grouped s (Skip skip ∷ []) before from (Next back ∷ []) (bins_code setup end_bins)
    (Halt ∷ [])
    ∙ ap (λ (ops : List Op). ops ++ Skip skip ∷ ((before ++ (from ++ Next back ∷ [])) ++ end)) a
    ∙ ap (λ (n : ℕ). start_code setup ++ Skip n ∷ ((before ++ (from ++ Next back ∷ [])) ++ end)) p
    ∙ ap (λ (n : ℕ). start_code setup ++ Skip (suc (length (before_code setup)))
    ∷ ((before ++ (from ++ Next n ∷ [])) ++ end)) q
    ∙ ap (λ (ops : List Op). start_code setup ++ Skip (suc (length (before_code setup)))
    ∷ ((ops ++ (from ++ Next (length (before_code setup) + length (from_code setup)) ∷ []))
    ++ end)) b
    ∙ ap (λ (ops : List Op). start_code setup ++ Skip (suc (length (before_code setup)))
    ∷ ((before_code setup ++ (ops
    ++ Next (length (before_code setup) + length (from_code setup)) ∷ [])) ++ end)) c
