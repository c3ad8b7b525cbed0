-- The bins that are run call the first items, one after another.
use Rattle.std.proofs.Common.{◌≡◌, refl, ap, sym, subst, ◌∙◌, ℕ, zero, suc, ◌+◌, ◌≤◌, ◌<◌, Bool, true, false, List, [], ◌∷◌, ◌++◌, length, length-append, get_or, take, Option, Some, None, if◌then◌else◌, arith}
use Rattle.std.specs.Prelude.{All}
use Rattle.std.specs.List.{flat_map, range_with_len}
use Rattle.std.proofs.lemmas.List.Elements.{All-cons}
use Rattle.std.proofs.lemmas.List.FromFn.{get_or-range_with_len, length-range_with_len}
use Rattle.std.proofs.lemmas.List.{append_assoc, append-nil}
use Rattle.cx_plan.specs.Setups.{Setup}
use Rattle.cx_plan.specs.Lookups.{called, bin}
use Rattle.cx_plan.specs.Regions.{run_items}
use Rattle.cx_plan.specs.declared.variable.VarId.{VarId}
use Rattle.cx_plan.specs.declared.tree.Tree.{Tree, Seq, Call, Sync}
use Rattle.cx_plan.specs.declared.tree.Schedule.{Schedule}
use Rattle.cx_order_entries.specs.Counted.{Entry}
use Rattle.cx_order.specs.Meanings.{World, names_of}
use Rattle.cx_order.specs.declared.ordered.Ordered.{Ordered}
use Rattle.cx_order.specs.Files.{Input}
use Rattle.cx_order.specs.Ordering.{IsPlan, world}
use Rattle.cx_order.specs.Plans.{Forest, Done, Then, calls, trees, forests, bin_trees, forest_items, sync_tree, call_tree, with_while, with_if, wrapped}
use Rattle.cx_region.proofs.CalledLaws.{called-seq, called-if, called-while}
use Rattle.cx_job.specs.JobLimits.{run_count}
use Rattle.cx_job.proofs.SupportedLaws.{none_in, in_all}
use Rattle.cx_job.proofs.TreeLaws.{count_items}

-- ---- numbers in their order

-- so many numbers from one on
abbrev numbers : ℕ → ℕ → List ℕ
numbers k zero = []
numbers k (suc n) = k ∷ numbers (k + 1) n

numbers_then : (k a b : ℕ) → numbers k a ++ numbers (k + a) b ≡ numbers k (a + b)
numbers_then k zero b =
    let here : k + 0 ≡ k = omega arith in
    let all : b ≡ 0 + b = omega arith in
    ap (λ n. numbers n b) here ∙ ap (λ n. numbers k n) all
numbers_then k (suc a) b =
    let next : k + suc a ≡ (k + 1) + a = omega arith in
    let all : suc (a + b) ≡ suc a + b = omega arith in
    ap (λ n. k ∷ numbers (k + 1) a ++ numbers n b) next ∙ ap (λ l. k ∷ l) (numbers_then (k + 1) a b)
    ∙ ap (λ n. numbers k n) all

numbers_many : (k n : ℕ) → length (numbers k n) ≡ n
numbers_many k zero = refl
numbers_many k (suc n) = ap suc (numbers_many (k + 1) n)

numbers_below : (k n m : ℕ) → k + n ≤ m → All (λ j. j < m) (numbers k n)
numbers_below k zero m room = none_in (λ j. j < m)
numbers_below k (suc n) m room =
    All-cons (λ j. j < m) k (numbers (k + 1) n) (omega (arith, room))
    (numbers_below (k + 1) n m (omega (arith, room)))

-- ---- what trees call

abbrev all_called : List Tree → List ℕ
all_called ts = flat_map called ts

called_behind : (ts us : List Tree) → all_called (ts ++ us) ≡ all_called ts ++ all_called us
called_behind [] us = refl
called_behind (t ∷ ts) us =
    ap (λ l. called t ++ l) (called_behind ts us)
    ∙ sym (append_assoc (called t) (all_called ts) (all_called us))

syncs_call_none : (path : List ℕ) (vars : List VarId) → all_called (sync_tree path vars) ≡ []
syncs_call_none path [] = refl
syncs_call_none path (v ∷ vs) = refl

call_calls : (path : List ℕ) (vars : List VarId) (k : ℕ) → called (call_tree path vars k) ≡ k ∷ []
call_calls path [] k = refl
call_calls path (v ∷ vs) k = called-seq (Call k ∷ Sync (v ∷ vs) path ∷ [])

under_while : (path : List ℕ) (turn : Option VarId) (work : Tree)
    → called (with_while path turn work) ≡ called work
under_while path None work = refl
under_while path (Some v) work = called-while v path work ∙ append-nil (called work)

under_if : (path : List ℕ) (test : Option VarId) (work : Tree)
    → called (with_if path test work) ≡ called work
under_if path None work = refl
under_if path (Some v) work = called-if v path work ∙ append-nil (called work)

under_both : (w : World) (e : Entry) (path : List ℕ) (work : Tree)
    → called (wrapped (names_of w e) path work) ≡ called work
under_both w e path work =
    under_if path (names_of w e).test (with_while path (names_of w e).turn work)
    ∙ under_while path (names_of w e).turn work

work_calls : (group : Bool) (path : List ℕ) (vars : List VarId) (k c : ℕ) (inner : List Tree)
    → all_called inner ≡ numbers k c
    → called (if group then Seq (inner ++ sync_tree path vars) else call_tree path vars k)
    ≡ numbers k (if group then c else 1)
work_calls true path vars k c inner is =
    called-seq (inner ++ sync_tree path vars)
    ∙ called_behind inner (sync_tree path vars)
    ∙ ap (λ l. all_called inner ++ l) (syncs_call_none path vars)
    ∙ append-nil (all_called inner)
    ∙ is
work_calls false path vars k c inner is = call_calls path vars k

trees_call : (w : World) (k : ℕ) (f : Forest) → all_called (trees w k f) ≡ numbers k (calls f)
trees_call w k Done = refl
trees_call w k (Then e path inside rest) =
    let m = names_of w e in
    let c : ℕ = if e.block.group then calls inside else 1 in
    let work : Tree = if e.block.group then Seq (trees w k inside ++ sync_tree path m.sync)
    else call_tree path m.sync k in
    let here : called (wrapped m path work) ≡ numbers k c =
    under_both w e path work
    ∙ work_calls e.block.group path m.sync k (calls inside) (trees w k inside)
    (trees_call w k inside) in
    ap (λ l. l ++ all_called (trees w (k + c) rest)) here
    ∙ ap (λ l. numbers k c ++ l) (trees_call w (k + c) rest)
    ∙ numbers_then k c (calls rest)

bin_calls : (w : World) (k : ℕ) (f : Forest) → called (Seq (trees w k f)) ≡ numbers k (calls f)
bin_calls w k f = called-seq (trees w k f) ∙ trees_call w k f

-- ---- what the first bins call

-- how many items the first bins call
abbrev first_calls : ℕ → List Forest → ℕ
first_calls zero fs = 0
first_calls (suc n) [] = 0
first_calls (suc n) (f ∷ fs) = calls f + first_calls n fs

first_bins_call : (w : World) (n k : ℕ) (fs : List Forest)
    → all_called (take n (bin_trees w k fs)) ≡ numbers k (first_calls n fs)
first_bins_call w zero k fs = refl
first_bins_call w (suc n) k [] = refl
first_bins_call w (suc n) k (f ∷ fs) =
    ap (λ l. l ++ all_called (take n (bin_trees w (k + calls f) fs))) (bin_calls w k f)
    ∙ ap (λ l. numbers k (calls f) ++ l) (first_bins_call w n (k + calls f) fs)
    ∙ numbers_then k (calls f) (first_calls n fs)

-- no more than there are items
first_few : (w : World) (n : ℕ) (fs : List Forest)
    → first_calls n fs ≤ length (flat_map (forest_items w) fs)
first_few w zero fs = omega arith
first_few w (suc n) [] = omega arith
first_few w (suc n) (f ∷ fs) =
    let both = length-append (forest_items w f) (flat_map (forest_items w) fs) in
    let count = count_items w f in
    let others = first_few w n fs in
    omega (arith, both, count, others)

calls_none : (P : ℕ → Type 0) → All P (called (Seq []))
calls_none P = subst (λ l. All P l) (sym (called-seq [])) (none_in P)

bin_below : (w : World) (n k m : ℕ) (fs : List Forest) → k + first_calls n fs ≤ m → (b : ℕ) → b < n
    → All (λ j. j < m) (called (get_or (bin_trees w k fs) b (Seq [])))
bin_below w zero k m fs room b below = absurd (let no : ⊥ = omega (arith, below) in no)
bin_below w (suc n) k m [] room zero below = calls_none (λ j. j < m)
bin_below w (suc n) k m [] room (suc b) below = calls_none (λ j. j < m)
bin_below w (suc n) k m (f ∷ fs) room zero below =
    subst (λ l. All (λ j. j < m) l) (sym (bin_calls w k f))
    (numbers_below k (calls f) m (omega (arith, room)))
bin_below w (suc n) k m (f ∷ fs) room (suc b) below =
    bin_below w n (k + calls f) m fs (omega (arith, room)) b (omega (arith, below))

-- the bins that are run call as many items as the first forests
run_is : (w : World) (fs : List Forest) (plan : Schedule) → plan.bins ≡ bin_trees w 0 fs
    → run_count plan ≡ first_calls 13 fs
run_is w fs plan bins =
    ap (λ ts. length (all_called (take 13 ts))) bins
    ∙ ap (λ (l : List ℕ). length l) (first_bins_call w 13 0 fs)
    ∙ numbers_many 0 (first_calls 13 fs)

-- and the first ones alone
run_below : (w : World) (fs : List Forest) (setup : Setup) → setup.bins ≡ bin_trees w 0 fs
    → All (λ k. k < first_calls 13 fs) (run_items setup)
run_below w fs setup bins =
    let m : ℕ = first_calls 13 fs in
    in_all (λ k. k < m) (λ b. called (bin setup b)) (range_with_len 0 13)
    (λ i d within.
    let b : ℕ = get_or (range_with_len 0 13) i d in
    let at : b ≡ 0 + i = get_or-range_with_len 0 13 i d within in
    let few = length-range_with_len 0 13 in
    subst (λ ts. All (λ k. k < m) (called (get_or ts b (Seq [])))) (sym bins)
    (bin_below w 13 0 m fs (omega arith) b (omega (arith, at, few, within))))

-- of a plan's items, by its bins
pub called_of_plan : (input : Input) (ordered : Ordered) → IsPlan input ordered → (setup : Setup)
    → setup.bins ≡ ordered.plan.bins
    → All (λ k. (k < run_count ordered.plan) × (k < length ordered.items)) (run_items setup)
called_of_plan input ordered plan setup same =
    let w : World = world input plan.c plan.sight in
    let fs : List Forest = forests plan.c.entries plan.orders in
    let bins : ordered.plan.bins ≡ bin_trees w 0 fs =
    ap (λ (o : Ordered). o.plan.bins) plan.is_planned in
    let items : length ordered.items ≡ length (flat_map (forest_items w) fs) =
    ap (λ (o : Ordered). length o.items) plan.is_planned in
    let is : run_count ordered.plan ≡ first_calls 13 fs = run_is w fs ordered.plan bins in
    let few = first_few w 13 fs in
    λ i d within. (let below = run_below w fs setup (same ∙ bins) i d within in
    (omega (arith, is, below), omega (arith, items, few, below)))
