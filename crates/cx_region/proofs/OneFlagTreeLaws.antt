-- A flag that is followed through a tree, by its parts.
use Rattle.std.proofs.Common.{◌≡◌, ℕ, zero, suc, ◌+◌, ◌<◌, ◌≤◌, Bool, true, false, refl, sym, ap, subst, ◌∙◌, List, [], ◌∷◌, ◌++◌, length, get_or, drop, Vec, Result, Ok, Err, inl, inr}
use Rattle.std.specs.declared.alloc.Global.{Global}
use Rattle.std.proofs.lemmas.List.{drop_more, drop_all}
use Rattle.cx_plan.specs.declared.variable.VarId.{VarId}
use Rattle.cx_plan.specs.declared.job.Job.{Job}
use Rattle.cx_plan.specs.declared.tree.Tree.{Tree, Seq, Call, Sync, If, While, Seq', If', While', Row_of-Tree, end_of-Tree, more_of-Tree, items-the_row-Tree, items_hidden-the_row-Tree-0}
use Rattle.cx_plan.specs.Lookups.{is_empty, has_none}
use Rattle.cx_plan.specs.Regions.{Act, Turns, Syncs, Tests}
use Rattle.cx_plan.specs.Paths.{Mark, Meets, letter_n, letter_x, Then, Just, Loop, Path, PathIn}
use Rattle.cx_region.specs.declared.witness.Witness.{Witness}
use Rattle.cx_region.specs.declared.witness.Followed.{Followed}
use Rattle.cx_region.specs.declared.witness.WitnessStop.{WitnessStop}
use Rattle.cx_region_flags.specs.AllPaths.{Branch, Turning, PathOfTrees}
use Rattle.cx_region.specs.Witnesses.{Stop}
use Rattle.cx_region.specs.OneFlag.{GoOnBy, GoesBy}
use Rattle.cx_region.specs.declared.one_flag_tree.Rounds.{Rounds}
use Rattle.cx_region.proofs.WitnessLaws.{Same, goes-nothing, goes-stop-first}
use Rattle.cx_region.proofs.OneFlagLaws.{Passed, passed-then, by-same, by-weaker}

-- ---- some path

mutual
  pub some_path : (t : Tree) → (marks : List Mark) × Path t marks
  some_path (Seq' shape all) = some_row all
  some_path (Call k) = (Meets (Turns k) ∷ [], refl)
  some_path (Sync vars path) = (Meets (Syncs vars path) ∷ [], refl)
  some_path (If' v path shape one) = (Meets (Tests v path) ∷ letter_n ∷ [], inr refl)
  some_path (While' v path shape one) = (Meets (Tests v path) ∷ letter_x ∷ [], (0, refl))

  some_row : {m : _} (row : Row_of-Tree m) → (marks : List Mark) × PathIn row marks
  some_row end_of-Tree = ([], refl)
  some_row (more_of-Tree tree rest) =
      let a = some_path tree in
      let b = some_row rest in
      (a.0 ++ b.0, (a.0, b.0, a.1, b.1, refl))

pub some_trees : (ts : List Tree) → (marks : List Mark) × PathOfTrees ts marks
some_trees [] = ([], refl)
some_trees (t ∷ ts) =
    let a = some_path t in
    let b = some_trees ts in
    (a.0 ++ b.0, (a.0, b.0, a.1, b.1, refl))

-- ---- the paths of a tree, and those of its parts

same-row : (n : _) (row : Row_of-Tree n)
    → Same (PathOfTrees (items-the_row-Tree n row)) (PathIn row)
same-row n end_of-Tree = record { into = λ marks on. on; back = λ marks on. on }
same-row n (more_of-Tree one rest) =
    record {
      into = λ marks on. (on.0, on.1, on.2, (same-row _ rest).into on.1 on.3, on.4);
      back = λ marks on. (on.0, on.1, on.2, (same-row _ rest).back on.1 on.3, on.4);
    }

abbrev row_of : Tree → (n : _) × Row_of-Tree n
row_of (Seq' shape row) = (_, row)
row_of _ = (_, end_of-Tree)

pub same-seq : (trees : List Tree) → Same (PathOfTrees trees) (Path (Seq trees))
same-seq trees =
    let r = row_of (Seq trees) in
    subst (λ ts. Same (PathOfTrees ts) (Path (Seq trees))) (items_hidden-the_row-Tree-0 trees)
    (same-row r.0 r.1)

alone : (P : List Mark → Type 0) → Same P (Then P (Just []))
alone P =
    record {
      into = λ marks on. (marks, [], on, refl, sym (nil marks));
      back = λ marks on. subst P (sym (on.4 ∙ ap (λ b. on.0 ++ b) on.3 ∙ nil on.0)) on.2;
    }
  where
    nil : (a : List Mark) → a ++ [] ≡ a
    nil [] = refl
    nil (x ∷ a) = ap (λ b. x ∷ b) (nil a)

same-branch-of : (test : Act) (P Q : List Mark → Type 0) → Same P Q
    → Same (Branch test P) (Branch test Q)
same-branch-of test P Q same =
    record { into = λ marks on. into marks on; back = λ marks on. back marks on }
  where
    into : (marks : List Mark) → Branch test P marks → Branch test Q marks
    into marks (inl (a, b, here, on, all)) = inl (a, b, here, same.into b on, all)
    into marks (inr on) = inr on

    back : (marks : List Mark) → Branch test Q marks → Branch test P marks
    back marks (inl (a, b, here, on, all)) = inl (a, b, here, same.back b on, all)
    back marks (inr on) = inr on

loop-of : (test : Act) (P Q : List Mark → Type 0) → ((marks : List Mark) → P marks → Q marks)
    → (n : ℕ) (marks : List Mark) → Loop test P n marks → Loop test Q n marks
loop-of test P Q into zero marks on = on
loop-of test P Q into (suc n) marks (a, b, here, (c, d, on, rest, is), all) =
    (a, b, here, (c, d, into c on, loop-of test P Q into n d rest, is), all)

same-turning-of : (test : Act) (P Q : List Mark → Type 0) → Same P Q
    → Same (Turning test P) (Turning test Q)
same-turning-of test P Q same =
    record {
      into = λ marks on. (on.0, loop-of test P Q same.into on.0 marks on.1);
      back = λ marks on. (on.0, loop-of test Q P same.back on.0 marks on.1);
    }

same-if : (v : VarId) (path : List ℕ) (one : Tree)
    → Same (Branch (Tests v path) (Path one)) (Path (If v path one))
unfolding Rattle.cx_plan.specs.declared.tree.Tree.TheBlock.hidden-the_row-Tree-1
    denote.Hole.Carrier.hidden
same-if v path one = same-branch-of (Tests v path) (Path one) (Then (Path one) (Just []))
    (alone (Path one))

same-while : (v : VarId) (path : List ℕ) (one : Tree)
    → Same (Turning (Tests v path) (Path one)) (Path (While v path one))
unfolding Rattle.cx_plan.specs.declared.tree.Tree.TheBlock.hidden-the_row-Tree-1
    denote.Hole.Carrier.hidden
same-while v path one = same-turning-of (Tests v path) (Path one) (Then (Path one) (Just []))
    (alone (Path one))

-- ---- what comes of the ways through a tree

pub goes-seq : (job : Job) (rounds : Rounds) (x : Followed) (t : Tree) (trees slice : List Tree)
    (old : List Witness) (r : Result (Vec Witness Global) WitnessStop) → t ≡ Seq trees
    → slice ≡ trees → GoesBy job rounds x (PathOfTrees slice) old r
    → GoesBy job rounds x (Path t) old r
goes-seq job rounds x t trees slice old r at lent g =
    subst (λ (t : Tree). GoesBy job rounds x (Path t) old r) (sym at)
    (by-same job rounds x (PathOfTrees trees) (Path (Seq trees)) old r (same-seq trees)
    (subst (λ ts. GoesBy job rounds x (PathOfTrees ts) old r) lent g))

pub goes-call : (job : Job) (rounds : Rounds) (x : Followed) (t : Tree) (k : ℕ) (old : List Witness)
    (r : Result (Vec Witness Global) WitnessStop) → t ≡ Call k
    → GoesBy job rounds x (Just (Meets (Turns k) ∷ [])) old r → GoesBy job rounds x (Path t) old r
goes-call job rounds x t k old r at g =
    subst (λ (t : Tree). GoesBy job rounds x (Path t) old r) (sym at) g

pub goes-sync : (job : Job) (rounds : Rounds) (x : Followed) (t : Tree) (vars lent : List VarId)
    (path lent_path : List ℕ) (old : List Witness) (r : Result (Vec Witness Global) WitnessStop)
    → t ≡ Sync vars path → lent ≡ vars → lent_path ≡ path
    → GoesBy job rounds x (Just (Meets (Syncs lent lent_path) ∷ [])) old r
    → GoesBy job rounds x (Path t) old r
goes-sync job rounds x t vars lent path lent_path old r at a b g =
    subst (λ (t : Tree). GoesBy job rounds x (Path t) old r) (sym at)
    (subst (λ vs. GoesBy job rounds x (Just (Meets (Syncs vs path) ∷ [])) old r) a
    (subst (λ p. GoesBy job rounds x (Just (Meets (Syncs lent p) ∷ [])) old r) b g))

pub goes-if : (job : Job) (rounds : Rounds) (x : Followed) (t : Tree) (v : VarId)
    (path lent_path : List ℕ) (one lent_one : Tree) (old : List Witness)
    (r : Result (Vec Witness Global) WitnessStop) → t ≡ If v path one → lent_path ≡ path
    → lent_one ≡ one → GoesBy job rounds x (Branch (Tests v lent_path) (Path lent_one)) old r
    → GoesBy job rounds x (Path t) old r
goes-if job rounds x t v path lent_path one lent_one old r at a b g =
    subst (λ (t : Tree). GoesBy job rounds x (Path t) old r) (sym at)
    (by-same job rounds x (Branch (Tests v path) (Path one)) (Path (If v path one)) old r
    (same-if v path one)
    (subst (λ p. GoesBy job rounds x (Branch (Tests v p) (Path one)) old r) a
    (subst (λ (u : Tree). GoesBy job rounds x (Branch (Tests v lent_path) (Path u)) old r)
    b g)))

pub goes-while : (job : Job) (rounds : Rounds) (x : Followed) (t : Tree) (v : VarId)
    (path lent_path : List ℕ) (one lent_one : Tree) (old : List Witness)
    (r : Result (Vec Witness Global) WitnessStop) → t ≡ While v path one → lent_path ≡ path
    → lent_one ≡ one → GoesBy job rounds x (Turning (Tests v lent_path) (Path lent_one)) old r
    → GoesBy job rounds x (Path t) old r
goes-while job rounds x t v path lent_path one lent_one old r at a b g =
    subst (λ (t : Tree). GoesBy job rounds x (Path t) old r) (sym at)
    (by-same job rounds x (Turning (Tests v path) (Path one)) (Path (While v path one)) old r
    (same-while v path one)
    (subst (λ p. GoesBy job rounds x (Turning (Tests v p) (Path one)) old r) a
    (subst (λ (u : Tree). GoesBy job rounds x (Turning (Tests v lent_path) (Path u)) old r)
    b g)))

-- ---- trees, one after another

pub passed-tree : (job : Job) (rounds : Rounds) (x : Followed) (all : List Tree) (i : ℕ) (t : Tree)
    (first now mid : List Witness) → i < length all → t ≡ get_or all i t
    → GoOnBy job rounds x (Path t) now mid
    → Passed job rounds x (PathOfTrees all) (PathOfTrees (drop i all)) first now
    → Passed job rounds x (PathOfTrees all) (PathOfTrees (drop (i + 1) all)) first mid
passed-tree job rounds x all i t first now mid below is one passed =
    let here : drop i all ≡ t ∷ drop (i + 1) all =
    drop_more all i t below ∙ ap (λ (u : Tree). u ∷ drop (i + 1) all) (sym is) in
    passed-then job rounds x (PathOfTrees all) (Path t) (PathOfTrees (drop (i + 1) all))
    first now mid one
    (subst (λ ts. Passed job rounds x (PathOfTrees all) (PathOfTrees ts) first now) here passed)

pub stop-tree : (job : Job) (rounds : Rounds) (x : Followed) (all : List Tree) (i : ℕ) (t : Tree)
    (first now : List Witness) (stop : WitnessStop) → i < length all → t ≡ get_or all i t
    → Stop job (Path t) now stop
    → Passed job rounds x (PathOfTrees all) (PathOfTrees (drop i all)) first now
    → Stop job (PathOfTrees all) first stop
stop-tree job rounds x all i t first now stop below is s passed =
    let rest = drop (i + 1) all in
    let here : drop i all ≡ t ∷ rest =
    drop_more all i t below ∙ ap (λ (u : Tree). u ∷ rest) (sym is) in
    passed.goes_on (Err stop)
    (subst (λ ts. Stop job (PathOfTrees ts) now stop) (sym here)
    (goes-stop-first job (Path t) (PathOfTrees rest) now stop (some_trees rest) s))

pub passed-all : (job : Job) (rounds : Rounds) (x : Followed) (all : List Tree) (i : ℕ)
    (first : List Witness) (now : Vec Witness Global) → length all ≤ i
    → Passed job rounds x (PathOfTrees all) (PathOfTrees (drop i all)) first now.items
    → GoOnBy job rounds x (PathOfTrees all) first now.items
passed-all job rounds x all i first now past passed =
    passed.goes_on (Ok now)
    (subst (λ ts. GoOnBy job rounds x (PathOfTrees ts) now.items now.items)
    (sym (drop_all i all past))
    (by-weaker job rounds x (Just []) now.items now.items (goes-nothing job x now.items)))

-- ---- trees without anything in them

abbrev pub is_nothing : List Tree → Bool
is_nothing [] = true
is_nothing (t ∷ ts) = false

none_row : (n : _) (row : Row_of-Tree n) → has_none row ≡ is_nothing (items-the_row-Tree n row)
none_row n end_of-Tree = refl
none_row n (more_of-Tree one rest) = refl

pub empty-seq : (trees : List Tree) → is_empty (Seq trees) ≡ is_nothing trees
empty-seq trees =
    let r = row_of (Seq trees) in
    none_row r.0 r.1 ∙ ap is_nothing (items_hidden-the_row-Tree-0 trees)

nothing-told : (told : Bool) (trees : List Tree) → (told ≡ true → trees ≡ [])
    → (trees ≡ [] → told ≡ true) → told ≡ is_nothing trees
nothing-told true [] one two = refl
nothing-told true (t ∷ ts) one two = absurd (by (one refl))
  where
    by : t ∷ ts ≡ [] → ⊥
    by e = absurd (cc)
nothing-told false [] one two = two refl
nothing-told false (t ∷ ts) one two = refl

pub empty-told : (t : Tree) (trees : List Tree) (told : Bool) → t ≡ Seq trees
    → (told ≡ true → trees ≡ []) → (trees ≡ [] → told ≡ true) → told ≡ is_empty t
empty-told t trees told at one two =
    nothing-told told trees one two ∙ sym (ap is_empty at ∙ empty-seq trees)
