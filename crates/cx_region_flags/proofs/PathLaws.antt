-- The paths through a tree, by its parts.
use Rattle.std.proofs.Common.{◌≡◌, ◌≢◌, ℕ, ◌+◌, ◌<◌, ◌≤◌, refl, sym, ap, subst, ◌∙◌, List, [], ◌∷◌, ◌++◌, length, get_or, drop}
use Rattle.std.specs.List.{All, AllPairs}
use Rattle.std.proofs.lemmas.List.{drop_more, drop_all}
use Rattle.std.proofs.lemmas.List.Elements.{All-nil, All-cons}
use Rattle.cx_plan.specs.declared.variable.VarId.{VarId}
use Rattle.cx_plan.specs.declared.job.Job.{Job}
use Rattle.cx_plan.specs.declared.tree.Tree.{Tree, Seq, Call, Sync, If, While, Seq', Row_of-Tree, end_of-Tree, more_of-Tree, items-the_row-Tree, items_hidden-the_row-Tree-0}
use Rattle.cx_plan.specs.Regions.{Turns, Syncs, Tests}
use Rattle.cx_plan.specs.Paths.{Mark, Meets, Then, Just, Path, PathIn}
use Rattle.cx_plan.specs.Whole.{IsTree, IsRow, IsStoredScalar, IsStoredGrid}
use Rattle.cx_region_flags.specs.declared.flags.LevelFlags.{LevelFlags}
use Rattle.cx_region_flags.specs.AllPaths.{Leads, Branch, Turning, PathOfTrees}
use Rattle.cx_region_flags.proofs.AllPathsLaws.{leads-from, leads-then, leads-nothing}

row_path : (n : _) (row : Row_of-Tree n) (marks : List Mark) → PathIn row marks
    → PathOfTrees (items-the_row-Tree n row) marks
row_path n end_of-Tree marks way = way
row_path n (more_of-Tree one rest) marks way =
    (way.0, way.1, way.2, row_path _ rest way.1 way.3, way.4)

row_trees : (n : _) (job : Job) (row : Row_of-Tree n) → IsRow job row
    → All (IsTree job) (items-the_row-Tree n row)
row_trees n job end_of-Tree is = All-nil (IsTree job)
row_trees n job (more_of-Tree one rest) is =
    All-cons (IsTree job) one (items-the_row-Tree _ rest) is.0 (row_trees _ job rest is.1)

abbrev row_of : Tree → (n : _) × Row_of-Tree n
row_of (Seq' shape row) = (_, row)
row_of _ = (_, end_of-Tree)

path-seq : (trees : List Tree) (marks : List Mark) → Path (Seq trees) marks
    → PathOfTrees trees marks
path-seq trees marks way =
    let r = row_of (Seq trees) in
    subst (λ ts. PathOfTrees ts marks) (items_hidden-the_row-Tree-0 trees)
    (row_path r.0 r.1 marks way)

trees-seq : (job : Job) (trees : List Tree) → IsTree job (Seq trees) → All (IsTree job) trees
trees-seq job trees is =
    let r = row_of (Seq trees) in
    subst (All (IsTree job)) (items_hidden-the_row-Tree-0 trees) (row_trees r.0 job r.1 is)

path-if : (v : VarId) (path : List ℕ) (one : Tree) (marks : List Mark) → Path (If v path one) marks
    → Branch (Tests v path) (Then (Path one) (Just [])) marks
unfolding Rattle.cx_plan.specs.declared.tree.Tree.TheBlock.hidden-the_row-Tree-1
    denote.Hole.Carrier.hidden
path-if v path one marks way = way

path-while : (v : VarId) (path : List ℕ) (one : Tree) (marks : List Mark)
    → Path (While v path one) marks → Turning (Tests v path) (Then (Path one) (Just [])) marks
unfolding Rattle.cx_plan.specs.declared.tree.Tree.TheBlock.hidden-the_row-Tree-1
    denote.Hole.Carrier.hidden
path-while v path one marks way = way

tree-if : (job : Job) (v : VarId) (path : List ℕ) (one : Tree) → IsTree job (If v path one)
    → IsStoredScalar job v × IsTree job one
unfolding Rattle.cx_plan.specs.declared.tree.Tree.TheBlock.hidden-the_row-Tree-1
    denote.Hole.Carrier.hidden
tree-if job v path one is = (is.0, is.1.0)

tree-while : (job : Job) (v : VarId) (path : List ℕ) (one : Tree) → IsTree job (While v path one)
    → IsStoredScalar job v × IsTree job one
unfolding Rattle.cx_plan.specs.declared.tree.Tree.TheBlock.hidden-the_row-Tree-1
    denote.Hole.Carrier.hidden
tree-while job v path one is = (is.0, is.1.0)

-- ---- what stands in a tree

pub in-seq : (job : Job) (t : Tree) (trees : List Tree) → t ≡ Seq trees → IsTree job t
    → All (IsTree job) trees
in-seq job t trees at is = trees-seq job trees (subst (IsTree job) at is)

pub in-call : (job : Job) (t : Tree) (k : ℕ) → t ≡ Call k → IsTree job t → k < length job.items
in-call job t k at is = subst (IsTree job) at is

pub in-sync : (job : Job) (t : Tree) (vars : List VarId) (path : List ℕ) → t ≡ Sync vars path
    → IsTree job t → All (IsStoredGrid job) vars
in-sync job t vars path at is = (tree-sync (subst (IsTree job) at is)).0
  where
    tree-sync : IsTree job (Sync vars path)
        → All (IsStoredGrid job) vars × AllPairs (λ a b. a.0 ≢ b.0) vars
    tree-sync is = is

pub tree-at : (job : Job) (all : List Tree) (i : ℕ) (t : Tree) → i < length all → t ≡ get_or all i t
    → All (IsTree job) all → IsTree job t
tree-at job all i t below at is = subst (IsTree job) (sym at) (is i t below)

pub in-if : (job : Job) (t : Tree) (v : VarId) (path : List ℕ) (one : Tree) → t ≡ If v path one
    → IsTree job t → IsStoredScalar job v × IsTree job one
in-if job t v path one at is = tree-if job v path one (subst (IsTree job) at is)

pub in-while : (job : Job) (t : Tree) (v : VarId) (path : List ℕ) (one : Tree)
    → t ≡ While v path one → IsTree job t → IsStoredScalar job v × IsTree job one
in-while job t v path one at is = tree-while job v path one (subst (IsTree job) at is)

-- ---- where the paths of a tree lead

pub leads-seq : (job : Job) (t : Tree) (trees slice : List Tree) (old new : List LevelFlags)
    → t ≡ Seq trees → slice ≡ trees → Leads job (PathOfTrees slice) old new
    → Leads job (Path t) old new
leads-seq job t trees slice old new at lent l =
    subst (λ (t : Tree). Leads job (Path t) old new) (sym at)
    (leads-from job (Path (Seq trees)) (PathOfTrees trees) old new (path-seq trees)
    (subst (λ ts. Leads job (PathOfTrees ts) old new) lent l))

pub leads-call : (job : Job) (t : Tree) (k : ℕ) (old new : List LevelFlags) → t ≡ Call k
    → Leads job (Just (Meets (Turns k) ∷ [])) old new → Leads job (Path t) old new
leads-call job t k old new at l = subst (λ (t : Tree). Leads job (Path t) old new) (sym at) l

pub leads-sync : (job : Job) (t : Tree) (vars lent : List VarId) (path lent_path : List ℕ)
    (old new : List LevelFlags) → t ≡ Sync vars path → lent ≡ vars → lent_path ≡ path
    → Leads job (Just (Meets (Syncs lent lent_path) ∷ [])) old new → Leads job (Path t) old new
leads-sync job t vars lent path lent_path old new at a b l =
    subst (λ (t : Tree). Leads job (Path t) old new) (sym at)
    (subst (λ vs. Leads job (Just (Meets (Syncs vs path) ∷ [])) old new) a
    (subst (λ p. Leads job (Just (Meets (Syncs lent p) ∷ [])) old new) b l))

pub leads-if : (job : Job) (t : Tree) (v : VarId) (path lent_path : List ℕ) (one lent_one : Tree)
    (old new : List LevelFlags) → t ≡ If v path one → lent_path ≡ path → lent_one ≡ one
    → Leads job (Branch (Tests v lent_path) (Then (Path lent_one) (Just []))) old new
    → Leads job (Path t) old new
leads-if job t v path lent_path one lent_one old new at a b l =
    subst (λ (t : Tree). Leads job (Path t) old new) (sym at)
    (leads-from job (Path (If v path one)) (Branch (Tests v path) (Then (Path one) (Just [])))
    old new (path-if v path one)
    (subst (λ p. Leads job (Branch (Tests v p) (Then (Path one) (Just []))) old new) a
    (subst (λ (u : Tree). Leads job (Branch (Tests v lent_path) (Then (Path u) (Just [])))
    old new) b l)))

pub leads-while : (job : Job) (t : Tree) (v : VarId) (path lent_path : List ℕ) (one lent_one : Tree)
    (old new : List LevelFlags) → t ≡ While v path one → lent_path ≡ path → lent_one ≡ one
    → Leads job (Turning (Tests v lent_path) (Then (Path lent_one) (Just []))) old new
    → Leads job (Path t) old new
leads-while job t v path lent_path one lent_one old new at a b l =
    subst (λ (t : Tree). Leads job (Path t) old new) (sym at)
    (leads-from job (Path (While v path one)) (Turning (Tests v path) (Then (Path one) (Just [])))
    old new (path-while v path one)
    (subst (λ p. Leads job (Turning (Tests v p) (Then (Path one) (Just []))) old new) a
    (subst (λ (u : Tree). Leads job (Turning (Tests v lent_path) (Then (Path u) (Just [])))
    old new) b l)))

alone : (P : List Mark → Type 0) (marks : List Mark) → Then P (Just []) marks → P marks
alone P marks way = subst P (sym (way.4 ∙ ap (λ b. way.0 ++ b) way.3 ∙ nil way.0)) way.2
  where
    nil : (a : List Mark) → a ++ [] ≡ a
    nil [] = refl
    nil (x ∷ a) = ap (λ b. x ∷ b) (nil a)

-- where a turn's ways lead, those of its row lead
pub leads-alone : (job : Job) (P : List Mark → Type 0) (old new : List LevelFlags)
    → Leads job P old new → Leads job (Then P (Just [])) old new
leads-alone job P old new l = leads-from job (Then P (Just [])) P old new (alone P) l

-- ---- trees, one after another

-- what the rest leads to, all lead to
pub record Passing (job : Job) (all rest : List Tree) (first now : List LevelFlags) : Type 0 where
  pub goes_on : (new : List LevelFlags) → Leads job (PathOfTrees rest) now new
      → Leads job (PathOfTrees all) first new

pub passing-none : (job : Job) (all : List Tree) (first : List LevelFlags)
    → Passing job all all first first
passing-none job all first = record { goes_on = λ new l. l }

pub passing-next : (job : Job) (all : List Tree) (i : ℕ) (t : Tree)
    (first now mid : List LevelFlags) → i < length all → t ≡ get_or all i t
    → Leads job (Path t) now mid → Passing job all (drop i all) first now
    → Passing job all (drop (i + 1) all) first mid
passing-next job all i t first now mid below is l p =
    record {
      goes_on = λ new rest.
          let here : drop i all ≡ t ∷ drop (i + 1) all =
          drop_more all i t below ∙ ap (λ (x : Tree). x ∷ drop (i + 1) all) (sym is) in
          p.goes_on new (subst (λ ts. Leads job (PathOfTrees ts) now new) (sym here)
          (leads-then job (Path t) (PathOfTrees (drop (i + 1) all)) now mid new l rest));
    }

pub passing-all : (job : Job) (all : List Tree) (i : ℕ) (first now : List LevelFlags)
    → length all ≤ i → Passing job all (drop i all) first now
    → Leads job (PathOfTrees all) first now
passing-all job all i first now past p =
    p.goes_on now (subst (λ ts. Leads job (PathOfTrees ts) now now) (sym (drop_all i all past))
    (leads-nothing job now))
