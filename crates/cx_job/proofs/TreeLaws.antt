-- The trees of a plan name items and variables that are there, where the names of its entries do.
use Rattle.std.proofs.Common.{◌≡◌, ◌≢◌, refl, ap, sym, subst, ◌∙◌, ℕ, ◌+◌, ◌≤◌, ◌<◌, Bool, true, false, List, [], ◌∷◌, ◌++◌, length, length-append, Option, Some, None, if◌then◌else◌, arith}
use Rattle.std.specs.Prelude.{All, AllPairs}
use Rattle.std.specs.List.{flat_map}
use Rattle.std.proofs.lemmas.List.Elements.{All-cons, All-append}
use Rattle.cx_plan.specs.Whole.{IsTree, IsRow, IsStoredScalar, IsStoredGrid, IsTouch}
use Rattle.cx_plan.specs.declared.variable.VarId.{VarId}
use Rattle.cx_plan.specs.declared.job.Job.{Job}
use Rattle.cx_plan.specs.declared.tree.Tree.{Tree, Seq, Seq', Call, Sync, If, While, Row_of-Tree, end_of-Tree, more_of-Tree, items-the_row-Tree, items_hidden-the_row-Tree-0}
use mathlib.Core.Former.{Count}
use Rattle.cx_order_entries.specs.Counted.{Entry}
use Rattle.cx_order.specs.Meanings.{World, names_of}
use Rattle.cx_order.specs.Plans.{Forest, Done, Then, calls, trees, bin_trees, forest_items, item_of, sync_tree, call_tree, with_while, with_if, wrapped}
use Rattle.cx_job.proofs.SupportedLaws.{none_in, first_of, others_of}

-- the scalar of an IF or a WHILE, if there is one
abbrev pub IsTurn : Job → Option VarId → Type 0
IsTurn job None = Unit {0}
IsTurn job (Some v) = IsStoredScalar job v

-- An entry's names stand for variables whose level 0 is stored, scalars in tests, and grid
-- functions, each once, in a SYNC; and for levels that are stored in reads and writes.
pub record AreNames (job : Job) (w : World) (e : Entry) : Type 0 where
  pub test : IsTurn job (names_of w e).test
  pub turn : IsTurn job (names_of w e).turn
  pub sync : All (IsStoredGrid job) (names_of w e).sync
  pub once : AllPairs (λ (a b : VarId). a.0 ≢ b.0) (names_of w e).sync
  pub reads : All (IsTouch job) (names_of w e).reads
  pub writes : All (IsTouch job) (names_of w e).writes

abbrev row_in : Tree → (n : Count) × Row_of-Tree n
row_in (Seq' shape row) = (_, row)
row_in _ = (_, end_of-Tree)

row_whole : (job : Job) (n : _) (row : Row_of-Tree n) → All (IsTree job) (items-the_row-Tree n row)
    → IsRow job row
row_whole job n end_of-Tree each = tt
row_whole job n (more_of-Tree one rest) each = (
  first_of (IsTree job) one (items-the_row-Tree _ rest) each,
  row_whole job _ rest (others_of (IsTree job) one (items-the_row-Tree _ rest) each),
)

seq_whole : (job : Job) (ts : List Tree) → All (IsTree job) ts → IsTree job (Seq ts)
seq_whole job ts each =
    let one = row_in (Seq ts) in
    row_whole job one.0 one.1
    (subst (λ us. All (IsTree job) us) (sym (items_hidden-the_row-Tree-0 ts)) each)

if_whole : (job : Job) (v : VarId) (path : List ℕ) (tree : Tree) → IsStoredScalar job v
    → IsTree job tree → IsTree job (If v path tree)
unfolding Rattle.cx_plan.specs.declared.tree.Tree.TheBlock.hidden-the_row-Tree-1
    denote.Hole.Carrier.hidden
if_whole job v path tree scalar is = (scalar, (is, tt))

while_whole : (job : Job) (v : VarId) (path : List ℕ) (tree : Tree) → IsStoredScalar job v
    → IsTree job tree → IsTree job (While v path tree)
unfolding Rattle.cx_plan.specs.declared.tree.Tree.TheBlock.hidden-the_row-Tree-1
    denote.Hole.Carrier.hidden
while_whole job v path tree scalar is = (scalar, (is, tt))

pub count_items : (w : World) (f : Forest) → length (forest_items w f) ≡ calls f
count_items w Done = refl
count_items w (Then e path inside rest) =
    length-append (if e.block.group then forest_items w inside else item_of w e path ∷ [])
    (forest_items w rest)
    ∙ ap (λ n. n + length (forest_items w rest)) (by e.block.group (count_items w inside))
    ∙ ap (λ n. (if e.block.group then calls inside else 1) + n) (count_items w rest)
  where
    by : (b : Bool) → length (forest_items w inside) ≡ calls inside
        → length (if b then forest_items w inside else item_of w e path ∷ [])
        ≡ (if b then calls inside else 1)
    by true h = h
    by false h = refl

module _ (job : Job) where
  under_while : (path : List ℕ) (turn : Option VarId) (work : Tree) → IsTurn job turn
      → IsTree job work → IsTree job (with_while path turn work)
  under_while path None work scalar is = is
  under_while path (Some v) work scalar is = while_whole job v path work scalar is

  under_if : (path : List ℕ) (test : Option VarId) (work : Tree) → IsTurn job test → IsTree job work
      → IsTree job (with_if path test work)
  under_if path None work scalar is = is
  under_if path (Some v) work scalar is = if_whole job v path work scalar is

  sync_whole : (path : List ℕ) (vars : List VarId) → All (IsStoredGrid job) vars
      → AllPairs (λ (a b : VarId). a.0 ≢ b.0) vars → All (IsTree job) (sync_tree path vars)
  sync_whole path [] grid once = none_in (IsTree job)
  sync_whole path (v ∷ vs) grid once =
      All-cons (IsTree job) (Sync (v ∷ vs) path) [] (grid, once) (none_in (IsTree job))

  call_whole : (path : List ℕ) (vars : List VarId) (k : ℕ) → k < length job.items
      → All (IsStoredGrid job) vars → AllPairs (λ (a b : VarId). a.0 ≢ b.0) vars
      → IsTree job (call_tree path vars k)
  call_whole path [] k there grid once = there
  call_whole path (v ∷ vs) k there grid once =
      seq_whole job (Call k ∷ Sync (v ∷ vs) path ∷ [])
      (All-cons (IsTree job) (Call k) (Sync (v ∷ vs) path ∷ []) there
      (All-cons (IsTree job) (Sync (v ∷ vs) path) [] (grid, once) (none_in (IsTree job))))

  work_whole : (group : Bool) (path : List ℕ) (vars : List VarId) (k c : ℕ) (inner : List Tree)
      → All (IsStoredGrid job) vars → AllPairs (λ (a b : VarId). a.0 ≢ b.0) vars
      → (k + c ≤ length job.items → All (IsTree job) inner)
      → k + (if group then c else 1) ≤ length job.items
      → IsTree job (if group then Seq (inner ++ sync_tree path vars) else call_tree path vars k)
  work_whole true path vars k c inner grid once each room =
      seq_whole job (inner ++ sync_tree path vars)
      (All-append (IsTree job) inner (sync_tree path vars) (each room)
      (sync_whole path vars grid once))
  work_whole false path vars k c inner grid once each room =
      call_whole path vars k (omega (arith, room)) grid once

  pub trees_whole : (w : World) → ((e : Entry) → AreNames job w e) → (k : ℕ) (f : Forest)
      → k + calls f ≤ length job.items → All (IsTree job) (trees w k f)
  trees_whole w names k Done room = none_in (IsTree job)
  trees_whole w names k (Then e path inside rest) room =
      let m = names_of w e in
      let c : ℕ = if e.block.group then calls inside else 1 in
      let work : Tree = if e.block.group then Seq (trees w k inside ++ sync_tree path m.sync)
      else call_tree path m.sync k in
      let here : k + c ≤ length job.items = first_room k c (calls rest) (length job.items) room in
      let is : IsTree job work =
      work_whole e.block.group path m.sync k (calls inside) (trees w k inside) (names e).sync
      (names e).once (λ enough. trees_whole w names k inside enough) here in
      All-cons (IsTree job) (wrapped m path work) (trees w (k + c) rest)
      (under_if path m.test (with_while path m.turn work) (names e).test
      (under_while path m.turn work (names e).turn is))
      (trees_whole w names (k + c) rest (next_room k c (calls rest) (length job.items) room))
    where
      first_room : (k c r n : ℕ) → k + (c + r) ≤ n → k + c ≤ n
      first_room k c r n h = omega (arith, h)

      next_room : (k c r n : ℕ) → k + (c + r) ≤ n → (k + c) + r ≤ n
      next_room k c r n h = omega (arith, h)

  -- each call has its item, and each name its variable
  pub bins_whole : (w : World) → ((e : Entry) → AreNames job w e) → (k : ℕ) (fs : List Forest)
      → k + length (flat_map (forest_items w) fs) ≤ length job.items
      → All (IsTree job) (bin_trees w k fs)
  bins_whole w names k [] room = none_in (IsTree job)
  bins_whole w names k (f ∷ fs) room =
      let both = length-append (forest_items w f) (flat_map (forest_items w) fs) in
      let count = count_items w f in
      All-cons (IsTree job) (Seq (trees w k f)) (bin_trees w (k + calls f) fs)
      (seq_whole job (trees w k f) (trees_whole w names k f (omega (arith, both, count, room))))
      (bins_whole w names (k + calls f) fs (omega (arith, both, count, room)))
