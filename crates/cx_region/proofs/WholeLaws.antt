-- Whole jobs: their trees call items that are there.
use Rattle.std.proofs.Common.{◌≡◌, ℕ, ◌+◌, ◌<◌, Bool, true, false, not, ◌&&◌, cond, eqb, refl, sym, ap, ◌∙◌, List, [], ◌∷◌, length, get_or, Some, None, arith}
use Rattle.std.specs.Prelude.{flat_map}
use Rattle.std.specs.List.{All, find, range_with_len}
use Rattle.std.proofs.lemmas.Bool.{eq-eqb, eqb-true}
use Rattle.std.proofs.lemmas.List.Elements.{All-nil, All-cons, All-head, All-tail, All-append, All-get_or}
use Rattle.std.proofs.lemmas.List.Folds.{list_any_at, Any-from_list_any}
use Rattle.std.proofs.lemmas.List.FromFn.{get_or-range_with_len, length-range_with_len}
use Rattle.cx_plan.specs.declared.job.Job.{Job}
use Rattle.cx_plan.specs.declared.tree.Tree.{Tree, Seq, Seq', Call, Sync, If', While', Row_of-Tree, end_of-Tree, more_of-Tree}
use Rattle.cx_plan.specs.Setups.{Setup, setup_of}
use Rattle.cx_plan.specs.Lookups.{bin, item, called, called_in}
use Rattle.cx_plan.specs.Regions.{run_items, has_shape, HasShapes}
use Rattle.cx_plan.specs.Whole.{IsWhole, IsTree, IsRow}
use Rattle.cx_region.specs.Marks.{is_among_items}
use Rattle.cx_region.specs.Shapes.{lacks_shape, first_shapeless}
use Rattle.cx_region_flags.proofs.RangeLaws.{none_of_range}

abbrev IsThere : Job → ℕ → Type 0
IsThere job k = k < length job.items

mutual
  tree_there : (job : Job) (t : Tree) → IsTree job t → All (IsThere job) (called t)
  tree_there job (Seq' shape all) is = row_there job all is
  tree_there job (Call k) is = All-cons (IsThere job) k [] is (All-nil (IsThere job))
  tree_there job (Sync vars path) is = All-nil (IsThere job)
  tree_there job (If' v path shape one) is = row_there job one is.1
  tree_there job (While' v path shape one) is = row_there job one is.1

  row_there : {m : _} (job : Job) (row : Row_of-Tree m) → IsRow job row
      → All (IsThere job) (called_in row)
  row_there job end_of-Tree is = All-nil (IsThere job)
  row_there job (more_of-Tree tree rest) is =
      All-append (IsThere job) (called tree) (called_in rest) (tree_there job tree is.0)
      (row_there job rest is.1)

pub all_there : (job : Job) (f : ℕ → List ℕ) (bs : List ℕ) → All (λ b. All (IsThere job) (f b)) bs
    → All (IsThere job) (flat_map f bs)
all_there job f [] h = All-nil (IsThere job)
all_there job f (b ∷ bs) h =
    All-append (IsThere job) (f b) (flat_map f bs) (All-head (λ b. All (IsThere job) (f b)) b bs h)
    (all_there job f bs (All-tail (λ b. All (IsThere job) (f b)) b bs h))

pub run_there : (job : Job) → IsWhole job → All (IsThere job) (run_items (setup_of job))
run_there job is =
    all_there job (λ b. called (bin (setup_of job) b)) (range_with_len 0 13)
    (λ k d below.
    let at : get_or (range_with_len 0 13) k d ≡ 0 + k = get_or-range_with_len 0 13 k d below in
    let few : get_or (range_with_len 0 13) k d < length job.plan.bins =
    omega (arith, is.bins, length-range_with_len 0 13) in
    tree_there job (bin (setup_of job) (get_or (range_with_len 0 13) k d))
    (All-get_or (IsTree job) job.plan.bins (get_or (range_with_len 0 13) k d) (Seq [])
    few is.trees))

find_none : (p : ℕ → Bool) (xs : List ℕ) → find p xs ≡ None → All (λ k. p k ≡ false) xs
find_none p [] h = All-nil (λ k. p k ≡ false)
find_none p (x ∷ xs) h = by (p x) refl h (λ h. find_none p xs h)
  where
    by : (t : Bool) → p x ≡ t → cond t (Some x) (find p xs) ≡ None
        → (find p xs ≡ None → All (λ k. p k ≡ false) xs) → All (λ k. p k ≡ false) (x ∷ xs)
    by true e h rest = absurd (cc)
    by false e h rest = All-cons (λ k. p k ≡ false) x xs e (rest h)

told : (a s : Bool) → a ≡ true → (a && not s) ≡ false → s ≡ true
told a true e h = refl
told true false e h = absurd (cc)
told false false e h = absurd (cc)

-- no item that is run lacks a shape exactly where each has one
pub shapes_from_none : (job : Job) → IsWhole job → first_shapeless (setup_of job) ≡ None
    → HasShapes (setup_of job)
shapes_from_none job is none = λ i d below.
    let setup = setup_of job in
    let run = run_items setup in
    let n = length job.items in
    let k = get_or run i d in
    let there : k < n = run_there job is i d below in
    let at : get_or (range_with_len 0 n) k 0 ≡ k =
    get_or-range_with_len 0 n k 0 there ∙ omega arith in
    let in_range : k < length (range_with_len 0 n) = omega (arith, length-range_with_len 0 n) in
    let lacks : lacks_shape setup k ≡ false =
    ap (lacks_shape setup) (sym at)
    ∙ find_none (lacks_shape setup) (range_with_len 0 n) none k 0 in_range in
    let among : is_among_items run k ≡ true =
    list_any_at (λ j. eqb j k) run i d below (eq-eqb k k refl) in
    told (is_among_items run k) (has_shape setup (item setup k)) among lacks

pub none_from_shapes : (setup : Setup) → HasShapes setup → first_shapeless setup ≡ None
none_from_shapes setup shapes =
    none_of_range (lacks_shape setup) (length setup.items) 0
    (λ k low high. by k (is_among_items (run_items setup) k) refl)
  where
    by : (k : ℕ) (t : Bool) → is_among_items (run_items setup) k ≡ t → lacks_shape setup k ≡ false
    by k false e = ap (λ t. t && not (has_shape setup (item setup k))) e
    by k true e =
        let any = Any-from_list_any (λ j. eqb j k) (run_items setup) e in
        let at : get_or (run_items setup) any.0 any.1 ≡ k = any.3 ∙ eqb-true any.1 k any.4 in
        let has : has_shape setup (item setup k) ≡ true =
        ap (λ j. has_shape setup (item setup j)) (sym at) ∙ shapes any.0 any.1 any.2 in
        ap (λ t. t && not (has_shape setup (item setup k))) e ∙ ap not has
