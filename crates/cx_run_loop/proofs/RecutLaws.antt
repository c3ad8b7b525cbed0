-- A job that is cut anew is one that a run can go on with.
use Rattle.std.proofs.Common.{◌≡◌, ◌≤◌, ◌<◌, ◌+◌, ◌-◌, ◌⊎◌, inl, inr, ℕ, ℤ, zero, suc, Bool, true, false, List, [], ◌∷◌, Option, Some, None, arith, refl, sym, ◌∙◌, ap, subst}
use Rattle.std.proofs.lemmas.Bool.{cases_lt, leb-true}
use Rattle.std.proofs.lemmas.List.Sums.{sum_by-cons}
use Rattle.std.specs.Prelude.{◌&&◌, get_or, slice_get, nat_le, if◌then◌else◌}
use Rattle.std.specs.List.{list_all, range_with_len, sum_by}
use Rattle.cx_grid.specs.Boxes.{point_count}
use Rattle.cx_plan.specs.declared.item.Item.{Item}
use Rattle.cx_plan.specs.declared.job.Cuts.{Cuts}
use Rattle.cx_plan.specs.declared.job.Job.{Job}
use Rattle.cx_plan.specs.declared.tree.Tree.{Tree, Seq', Call, Sync, If', While', Row_of-Tree, end_of-Tree, more_of-Tree}
use Rattle.cx_plan.specs.declared.variable.VarId.{VarId}
use Rattle.cx_plan.specs.declared.variable.VarInfo.{VarInfo}
use Rattle.cx_plan.specs.Lookups.{item}
use Rattle.cx_plan.specs.Regions.{run_items}
use Rattle.cx_plan.specs.Setups.{setup_of}
use Rattle.cx_plan.specs.Whole.{IsRow, IsTree, IsWhole, level_count}
use Rattle.cx_rule.specs.declared.spec.Spec.{Spec}
use Rattle.cx_rule.specs.Jobs.{FitItem, FitJob}
use Rattle.cx_cut.specs.Cuts.{Parts, part_count, local}
use Rattle.cx_cut.specs.Faults.{cut_fault, parts_of}
use Rattle.cx_cut.proofs.FaultLaws.{is_whole}
use Rattle.cx_chk.specs.declared.checkpoint.Checkpoint.{Checkpoint}
use Rattle.cx_balance.specs.Cutting.{HasAsManyParts, chosen_cut}
use Rattle.cx_balance.specs.Weighing.{HoldsLevels, planes_by, point_weight}
use Rattle.cx_core_buffers.specs.Checkpoints.{HoldsState, total}
use Rattle.cx_core.specs.Starts.{IsReady}
use Rattle.cx_run_loop.specs.Recuts.{all_sweep, has_small_parts, next_cut, swept_cut, weighed_cut, with_cut}

-- ---- tests of all

both_hold : (a b : Bool) → (a && b) ≡ true → (a ≡ true) × (b ≡ true)
both_hold true b e = (refl, e)
both_hold false b e = absurd cc

all_at : {A : Type 0} (f : A → Bool) (xs : List A) (k : ℕ) (x : A) → list_all f xs ≡ true
    → slice_get xs k ≡ Some x → f x ≡ true
all_at f [] k x all there = absurd cc
all_at f (y ∷ ys) zero x all there =
    subst (λ z. f z ≡ true) (some_is y x there) (both_hold (f y) (list_all f ys) all).0
  where
    some_is : {A : Type 0} (a b : A) → Some a ≡ Some b → a ≡ b
    some_is a b e = cc
all_at f (y ∷ ys) (suc k) x all there =
    all_at f ys k x (both_hold (f y) (list_all f ys) all).1 there

all_below : (f : ℕ → Bool) (from count k : ℕ) → list_all f (range_with_len from count) ≡ true
    → from ≤ k → k < from + count → f k ≡ true
all_below f from zero k all low high = absurd (let bad : ⊥ = omega (arith, low, high) in bad)
all_below f from (suc count) k all low high =
    go (cases_lt from k) (both_hold (f from) (list_all f (range_with_len (from + 1) count)) all)
    (λ rest later. all_below f (from + 1) count k rest later (omega (arith, high)))
  where
    go : (from < k) ⊎ (k ≤ from)
        → (f from ≡ true) × (list_all f (range_with_len (from + 1) count) ≡ true)
        → (list_all f (range_with_len (from + 1) count) ≡ true → from + 1 ≤ k → f k ≡ true)
        → f k ≡ true
    go (inl l) parts more = more parts.1 (omega (arith, l))
    go (inr l) parts more =
        let same : from ≡ k = omega (arith, l, low) in
        subst (λ (j : ℕ). f j ≡ true) same parts.0

-- from a number on, in a loop over all numbers below one
abbrev pub all_from : (ℕ → Bool) → (k n : ℕ) → Bool
all_from f k n = list_all f (range_with_len k (n - k))

abbrev pub all_of : (ℕ → Bool) → (n : ℕ) → Bool
all_of f n = list_all f (range_with_len 0 n)

pub all_start : (f : ℕ → Bool) (n : ℕ) → all_from f 0 n ≡ all_of f n
all_start f n =
    let whole : n - 0 ≡ n = omega arith in
    ap (λ (m : ℕ). list_all f (range_with_len 0 m)) whole

rest_is : (k n : ℕ) → k < n → n - k ≡ suc (n - (k + 1))
rest_is k n l = omega (arith, l)

pub all_here : (f : ℕ → Bool) (k n : ℕ) → k < n → f k ≡ true
    → all_from f k n ≡ all_from f (k + 1) n
all_here f k n l holds =
    ap (λ (m : ℕ). list_all f (range_with_len k m)) (rest_is k n l)
    ∙ ap (λ (b : Bool). b && all_from f (k + 1) n) holds

pub all_stop : (f : ℕ → Bool) (k n : ℕ) → k < n → f k ≡ false → all_from f k n ≡ false
all_stop f k n l fails =
    ap (λ (m : ℕ). list_all f (range_with_len k m)) (rest_is k n l)
    ∙ ap (λ (b : Bool). b && all_from f (k + 1) n) fails

pub all_end : (f : ℕ → Bool) (k n : ℕ) → n ≤ k → all_from f k n ≡ true
all_end f k n l =
    let none : n - k ≡ 0 = omega (arith, l) in
    ap (λ (m : ℕ). list_all f (range_with_len k m)) none

-- ---- a job with another cut

mutual
  tree_with : (job : Job) (own cut : Cuts) (t : Tree) → IsTree (with_cut job own) t
      → IsTree (with_cut job cut) t
  tree_with job own cut (Seq' shape all) w = row_with job own cut all w
  tree_with job own cut (Call k) w = w
  tree_with job own cut (Sync vars path) w = w
  tree_with job own cut (If' v path shape one) w = (w.0, row_with job own cut one w.1)
  tree_with job own cut (While' v path shape one) w = (w.0, row_with job own cut one w.1)

  row_with : {m : _} (job : Job) (own cut : Cuts) (row : Row_of-Tree m)
      → IsRow (with_cut job own) row → IsRow (with_cut job cut) row
  row_with job own cut end_of-Tree w = w
  row_with job own cut (more_of-Tree tree rest) w =
      (tree_with job own cut tree w.0, row_with job own cut rest w.1)

whole_with : (job : Job) (own cut : Cuts) → IsWhole (with_cut job own) → IsWhole (with_cut job cut)
whole_with job own cut w = record {
  shape = w.shape;
  names = w.names;
  names_differ = w.names_differ;
  one_level = w.one_level;
  levels_limit = w.levels_limit;
  items = λ k d lt. let one = w.items k d lt in record {
    reads = λ i e l. one.reads i e l;
    writes = λ i e l. one.writes i e l;
  };
  run_items = w.run_items;
  bins = w.bins;
  trees = λ k d lt. tree_with job own cut (get_or job.plan.bins k d) (w.trees k d lt);
  nodes_limit = w.nodes_limit;
  depth_limit = w.depth_limit;
  outputs = w.outputs;
  steers = w.steers;
  weight = w.weight;
  weight_factor = w.weight_factor;
  outputs_rise = w.outputs_rise;
  variables_limit = w.variables_limit;
  itlast_limit = w.itlast_limit;
  some_turn = w.some_turn;
  while_limit = w.while_limit;
  lead_limit = w.lead_limit;
  some_keep = w.some_keep;
  keep_limit = w.keep_limit;
  output_least = w.output_least;
  output_limit = w.output_limit;
  checkpoint_least = w.checkpoint_least;
  checkpoint_limit = w.checkpoint_limit;
  cells_limit = w.cells_limit;
  key_limit = w.key_limit;
}

pub ready_with : (job : Job) (own cut : Cuts) → IsReady (with_cut job own)
    → cut_fault (parts_of job.shape cut) ≡ None → IsReady (with_cut job cut)
ready_with job own cut ready none = record {
  whole = whole_with job own cut ready.whole;
  shapes = ready.shapes;
  interior = ready.interior;
  sound = ready.sound;
  cut = (is_whole (parts_of job.shape cut) ready.whole.shape none).cut;
}

-- routines that sweep all its parts
nat_le_is : (a b : ℕ) → nat_le a b ≡ true → a ≤ b
nat_le_is a b e = leb-true a b e

item_with : (specs : List Spec) (own c : Parts) (x : Item) → all_sweep specs c ≡ true
    → FitItem specs own x → FitItem specs c x
item_with specs own c x sweep fits = record {
  routine = fits.routine;
  parts = λ k l.
      let small : has_small_parts c fits.routine.spec.cap ≡ true =
      all_at (λ (s : Spec). has_small_parts c s.cap) specs x.routine fits.routine.spec sweep
      fits.routine.object in
      nat_le_is (point_count (local c k)) fits.routine.spec.cap
      (all_below (λ j. nat_le (point_count (local c j)) fits.routine.spec.cap) 0 (part_count c) k
      small (omega arith) (omega (arith, l)));
}

pub fits_with : (specs : List Spec) (job : Job) (own cut : Cuts)
    → all_sweep specs (parts_of job.shape cut) ≡ true → FitJob specs (with_cut job own)
    → FitJob specs (with_cut job cut)
fits_with specs job own cut sweep fits k d lt =
    item_with specs (parts_of job.shape own) (parts_of job.shape cut)
    (item (setup_of job) (get_or (run_items (setup_of job)) k d)) sweep (fits k d lt)

-- as many parts
pub parts_with : (job : Job) (cut : Cuts) → HasAsManyParts job.cut cut
    → part_count (parts_of job.shape cut) ≡ part_count (parts_of job.shape job.cut)
parts_with job cut many = rw (many.x, many.y, many.z) refl

-- ---- what weighs

total_is : (count : VarInfo → ℕ) (vs : List VarInfo) → total count vs ≡ sum_by count vs
total_is count [] = refl
total_is count (v ∷ vs) =
    ap (λ (n : ℕ). count v + n) (total_is count vs) ∙ sym (sum_by-cons count v vs)

pub holds_levels : (job : Job) (c : Checkpoint) → HoldsState (setup_of job) c → HoldsLevels job c
holds_levels job c h = record {
  count = h.levels ∙ total_is level_count job.vars;
  points = h.points;
}

-- ---- the cut that is next

next_own : (specs : List Spec) (job : Job) (c : Checkpoint) → job.balance ≡ false
    → next_cut specs job c ≡ job.cut
next_own specs job c no_balance =
    ap (λ (b : Bool). if b then swept_cut specs job (weighed_cut job c) else job.cut) no_balance

next_swept : (specs : List Spec) (job : Job) (c : Checkpoint) → job.balance ≡ true
    → next_cut specs job c ≡ swept_cut specs job (weighed_cut job c)
next_swept specs job c balanced =
    ap (λ (b : Bool). if b then swept_cut specs job (weighed_cut job c) else job.cut) balanced

pub next_weighed : (specs : List Spec) (job : Job) (c : Checkpoint) (cut : Cuts)
    → job.balance ≡ true → cut ≡ weighed_cut job c
    → all_sweep specs (parts_of job.shape cut) ≡ true → cut ≡ next_cut specs job c
next_weighed specs job c cut balanced is sweep =
    is ∙ sym (ap (λ (b : Bool). if b then weighed_cut job c else job.cut)
    (sym (ap (λ (u : Cuts). all_sweep specs (parts_of job.shape u)) is) ∙ sweep))
    ∙ sym (next_swept specs job c balanced)

pub next_too_large : (specs : List Spec) (job : Job) (c : Checkpoint) (cut : Cuts)
    → job.balance ≡ true → cut ≡ weighed_cut job c
    → all_sweep specs (parts_of job.shape cut) ≡ false → job.cut ≡ next_cut specs job c
next_too_large specs job c cut balanced is sweep =
    sym (next_swept specs job c balanced
    ∙ ap (λ (b : Bool). if b then weighed_cut job c else job.cut)
    (sym (ap (λ (u : Cuts). all_sweep specs (parts_of job.shape u)) is) ∙ sweep))

pub next_unbalanced : (specs : List Spec) (job : Job) (c : Checkpoint) → job.balance ≡ false
    → job.cut ≡ next_cut specs job c
next_unbalanced specs job c no_balance = sym (next_own specs job c no_balance)

-- the numbers of a checkpoint's levels are all that weighs
planes_same : (job : Job) (c e : Checkpoint) (w : Option VarId) → c.levels ≡ e.levels
    → planes_by job.shape (point_weight job c w) ≡ planes_by job.shape (point_weight job e w)
planes_same job c e None same = refl
planes_same job c e (Some v) same =
    ap (λ (ls : List (List ℤ)). planes_by job.shape
    (point_weight job (record c { levels = ls }) (Some v))) same

pub next_same : (specs : List Spec) (job : Job) (c e : Checkpoint) → c.levels ≡ e.levels
    → next_cut specs job c ≡ next_cut specs job e
next_same specs job c e same =
    ap (λ (f : ℕ → List ℕ). if job.balance
    then swept_cut specs job (chosen_cut job.shape job.cut f) else job.cut)
    (planes_same job c e job.weight same)
