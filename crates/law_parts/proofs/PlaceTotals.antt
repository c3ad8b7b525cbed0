-- What all parts compute and receive up to a place is what is noted up to there.
use Rattle.std.proofs.Common.{◌≡◌, ℕ, zero, suc, ◌+◌, Bool, true, false, ℤ, List, [], ◌∷◌, ◌++◌, Option, Some, None, arith, refl, sym, ap, ◌∙◌}
use Rattle.std.specs.Prelude.{if◌then◌else◌, ◌==◌, length, filter}
use Rattle.std.proofs.lemmas.Bool.{eqb-true}
use Rattle.cx_plan.specs.declared.variable.VarId.{VarId}
use Rattle.cx_plan.specs.declared.item.Item.{Item}
use Rattle.cx_plan.specs.declared.item.ItemKind.{ItemKind}
use Rattle.cx_plan.specs.declared.item.ItemKind.TheVariants.{Cell, Scalar, Sum, Least, Greatest, Count}
use Rattle.cx_plan.specs.declared.item.Region.{Region}
use Rattle.cx_plan.specs.declared.item.Region.TheVariants.{Interior, Boundary, Everywhere}
use Rattle.cx_plan.specs.Lookups.{item}
use Rattle.cx_plan.specs.Steering.{item_at}
use Rattle.cx_plan.specs.Regions.{region_of}
use Rattle.cx_rule.specs.States.{State}
use Rattle.cx_model.specs.declared.ends.End.TheVariants.{WhileLimit}
use Rattle.cx_model.specs.Traces.{Entry, Exchanged, Tested}
use Rattle.cx_model.specs.Turns.{in_region, turn}
use Rattle.cx_model.specs.Work.{points_by}
use Rattle.cx_model.specs.Courses.{note, turn_note, limit_note}
use Rattle.cx_grid.specs.Boxes.{points_in}
use Rattle.cx_grid.specs.Grid.{whole}
use Rattle.cx_flat.specs.declared.op.Op.{Op}
use Rattle.cx_flat.specs.declared.op.Op.TheVariants.{Sweep, Apply, Give, Join, Post, Take, Test, Open, Turn, Again, Rotate, Due, Written, Skip, Next, Piece, Save, Halt}
use Rattle.cx_flat.specs.Flats.{Control, last_turns, notes_at, Pair, Exchange, Onward, Reduction, onward, begins_pair, ends_pair}
use Rattle.law_parts.specs.Operations.{NamesWell, is_reduction}
use Rattle.law_parts.specs.Runs.{Run, parts_in, cut_of, op_of, notes_of, undivided}
use Rattle.law_parts.specs.Nets.{zone_points, points_of, side_values, values_of_op}
use Rattle.law_parts.specs.Truths.{entries_of}
use Rattle.law_parts.specs.Work.{item_work, cell_work, entry_work, work, entry_count, carried_count}
use Rattle.cx_grid.specs.declared.shapes.Side.TheVariants.{Low, High}
use Rattle.law_parts.proofs.CountLaws.{sum_none, exchange_count}
use Rattle.law_parts.proofs.PointTotals.{each_once}
use Rattle.law_parts.proofs.TraceTotals.{AllQuiet, quiet_left, quiet_right, entries_both}
use Rattle.law_parts.specs.Ends.{noted}
use Rattle.law_parts.proofs.WholeRun.{IsRun, lies, names_at, first_pair, next_pairs}
use Rattle.law_network.specs.Machine.{sum_below}

plus_none : (a : ℕ) → a ≡ a + 0
plus_none a = omega arith

plus_first : (a b c : ℕ) → a + (b + c) ≡ a + b + c
plus_first a b c = omega arith

ones : (n : ℕ) → sum_below n (λ k. 1) ≡ n
ones zero = refl
ones (suc n) = ap (λ z. z + 1) (ones n) ∙ (omega arith)

module _ (r : Run) where
  pub work_both : (a b : List Entry)
      → work r.setup (cut_of r) (a ++ b) ≡ work r.setup (cut_of r) a + work r.setup (cut_of r) b
  work_both [] b = omega arith
  work_both (e ∷ es) b = ap (λ z. entry_work r.setup (cut_of r) e + z) (work_both es b)
      ∙ plus_first (entry_work r.setup (cut_of r) e) (work r.setup (cut_of r) es)
      (work r.setup (cut_of r) b)

  pub count_both : (a b : List Entry)
      → carried_count r.setup (cut_of r) (a ++ b)
      ≡ carried_count r.setup (cut_of r) a + carried_count r.setup (cut_of r) b
  count_both [] b = omega arith
  count_both (e ∷ es) b =
      ap (λ z. entry_count r.setup (cut_of r) e + z) (count_both es b)
      ∙ plus_first (entry_count r.setup (cut_of r) e) (carried_count r.setup (cut_of r) es)
      (carried_count r.setup (cut_of r) b)

-- ---- points

module _ (r : Run) (run : IsRun r) where
  region_points : (x : Item) → x.kind ≡ Cell → (region : Region) → region_of x.writes ≡ region
      → sum_below (parts_in r) (λ k. zone_points r k region) ≡ cell_work r.setup (cut_of r) x region
  region_points x cell Interior e =
      each_once (cut_of r) run.cut (λ k l p h. (lies r run k l).own p h)
      (in_region r.setup.shape Interior)
      ∙ sym (ap (λ kind. points_by kind r.setup x) cell
      ∙ ap (λ region. length
      (filter (in_region r.setup.shape region) (points_in (whole r.setup.shape)))) e)
  region_points x cell Boundary e = refl
  region_points x cell Everywhere e = refl

  cell_points : (x : Item) → x.kind ≡ Cell
      → sum_below (parts_in r) (λ k. zone_points r k (region_of x.writes))
      ≡ item_work r.setup (cut_of r) x x.kind
  cell_points x cell = region_points x cell (region_of x.writes) refl
      ∙ sym (ap (item_work r.setup (cut_of r) x) cell)

  no_work : (x : Item) (kind : ItemKind) → is_reduction kind ≡ true
      → 0 ≡ item_work r.setup (cut_of r) x kind
  no_work x Cell h = absurd cc
  no_work x Scalar h = absurd cc
  no_work x Sum h = refl
  no_work x Least h = refl
  no_work x Greatest h = refl
  no_work x Count h = refl

  -- an item computes as many points with other parameters
  as_many : (kind : ItemKind) (x : Item) (ps : List ℤ)
      → points_by kind r.setup (record x { params = ps }) ≡ points_by kind r.setup x
  as_many Cell x ps = refl
  as_many Scalar x ps = refl
  as_many Sum x ps = refl
  as_many Least x ps = refl
  as_many Greatest x ps = refl
  as_many Count x ps = refl

  same_cell : (region : Region) (x : Item) (ps : List ℤ)
      → cell_work r.setup (cut_of r) (record x { params = ps }) region
      ≡ cell_work r.setup (cut_of r) x region
  same_cell Interior x ps = as_many x.kind x ps
  same_cell Boundary x ps = refl
  same_cell Everywhere x ps = refl

  same_work : (kind : ItemKind) (x : Item) (ps : List ℤ)
      → item_work r.setup (cut_of r) (record x { params = ps }) kind
      ≡ item_work r.setup (cut_of r) x kind
  same_work Cell x ps = same_cell (region_of x.writes) x ps
  same_work Scalar x ps = refl
  same_work Sum x ps = refl
  same_work Least x ps = refl
  same_work Greatest x ps = refl
  same_work Count x ps = refl

  turn_work : (k iteration : ℕ) (x : Item) (before : State) (o : Option State)
      → item_work r.setup (cut_of r) x x.kind
      ≡ item_work r.setup (cut_of r) (item r.setup k) (item r.setup k).kind
      → AllQuiet (turn_note k x iteration before o ∷ [])
      → item_work r.setup (cut_of r) x x.kind
      ≡ work r.setup (cut_of r) (entries_of (turn_note k x iteration before o ∷ []))
  turn_work k iteration x before None e h = absurd cc
  turn_work k iteration x before (Some s) e h =
      e ∙ plus_none (item_work r.setup (cut_of r) (item r.setup k) (item r.setup k).kind)

  -- what all parts compute in an operation is what it notes
  op_points : (o : Op) (c : Control) (s : State) → NamesWell r.setup o
      → AllQuiet (notes_at r.setup r.rules o c s)
      → sum_below (parts_in r) (λ k. points_of r k o)
      ≡ work r.setup (cut_of r) (entries_of (notes_at r.setup r.rules o c s))
  op_points (Sweep i) c s h q =
      cell_points (item_at r.setup i c.iteration) h.1
      ∙ turn_work i c.iteration (item_at r.setup i c.iteration) s
      (turn r.setup r.rules (item_at r.setup i c.iteration) s c.iteration)
      (same_work (item r.setup i).kind (item r.setup i) (item_at r.setup i c.iteration).params)
      q
  op_points (Apply i) c s h q =
      ones (parts_in r) ∙ sym
      (ap (item_work r.setup (cut_of r) (item_at r.setup i c.iteration)) h.1)
      ∙ turn_work i c.iteration (item_at r.setup i c.iteration) s
      (turn r.setup r.rules (item_at r.setup i c.iteration) s c.iteration)
      (same_work (item r.setup i).kind (item r.setup i) (item_at r.setup i c.iteration).params)
      q
  op_points (Give i) c s h q = sum_none (parts_in r)
  op_points (Join i) c s h q =
      sum_none (parts_in r) ∙ no_work (item_at r.setup i c.iteration) (item r.setup i).kind h.1
      ∙ turn_work i c.iteration (item_at r.setup i c.iteration) s
      (turn r.setup r.rules (item_at r.setup i c.iteration) s c.iteration)
      (same_work (item r.setup i).kind (item r.setup i) (item_at r.setup i c.iteration).params)
      q
  op_points (Post d vars) c s h q = sum_none (parts_in r)
  op_points (Take d vars path) c s h q = sum_none (parts_in r) ∙ go (suc d == r.setup.shape.dims)
    where
      go : (b : Bool) → 0 ≡ work r.setup (cut_of r)
          (entries_of (if b then note (Exchanged vars path s) ∷ [] else []))
      go true = refl
      go false = refl
  op_points (Test v path skip) c s h q = sum_none (parts_in r)
  op_points Open c s h q = sum_none (parts_in r)
  op_points (Turn v path skip) c s h q =
      sum_none (parts_in r) ∙ go (last_turns c.opened == r.setup.while_limit)
    where
      go : (b : Bool) → 0 ≡ work r.setup (cut_of r)
          (entries_of
          ((if b then limit_note v path (WhileLimit c.iteration path) s else note (Tested v path s))
          ∷ []))
      go true = refl
      go false = refl
  op_points (Again back) c s h q = sum_none (parts_in r)
  op_points Rotate c s h q = sum_none (parts_in r)
  op_points (Due skip) c s h q = sum_none (parts_in r)
  op_points (Written skip) c s h q = sum_none (parts_in r)
  op_points (Skip skip) c s h q = sum_none (parts_in r)
  op_points (Next back) c s h q = sum_none (parts_in r)
  op_points (Piece v) c s h q = sum_none (parts_in r)
  op_points Save c s h q = sum_none (parts_in r)
  op_points Halt c s h q = sum_none (parts_in r)

  pub points_before : (n : ℕ) → AllQuiet (noted r n)
      → sum_below n (λ m. sum_below (parts_in r) (λ k. points_of r k (op_of r m)))
      ≡ work r.setup (cut_of r) (entries_of (noted r n))
  points_before zero q = refl
  points_before (suc n) q =
      let first = points_before n (quiet_left (noted r n) (notes_of r n) q) in
      let last = op_points (op_of r n) (undivided r n).control (undivided r n).state
      (names_at r run (undivided r n).control.pc) (quiet_right (noted r n) (notes_of r n) q) in
      (rw (first, last) refl)
      ∙ sym (work_both r (entries_of (noted r n)) (entries_of (notes_of r n)))
      ∙ ap (work r.setup (cut_of r)) (sym (entries_both (noted r n) (notes_of r n)))

-- ---- values

module _ (r : Run) where
  -- what all parts receive in one direction
  abbrev direction_count : List VarId → ℕ → ℕ
  direction_count vars d =
      sum_below (parts_in r) (λ k. side_values r k d Low vars + side_values r k d High vars)

  -- and in the directions that are done before an operation
  abbrev pub done_count : Option Pair → ℕ
  done_count None = 0
  done_count (Some (Exchange d vars)) = sum_below d (direction_count vars)
  done_count (Some (Onward d vars)) = sum_below d (direction_count vars)
  done_count (Some (Reduction k)) = 0

  begun_count : (d : ℕ) (vars : List VarId)
      → sum_below d (direction_count vars) + 0
      ≡ done_count (onward d vars) + sum_below (parts_in r) (λ k. 0)
  begun_count zero vars = ap (λ z. 0 + z) (sym (sum_none (parts_in r)))
  begun_count (suc d) vars =
      ap (λ z. sum_below (suc d) (direction_count vars) + z) (sym (sum_none (parts_in r)))

  none_count : 0 + 0 ≡ 0 + sum_below (parts_in r) (λ k. 0)
  none_count = ap (λ z. 0 + z) (sym (sum_none (parts_in r)))

  one_entry : (n : ℕ) → n ≡ 0 + (n + 0)
  one_entry n = omega arith

  -- what is done before an operation, and what it receives, is what it notes and what is done
  -- before the next one
  op_count : (o : Op) (c : Control) (s : State)
      → done_count (begins_pair r.setup o)
      + carried_count r.setup (cut_of r) (entries_of (notes_at r.setup r.rules o c s))
      ≡ done_count (ends_pair o) + sum_below (parts_in r) (λ k. values_of_op r k o)
  op_count (Sweep i) c s = go (turn r.setup r.rules (item_at r.setup i c.iteration) s c.iteration)
    where
      go : (o : Option State)
          → 0 + carried_count r.setup (cut_of r)
          (entries_of (turn_note i (item_at r.setup i c.iteration) c.iteration s o ∷ []))
          ≡ 0 + sum_below (parts_in r) (λ k. 0)
      go None = none_count
      go (Some t) = none_count
  op_count (Apply i) c s = go (turn r.setup r.rules (item_at r.setup i c.iteration) s c.iteration)
    where
      go : (o : Option State)
          → 0 + carried_count r.setup (cut_of r)
          (entries_of (turn_note i (item_at r.setup i c.iteration) c.iteration s o ∷ []))
          ≡ 0 + sum_below (parts_in r) (λ k. 0)
      go None = none_count
      go (Some t) = none_count
  op_count (Give i) c s = none_count
  op_count (Join i) c s = go (turn r.setup r.rules (item_at r.setup i c.iteration) s c.iteration)
    where
      go : (o : Option State)
          → 0 + carried_count r.setup (cut_of r)
          (entries_of (turn_note i (item_at r.setup i c.iteration) c.iteration s o ∷ []))
          ≡ 0 + sum_below (parts_in r) (λ k. 0)
      go None = none_count
      go (Some t) = none_count
  op_count (Post d vars) c s = begun_count d vars
  op_count (Take d vars path) c s = go (suc d == r.setup.shape.dims) refl
    where
      all : suc d ≡ r.setup.shape.dims
          → sum_below (suc d) (direction_count vars)
          ≡ entry_count r.setup (cut_of r) (Exchanged vars path s)
      all e = ap (λ n. sum_below n (direction_count vars)) e ∙ exchange_count r vars path s

      plain : (a : ℕ) → a + 0 ≡ a
      plain a = omega arith

      go : (b : Bool) → (suc d == r.setup.shape.dims) ≡ b
          → done_count (if b then None else Some (Onward (suc d) vars))
          + carried_count r.setup (cut_of r)
          (entries_of (if b then note (Exchanged vars path s) ∷ [] else []))
          ≡ sum_below (suc d) (direction_count vars)
      go true e = sym (all (eqb-true (suc d) r.setup.shape.dims e)
          ∙ one_entry (entry_count r.setup (cut_of r) (Exchanged vars path s)))
      go false e = plain (sum_below (suc d) (direction_count vars))
  op_count (Test v path skip) c s = none_count
  op_count Open c s = none_count
  op_count (Turn v path skip) c s = go (last_turns c.opened == r.setup.while_limit)
    where
      go : (b : Bool) → 0 + carried_count r.setup (cut_of r)
          (entries_of
          ((if b then limit_note v path (WhileLimit c.iteration path) s else note (Tested v path s))
          ∷ [])) ≡ 0 + sum_below (parts_in r) (λ k. 0)
      go true = none_count
      go false = none_count
  op_count (Again back) c s = none_count
  op_count Rotate c s = none_count
  op_count (Due skip) c s = none_count
  op_count (Written skip) c s = none_count
  op_count (Skip skip) c s = none_count
  op_count (Next back) c s = none_count
  op_count (Piece v) c s = none_count
  op_count Save c s = none_count
  op_count Halt c s = none_count

  join_counts : (s p c q d b : ℕ) → s ≡ c + q → b + d ≡ q + p → s + p ≡ c + d + b
  join_counts s p c q d b h k = omega (arith, h, k)

  module _ (run : IsRun r) where
    pub values_before : (n : ℕ)
        → sum_below n (λ m. sum_below (parts_in r) (λ k. values_of_op r k (op_of r m)))
        ≡ carried_count r.setup (cut_of r) (entries_of (noted r n))
        + done_count (ends_pair (op_of r n))
    values_before zero = ap (λ p. 0 + done_count p) (sym (first_pair r run))
    values_before (suc n) =
        join_counts (sum_below n (λ m. sum_below (parts_in r) (λ k. values_of_op r k (op_of r m))))
        (sum_below (parts_in r) (λ k. values_of_op r k (op_of r n)))
        (carried_count r.setup (cut_of r) (entries_of (noted r n)))
        (done_count (ends_pair (op_of r n)))
        (carried_count r.setup (cut_of r) (entries_of (notes_of r n)))
        (done_count (begins_pair r.setup (op_of r n)))
        (values_before n) (op_count (op_of r n) (undivided r n).control (undivided r n).state)
        ∙ ap (λ z. z + done_count (begins_pair r.setup (op_of r n)))
        (sym (ap (carried_count r.setup (cut_of r)) (entries_both (noted r n) (notes_of r n))
        ∙ count_both r (entries_of (noted r n)) (entries_of (notes_of r n))))
        ∙ ap (λ p. carried_count r.setup (cut_of r) (entries_of (noted r n ++ notes_of r n))
        + done_count p) (sym (next_pairs r run n))
