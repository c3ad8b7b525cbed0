-- Rows of points along x: what a rule sees at each of their points.
use Rattle.std.specs.Prelude.{ℕ, ◌+◌, ◌*◌, ◌<◌, ◌≤◌, ◌≡◌, ◌-ℤ◌, ◌+ℤ◌, ◌≤ℤ◌, ◌<ℤ◌, int_lt, Bool, ◌&&◌, true, false, ℤ, pos, List, ◌∷◌, [], map, length, slice_index_or, Some, None, Result, Ok, Err, All}
use Rattle.cx_grid.specs.declared.boxes.Point.{Point}
use Rattle.cx_grid.specs.declared.boxes.Box3.{Box3}
use Rattle.cx_grid.specs.declared.shapes.Shape.{Shape}
use Rattle.cx_grid.specs.Boxes.{IsIn, has_point, point_count, index_in}
use Rattle.cx_plan.specs.declared.item.Touch.{Touch}
use Rattle.cx_plan.specs.declared.item.Item.{Item}
use Rattle.cx_plan.specs.declared.item.ItemKind.TheVariants.{Cell}
use Rattle.cx_plan.specs.declared.item.Region.{Region}
use Rattle.cx_plan.specs.Lookups.{is_scalar}
use Rattle.cx_rule.specs.Jobs.{IsRoutineOf}
use Rattle.cx_rule.specs.Patches.{PatchValue, beside, setup_in, values_in}
use Rattle.cx_rule.specs.Routine.{Rule, reach_of as want_reach}
use Rattle.cx_rule.specs.Seen.{Seen, value_of}
use Rattle.cx_rule.specs.Staging.{CanSee, put_from, with_row_staged}
use Rattle.cx_rule.specs.Sweeps.{seen_at, place_at, reach_of, window_point}
use Rattle.cx_rule.specs.Swept.{IsSamePatch}
use Rattle.cx_rule.specs.Zones.{in_zone}
use Rattle.cx_rule.specs.declared.place.Place.{Place}
use Rattle.cx_rule.specs.declared.routine.Overflow.{Overflow}
use Rattle.cx_rule.specs.declared.run.Run.{Run}
use Rattle.cx_rule.specs.declared.spec.Spec.{Spec}
use Rattle.cx_rule.specs.declared.zone.Zone.{Zone}

-- what a rule sees along a row: the grid's directions, each read's reach, how many points the row
-- has, and for each of these what is seen there and its place
pub record SeenRow : Type 0 where
  pub dims : ℕ
  pub reaches : List ℕ
  pub count : ℕ
  pub seen : ℕ → Seen
  pub place : ℕ → Place

-- ---- what a row lends

-- a read's reach
abbrev pub reach_at : SeenRow → ℕ → ℕ
reach_at r k = slice_index_or r.reaches k 0

-- an offset in a row of a window, counted from that of the least x
abbrev pub offset_from : ℕ → ℤ → ℤ → ℕ → Point
offset_from reach y z j = record { x = pos j -ℤ pos reach; y = y; z = z }

-- the offset of the point itself in such a row
abbrev pub middle : ℤ → ℤ → Point
middle y z = record { x = pos 0; y = y; z = z }

-- numbers along x, which around each point of a row are those that a read shows in a row of its
-- window
pub record ShowsAlong (r : SeenRow) (k : ℕ) (y z : ℤ) (ns : List ℤ) : Type 0 where
  pub count : length ns ≡ r.count + 2 * reach_at r k
  pub each : (i j : ℕ) → i < r.count → j ≤ 2 * reach_at r k
      → slice_index_or ns (i + j) (pos 0) ≡ value_of (r.seen i) k (offset_from (reach_at r k) y z j)

-- ---- what a rule gives

-- the row has the routine's reads and its places the routine's parameters; the routine has one
-- write
pub record FitsRow (s : Spec) (r : SeenRow) : Type 0 where
  pub some : 1 ≤ r.dims
  pub most : r.dims ≤ 3
  pub reads : r.reaches ≡ map want_reach s.reads
  pub dims : (i : ℕ) → (r.seen i).dims ≡ r.dims
  pub shape : (i : ℕ) → (r.place i).shape.dims ≡ r.dims
  pub params : (i : ℕ) → length (r.place i).params ≡ length s.params
  pub writes : length s.writes ≡ 1

-- these are the rule's numbers, one at each point
abbrev pub GivesRow : Rule → SeenRow → List ℤ → Type 0
GivesRow rule r ns = (i : ℕ) → i < r.count
    → rule (r.seen i) (r.place i) ≡ Some (slice_index_or ns i (pos 0) ∷ [])

-- the rule gives no numbers at one of the points
abbrev pub LacksOne : Rule → SeenRow → Type 0
LacksOne rule r = (i : ℕ) × (i < r.count) × (rule (r.seen i) (r.place i) ≡ None)

-- ---- rows of a part

-- an item's row of so many points from a point on, whose windows lie along x too, from another
-- point on
abbrev pub row_of : PatchValue → Item → Point → Point → ℕ → ℕ → SeenRow
row_of p x from low count iteration =
    record {
      dims = p.shape.dims;
      reaches = map reach_of x.reads;
      count = count;
      seen = λ i. seen_at (setup_in p) x (values_in p) (beside from i);
      place = λ i. place_at (setup_in p) x iteration (beside low i);
    }

-- a part, an item, a point from which on the windows of so many points lie, one from which on these
-- points lie, and an iteration
pub record RowValue : Type 0 where
  pub part : PatchValue
  pub item : Item
  pub from : Point
  pub low : Point
  pub count : ℕ
  pub iteration : ℕ

abbrev pub row_value : PatchValue → Item → Point → Point → ℕ → ℕ → RowValue
row_value p x from low count iteration =
    record { part = p; item = x; from = from; low = low; count = count; iteration = iteration }

abbrev pub seen_row : RowValue → SeenRow
seen_row r = row_of r.part r.item r.from r.low r.count r.iteration

-- so many windows along x, which are local, of reads of grid variables
pub record CanSeeRow (p : PatchValue) (x : Item) (from : Point) (count : ℕ) : Type 0 where
  pub some : 0 < count
  pub grid : All (λ (r : Touch). is_scalar (setup_in p) r.var ≡ false) x.reads
  pub sees : (i : ℕ) → i < count → CanSee p x (beside from i)

-- what staging a run asks for: an item of one write, and local points
pub record CanStageRow (s : Spec) (x : Item) (p : PatchValue) (run : Run) : Type 0 where
  pub routine : IsRoutineOf s x
  pub row : CanSeeRow p x run.from run.count
  pub writes : length x.writes ≡ 1
  pub buffers : length x.writes ≤ length p.staged
  pub low_in : IsIn p.local run.low
  pub high_in : (run.low.x +ℤ pos run.count) ≤ℤ p.local.high.x

-- a run's row
abbrev pub run_row : PatchValue → Item → ℕ → Run → SeenRow
run_row p x iteration run = row_of p x run.from run.low run.count iteration

-- the rule's numbers at a row's points, put into a buffer from a place on
abbrev pub IsRowPut : Rule → SeenRow → ℕ → List ℤ → List ℤ → Type 0
IsRowPut rule r at old new =
    (ns : List ℤ) × (length ns ≡ r.count) × GivesRow rule r ns × (new ≡ put_from at old ns)

-- the rule's numbers at a run's points are staged, or it gives none at one of them
abbrev pub StagesRow : PatchValue → Rule → Item → ℕ → Run → PatchValue → Result (Unit {0}) Overflow
    → Type 0
StagesRow old rule x iteration run new (Ok _) =
    (ns : List ℤ) × (length ns ≡ run.count) × GivesRow rule (run_row old x iteration run) ns
    × (new ≡ with_row_staged old 0 run.low ns)
StagesRow old rule x iteration run new (Err _) =
    LacksOne rule (run_row old x iteration run) × IsSamePatch new old

-- ---- numbers left open

-- so many numbers of a buffer, from a place on, are any ones
abbrev pub IsOpened : ℕ → ℕ → List ℤ → List ℤ → Type 0
IsOpened at count old new = (ns : List ℤ) × (length ns ≡ count) × (new ≡ put_from at old ns)

-- so many local points along x, where there are buffers
pub record CanLeaveOpen (p : PatchValue) (low : Point) (count : ℕ) : Type 0 where
  pub buffers : 0 < length p.staged
  pub low_in : IsIn p.local low
  pub high_in : (low.x +ℤ pos count) ≤ℤ p.local.high.x

-- what is staged there, in the first buffer, are any numbers
abbrev pub LeavesOpen : PatchValue → Point → ℕ → PatchValue → Type 0
LeavesOpen old low count new =
    (ns : List ℤ) × (length ns ≡ count) × (new ≡ with_row_staged old 0 low ns)

-- ---- sweeps by rows

-- a Cell item of one write, which reads grid variables alone
pub record IsRowItem (p : PatchValue) (x : Item) : Type 0 where
  pub kind : x.kind ≡ Cell
  pub writes : length x.writes ≡ 1
  pub grid : All (λ (r : Touch). is_scalar (setup_in p) r.var ≡ false) x.reads

-- whether a zone's hole begins behind a point in its row
abbrev pub hole_follows : Zone → Point → Bool
hole_follows z low = int_lt low.x z.hole.low.x
    && has_point z.hole (record { x = z.hole.low.x; y = low.y; z = low.z })

-- the points before an end, from one on, lie in a zone, and their windows one beside another
pub record IsRunEnd (s : Shape) (region : Region) (z : Zone) (low : Point) (end : ℤ) : Type 0 where
  pub some : low.x <ℤ end
  pub zone : (i : ℕ) → (low.x +ℤ pos i) <ℤ end → in_zone z (beside low i) ≡ true
  pub from : (i : ℕ) → (low.x +ℤ pos i) <ℤ end
      → window_point s region (beside low i) ≡ beside (window_point s region low) i

-- the points of a run lie in a zone, and their windows are taken one beside another
pub record IsRun (s : Shape) (region : Region) (z : Zone) (run : Run) : Type 0 where
  pub some : 0 < run.count
  pub zone : (i : ℕ) → i < run.count → in_zone z (beside run.low i) ≡ true
  pub from : (i : ℕ) → i < run.count → window_point s region (beside run.low i) ≡ beside run.from i

-- a point of a box stands so many places behind another one, if the box has so many points behind
-- that
abbrev pub Follows : Box3 → Point → ℕ → Point → Type 0
Follows b p count next = index_in b p + count < point_count b
    → IsIn b next × (index_in b next ≡ index_in b p + count)
