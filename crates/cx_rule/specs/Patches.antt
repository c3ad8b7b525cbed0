-- A part's numbers: a state over the box of the points that the part holds.
use Rattle.std.specs.Prelude.{ℕ, ◌+◌, ◌-◌, ◌<◌, ◌≡◌, ◌^◌, min, true, false, ℤ, pos, neg_ℤ, ◌+ℤ◌, ◌<ℤ◌, ◌≤ℤ◌, List, [], map, length, replicate, slice_index_or, slice_set, if◌then◌else◌}
use Rattle.std.specs.List.{range_with_len}
use Rattle.cx_grid.specs.declared.boxes.Point.{Point}
use Rattle.cx_grid.specs.declared.boxes.Box3.{Box3}
use Rattle.cx_grid.specs.declared.shapes.Shape.{Shape}
use Rattle.cx_grid.specs.Boxes.{along, IsBox, IsSmall, point_count, index_in}
use Rattle.cx_grid.specs.Grid.{IsShape, HasInterior}
use Rattle.cx_plan.specs.declared.variable.VarId.{VarId}
use Rattle.cx_plan.specs.declared.variable.VarInfo.{VarInfo}
use Rattle.cx_plan.specs.declared.item.Item.{Item}
use Rattle.cx_plan.specs.Setups.{Setup}
use Rattle.cx_plan.specs.Lookups.{is_scalar, levels_of}
use Rattle.cx_cut.specs.Cuts.{widened}
use Rattle.cx_rule.specs.Seen.{volumes}
use Rattle.cx_rule.specs.States.{State, level_of, scalar_of, with_level}
use Rattle.cx_rule.specs.Sweeps.{Values, reach_of}
use Rattle.cx_plan.specs.Lists.{greatest}

-- Per variable its levels, the current one first: of a grid variable one number for each local
-- point, x fastest, of a scalar one number. `staged` has a buffer for each write, with one number
-- for each local point; the window has room for `room` values.
pub record PatchValue : Type 0 where
  pub shape : Shape
  pub owned : Box3
  pub local : Box3
  pub vars : List VarInfo
  pub numbers : State
  pub staged : List (List ℤ)
  pub room : ℕ

-- a part's numbers with no buffers beside them, and with some
abbrev pub bare : Shape → Box3 → Box3 → List VarInfo → State → PatchValue
bare s owned local vars numbers =
    record {
      shape = s;
      owned = owned;
      local = local;
      vars = vars;
      numbers = numbers;
      staged = [];
      room = 0;
    }

abbrev pub with_buffers : PatchValue → List (List ℤ) → ℕ → PatchValue
with_buffers p staged room = record p { staged = staged; room = room }

-- what a patch knows of its job: the grid and the variables
abbrev pub setup_in : PatchValue → Setup
setup_in p =
    record {
      shape = p.shape;
      vars = p.vars;
      items = [];
      bins = [];
      itlast = 0;
      while_limit = 0;
      out_every = pos 0;
      out_vars = [];
      chk_every = pos 0;
      on_end = false;
      steers = [];
    }

-- ---- parts

-- a part's own points in a direction: they are of the grid, one at least, and no fewer than the
-- ghost width
pub record IsOwnSpan (s : Shape) (owned : Box3) (d : ℕ) : Type 0 where
  pub from : pos 0 ≤ℤ along owned.low d
  pub to : along owned.high d ≤ℤ along s.n d
  pub some : along owned.low d <ℤ along owned.high d
  pub wide : (along owned.low d +ℤ along s.ghost_ d) ≤ℤ along owned.high d

-- the boxes of a part of a grid that has interior points: it holds its own points and its ghosts
pub record IsPart (s : Shape) (owned local : Box3) : Type 0 where
  pub shape : IsShape s
  pub interior : HasInterior s
  pub x : IsOwnSpan s owned 0
  pub y : IsOwnSpan s owned 1
  pub z : IsOwnSpan s owned 2
  pub local_is : local ≡ widened s owned.low owned.high

-- a coordinate of the grid, or within eight points of it
abbrev pub IsNear : ℤ → Type 0
IsNear c = (neg_ℤ (pos 8) ≤ℤ c) × (c ≤ℤ pos 16777224)

pub record IsNearPoint (p : Point) : Type 0 where
  pub x : IsNear p.x
  pub y : IsNear p.y
  pub z : IsNear p.z

-- ---- what is stored

-- a stored level of one of the variables, of a grid variable, and a scalar
pub record IsStored (p : PatchValue) (v : VarId) (level : ℕ) : Type 0 where
  pub var : v.0 < length p.vars
  pub stored : level < levels_of (setup_in p) v

pub record IsGridLevel (p : PatchValue) (v : VarId) (level : ℕ) : Type 0 where
  pub var : v.0 < length p.vars
  pub stored : level < levels_of (setup_in p) v
  pub grid : is_scalar (setup_in p) v ≡ false

pub record IsScalar (p : PatchValue) (v : VarId) : Type 0 where
  pub var : v.0 < length p.vars
  pub stored : 0 < levels_of (setup_in p) v
  pub scalar : is_scalar (setup_in p) v ≡ true

-- how many numbers a level of a variable has over a box
abbrev pub number_count : Box3 → VarInfo → ℕ
number_count b v = if v.scalar then 1 else point_count b

-- what holds of each patch
pub record IsPatch (p : PatchValue) : Type 0 where
  pub part : IsPart p.shape p.owned p.local
  pub box : IsBox p.local
  pub small : IsSmall p.local
  pub sized : map (map length) p.numbers
      ≡ map (λ (v : VarInfo). replicate v.levels (number_count p.local v)) p.vars
  pub buffers : map length p.staged ≡ replicate (length p.staged) (point_count p.local)

-- the buffers beside a part's numbers: one number for each local point, and room for the numbers of
-- each count of writes
pub record HasBuffers (p : PatchValue) (staged cells : List (List ℤ)) : Type 0 where
  pub buffers : map length staged ≡ replicate (length staged) (point_count p.local)
  pub counts : map length cells ≡ range_with_len 0 (length staged + 1)

-- ---- numbers

-- the number of a level at a local point
abbrev pub number_at : PatchValue → VarId → ℕ → Point → ℤ
number_at p v level y = slice_index_or (level_of p.numbers v level) (index_in p.local y) (pos 0)

-- what a rule sees: a scalar has its number at each point
abbrev pub values_in : PatchValue → Values
values_in p v level y = if is_scalar (setup_in p) v then scalar_of p.numbers v
    else number_at p v level y

-- the point so many places along x
abbrev pub beside : Point → ℕ → Point
beside y i = record y { x = y.x +ℤ pos i }

-- the numbers of a level along x
abbrev pub numbers_along : PatchValue → VarId → ℕ → Point → ℕ → List ℤ
numbers_along p v level low n = map (λ i. number_at p v level (beside low i)) (range_with_len 0 n)

abbrev pub with_numbers : PatchValue → State → PatchValue
with_numbers p state = record p { numbers = state }

-- the patch with one other number
abbrev pub with_number : PatchValue → VarId → ℕ → Point → ℤ → PatchValue
with_number p v level y n =
    with_numbers p (with_level p.numbers v level
    (slice_set (level_of p.numbers v level) (index_in p.local y) n))

-- the same but for what is staged
abbrev pub unstaged : PatchValue → PatchValue
unstaged p = record p { staged = [] }

-- ---- the start

-- 0 everywhere
abbrev pub zeros : Box3 → VarInfo → List (List ℤ)
zeros b v = replicate v.levels (replicate (number_count b v) (pos 0))

-- counts stay below 2^32
abbrev pub capped : ℕ → ℕ
capped n = min n (2 ^ 32 - 1)

abbrev pub write_count : Item → ℕ
write_count x = length x.writes

-- how many values the reads of an item hand over
abbrev pub value_count : ℕ → Item → ℕ
value_count dims x = volumes dims (map reach_of x.reads)

-- a part of these variables, all 0, with room for the largest of these items
abbrev pub new_patch : Shape → Box3 → Box3 → List VarInfo → List Item → PatchValue
new_patch s owned local vars items =
    record {
      shape = s;
      owned = owned;
      local = local;
      vars = vars;
      numbers = map (zeros local) vars;
      staged = replicate (capped (greatest (map write_count items)))
          (replicate (point_count local) (pos 0));
      room = capped (greatest (map (value_count s.dims) items));
    }
