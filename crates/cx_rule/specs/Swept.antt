-- A sweep of a part: the definitions of an undivided turn, over the local box and the item's zone.
use Rattle.std.specs.Prelude.{ℕ, ◌≤◌, ◌≡◌, ◌⊎◌, true, ℤ, List, filter, length, Option, Some, None, Result, Ok, Err, All}
use Rattle.cx_grid.specs.declared.boxes.Point.{Point}
use Rattle.cx_grid.specs.Boxes.{points_in, point_count}
use Rattle.cx_plan.specs.declared.item.Touch.{Touch}
use Rattle.cx_plan.specs.declared.item.Item.{Item}
use Rattle.cx_plan.specs.declared.item.Region.TheVariants.{Boundary}
use Rattle.cx_plan.specs.declared.item.ItemKind.{ItemKind}
use Rattle.cx_plan.specs.declared.item.ItemKind.TheVariants.{Cell, Scalar, Sum, Least, Greatest, Count}
use Rattle.cx_plan.specs.Regions.{region_of, has_shape}
use Rattle.cx_rule.specs.Jobs.{IsRoutineOf}
use Rattle.cx_rule.specs.Meter.{raised}
use Rattle.cx_rule.specs.Routine.{Rule}
use Rattle.cx_rule.specs.States.{State}
use Rattle.cx_rule.specs.Sweeps.{seen_at, place_at, numbers_by, window_point, first_point, sweep, scalar_turn}
use Rattle.cx_rule.specs.declared.routine.Overflow.{Overflow}
use Rattle.cx_rule.specs.declared.spec.Spec.{Spec}
use Rattle.cx_rule.specs.Patches.{PatchValue, IsStored, setup_in, values_in, value_count, with_numbers, unstaged}
use Rattle.cx_rule.specs.Staging.{staged_numbers}
use Rattle.cx_rule.specs.Zones.{in_zone, item_zone, zone_points}
use Rattle.cx_rule.specs.declared.zone.Zone.{Zone}

-- the points that an item computes in a part
abbrev pub swept_zone : PatchValue → Item → Zone
swept_zone p x = item_zone x.kind p.shape p.owned p.local (region_of x.writes)

-- where the window of one of these points is taken
abbrev pub window_from : PatchValue → Item → Point → Point
window_from p x y = window_point p.shape (region_of x.writes) y

-- what a rule gives at one of these points, and its numbers where they fit, or none
abbrev pub rule_numbers : PatchValue → Rule → Item → ℕ → Point → Option (List ℤ)
rule_numbers p rule x iteration y =
    rule (seen_at (setup_in p) x (values_in p) (window_from p x y))
    (place_at (setup_in p) x iteration y)

abbrev pub swept_numbers : PatchValue → Rule → Item → ℕ → Point → Option (List ℤ)
swept_numbers p rule x iteration y =
    numbers_by (setup_in p) rule x (values_in p) iteration (window_from p x y) y

-- a part's numbers after an item's sweep; none where a rule gives no numbers or a number leaves its
-- type
abbrev pub swept_by : ItemKind → PatchValue → Rule → Item → ℕ → Option State
swept_by Cell p rule x iteration =
    sweep p.local (values_in p) (in_zone (swept_zone p x)) (swept_numbers p rule x iteration)
    x.writes p.numbers
swept_by Scalar p rule x iteration =
    scalar_turn x p.numbers
    (numbers_by (setup_in p) rule x (values_in p) iteration first_point first_point)
swept_by Sum p rule x iteration = None
swept_by Least p rule x iteration = None
swept_by Greatest p rule x iteration = None
swept_by Count p rule x iteration = None

abbrev pub swept : PatchValue → Rule → Item → ℕ → Option State
swept p rule x iteration = swept_by x.kind p rule x iteration

-- the same but for what is staged
pub record IsSamePatch (new old : PatchValue) : Type 0 where
  pub numbers : unstaged new ≡ unstaged old
  pub buffers : length new.staged ≡ length old.staged

-- a meter rose by at most so many points
pub record RoseWithin (points before after : ℕ) : Type 0 where
  pub least : before ≤ after
  pub most : after ≤ raised before points

-- What a sweep does. At Ok it sets the numbers, exactly, and the meter rises by the zone's points.
-- Overflow comes exactly where there are no such numbers; then none has changed.
abbrev pub Sweeps : PatchValue → Rule → Item → ℕ → PatchValue → ℕ → ℕ → Result (Unit {0}) Overflow
    → Type 0
Sweeps old rule x iteration new before after (Ok _) =
    (state : State) × (swept old rule x iteration ≡ Some state)
    × IsSamePatch new (with_numbers old state)
    × (after ≡ raised before (zone_points (swept_zone old x)))
Sweeps old rule x iteration new before after (Err _) =
    (swept old rule x iteration ≡ None) × IsSamePatch new old
    × RoseWithin (zone_points (swept_zone old x)) before after

-- what a sweep asks for: an item in a shape of the table, no larger than the patch's items, its
-- routine, and a part of no more points than the routine's cap
pub record CanSweep (s : Spec) (x : Item) (p : PatchValue) : Type 0 where
  pub routine : IsRoutineOf s x
  pub kind : (x.kind ≡ Cell) ⊎ (x.kind ≡ Scalar)
  pub declared : has_shape (setup_in p) x ≡ true
  pub reads : All (λ (r : Touch). IsStored p r.var r.level) x.reads
  pub writes : All (λ (w : Touch). IsStored p w.var w.level) x.writes
  pub buffers : length x.writes ≤ length p.staged
  pub values : value_count p.shape.dims x ≤ p.room
  pub params : length x.params ≤ 32
  pub cap : point_count p.local ≤ s.cap

-- an item that writes boundary points
abbrev pub IsBoundaryWriter : Item → Type 0
IsBoundaryWriter x = (x.kind ≡ Cell) × (region_of x.writes ≡ Boundary)

-- ---- before the commit

-- at some points of the zone the rule's numbers are staged, and the meter rose by the number of
-- these
pub record IsStaged (old : PatchValue) (rule : Rule) (x : Item) (iteration : ℕ)
    (points : List Point)
    (new : PatchValue) (before after : ℕ) : Type 0 where
  pub same : IsSamePatch new old
  pub numbers : All (λ y. in_zone (swept_zone old x) y ≡ true
      → rule_numbers old rule x iteration y ≡ Some (staged_numbers new (length x.writes) y)) points
  pub meter : after ≡ raised before (length (filter (in_zone (swept_zone old x)) points))

-- the rule gives no numbers at a point of the zone
pub record IsWithout (old : PatchValue) (rule : Rule) (x : Item) (iteration : ℕ)
    (y : Point) : Type 0 where
  pub zone : in_zone (swept_zone old x) y ≡ true
  pub none : rule_numbers old rule x iteration y ≡ None

-- what staging a zone does: at Ok all its points are staged
abbrev pub StagesZone : PatchValue → Rule → Item → ℕ → PatchValue → ℕ → ℕ
    → Result (Unit {0}) Overflow → Type 0
StagesZone old rule x iteration new before after (Ok _) =
    IsStaged old rule x iteration (points_in (swept_zone old x).all) new before after
StagesZone old rule x iteration new before after (Err _) =
    (y : Point) × IsWithout old rule x iteration y × IsSamePatch new old
    × RoseWithin (zone_points (swept_zone old x)) before after
