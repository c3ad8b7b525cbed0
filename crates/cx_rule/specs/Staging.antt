-- Numbers that are computed before any is set.
use Rattle.std.specs.Prelude.{ℕ, if◌then◌else◌, not, ◌||◌, ◌+◌, ◌≤◌, ◌≡◌, Bool, true, false, ℤ, pos, List, [], ◌∷◌, ◌++◌, map, length, take, drop, replicate, slice_index_or, slice_set, Option, Some, None, Result, Ok, Err, All}
use Rattle.cx_grid.specs.declared.boxes.Point.{Point}
use Rattle.cx_grid.specs.declared.boxes.Box3.{Box3}
use Rattle.cx_grid.specs.Boxes.{IsIn, point_count, index_in, shifted}
use Rattle.cx_grid.specs.Windows.{reach_box}
use Rattle.cx_plan.specs.declared.item.Touch.{Touch}
use Rattle.cx_plan.specs.declared.variable.VarId.{VarId}
use Rattle.cx_plan.specs.declared.item.Item.{Item}
use Rattle.cx_plan.specs.declared.item.ItemKind.{ItemKind}
use Rattle.cx_plan.specs.declared.item.ItemKind.TheVariants.{Cell, Scalar, Sum, Least, Greatest, Count}
use Rattle.cx_plan.specs.Setups.{Setup}
use Rattle.cx_plan.specs.Lookups.{is_scalar}
use Rattle.cx_plan.specs.Regions.{are_distinct}
use Rattle.cx_rule.specs.Jobs.{IsRoutineOf}
use Rattle.cx_rule.specs.Routine.{Rule}
use Rattle.cx_rule.specs.Seen.{Shown}
use Rattle.cx_rule.specs.States.{State, level_of, with_level}
use Rattle.cx_rule.specs.Sweeps.{seen_at, place_at, if_fit, all_fit, first_point, sweep, levels_after, scalar_turn}
use Rattle.cx_rule.specs.declared.routine.Overflow.{Overflow}
use Rattle.cx_rule.specs.declared.spec.Spec.{Spec}
use Rattle.cx_rule.specs.Patches.{PatchValue, IsStored, IsGridLevel, IsScalar, setup_in, values_in, value_count, with_numbers}
use Rattle.cx_rule.specs.Zones.{in_zone}
use Rattle.cx_rule.specs.declared.zone.Zone.{Zone}

-- ---- windows

-- a read of a stored level whose window at a point is local; a scalar's is the scalar alone
pub record CanRead (p : PatchValue) (from : Point) (r : Touch) : Type 0 where
  pub stored : IsStored p r.var r.level
  pub near : is_scalar (setup_in p) r.var ≡ false
      → (o : Point) → IsIn (reach_box p.shape.dims r.reach) o → IsIn p.local (shifted from o)

abbrev pub CanSee : PatchValue → Item → Point → Type 0
CanSee p x from = All (CanRead p from) x.reads

-- a window with one read more
abbrev pub with_window : Shown → ℕ → List ℤ → Shown
with_window w reach values =
    record w {
      seen = record w.seen
          { reaches = w.seen.reaches ++ reach ∷ []; values = w.seen.values ++ values };
    }

-- ---- staging

-- the buffers with a number for each write at one place
abbrev pub staged_at : ℕ → List (List ℤ) → List ℤ → List (List ℤ)
staged_at at [] ns = []
staged_at at (buffer ∷ buffers) [] = buffer ∷ buffers
staged_at at (buffer ∷ buffers) (n ∷ ns) = slice_set buffer at n ∷ staged_at at buffers ns

-- the patch with a number for each write staged at a local point, and with one write's number
-- staged there
abbrev pub with_staged : PatchValue → Point → List ℤ → PatchValue
with_staged p y ns = record p { staged = staged_at (index_in p.local y) p.staged ns }

abbrev pub with_one_staged : PatchValue → ℕ → Point → ℤ → PatchValue
with_one_staged p k y n =
    record p {
      staged = slice_set p.staged k
          (slice_set (slice_index_or p.staged k []) (index_in p.local y) n);
    }

-- numbers put into a buffer from a place on
abbrev pub put_from : ℕ → List ℤ → List ℤ → List ℤ
put_from at buffer values = take at buffer ++ (values ++ drop (at + length values) buffer)

-- the patch with other numbers of a level along x, from a local point on
abbrev pub with_row : PatchValue → VarId → ℕ → Point → List ℤ → PatchValue
with_row p v level low values =
    with_numbers p (with_level p.numbers v level
    (put_from (index_in p.local low) (level_of p.numbers v level) values))

abbrev pub with_row_staged : PatchValue → ℕ → Point → List ℤ → PatchValue
with_row_staged p k low values =
    record p {
      staged = slice_set p.staged k
          (put_from (index_in p.local low) (slice_index_or p.staged k []) values);
    }

-- the point whose place a rule is given: a Scalar item's is the first one
abbrev pub placed_at : ItemKind → Point → Point
placed_at Cell y = y
placed_at Scalar y = first_point
placed_at Sum y = y
placed_at Least y = y
placed_at Greatest y = y
placed_at Count y = y

-- what a rule gives for a local point whose window is taken at another one
abbrev pub given_at : PatchValue → Rule → Item → ℕ → Point → Point → Option (List ℤ)
given_at p rule x iteration from y =
    rule (seen_at (setup_in p) x (values_in p) from)
    (place_at (setup_in p) x iteration (placed_at x.kind y))

-- what staging a point asks for
pub record CanStage (s : Spec) (x : Item) (p : PatchValue) (from y : Point) : Type 0 where
  pub routine : IsRoutineOf s x
  pub reads : CanSee p x from
  pub values : value_count p.shape.dims x ≤ p.room
  pub params : length x.params ≤ 32
  pub writes : length x.writes ≤ length p.staged
  pub point : IsIn p.local y

-- the rule's numbers are staged, one for each write; where it gives none, nothing has changed
abbrev pub Stages : PatchValue → Rule → Item → ℕ → Point → Point → PatchValue
    → Result (Unit {0}) Overflow → Type 0
Stages old rule x iteration from y new (Ok _) =
    (ns : List ℤ) × (given_at old rule x iteration from y ≡ Some ns) × (length ns ≡ length x.writes)
    × (new ≡ with_staged old y ns)
Stages old rule x iteration from y new (Err _) =
    (given_at old rule x iteration from y ≡ None) × (new ≡ old)

-- ---- committing

-- buffers of one number for each point of a box
abbrev pub AreBuffers : Box3 → List (List ℤ) → Type 0
AreBuffers b buffers = map length buffers ≡ replicate (length buffers) (point_count b)

-- a level's number outside a zone of a box, and another one within
abbrev pub mixed_at : Box3 → Zone → List ℤ → List ℤ → Point → ℤ
mixed_at b zone within level y =
    if in_zone zone y then slice_index_or within (index_in b y) (pos 0)
    else slice_index_or level (index_in b y) (pos 0)

-- the number staged for each of the first so many writes at a place
abbrev pub numbers_staged : List (List ℤ) → ℕ → ℕ → List ℤ
numbers_staged buffers count at =
    map (λ buffer. slice_index_or buffer at (pos 0)) (take count buffers)

-- the number staged for each of the first so many writes at a local point
abbrev pub staged_numbers : PatchValue → ℕ → Point → List ℤ
staged_numbers p count y = numbers_staged p.staged count (index_in p.local y)

-- the numbers staged at a local point where each is one of its variable's type, or none
abbrev pub fitting_at : PatchValue → Item → Point → Option (List ℤ)
fitting_at p x y = if_fit (setup_in p) x.writes (Some (staged_numbers p (length x.writes) y))

-- A Scalar item sets its scalars to what is staged at the zone's first point; any other sets its
-- levels at the zone's points to what is staged there. None where a number leaves its type.
abbrev pub committed_by : ItemKind → PatchValue → Item → Zone → Option State
committed_by Scalar p x zone = scalar_turn x p.numbers (fitting_at p x zone.all.low)
committed_by Cell p x zone =
    sweep p.local (values_in p) (in_zone zone) (fitting_at p x) x.writes p.numbers
committed_by Sum p x zone =
    sweep p.local (values_in p) (in_zone zone) (fitting_at p x) x.writes p.numbers
committed_by Least p x zone =
    sweep p.local (values_in p) (in_zone zone) (fitting_at p x) x.writes p.numbers
committed_by Greatest p x zone =
    sweep p.local (values_in p) (in_zone zone) (fitting_at p x) x.writes p.numbers
committed_by Count p x zone =
    sweep p.local (values_in p) (in_zone zone) (fitting_at p x) x.writes p.numbers

abbrev pub committed : PatchValue → Item → Zone → Option State
committed p x zone = committed_by x.kind p x zone

-- the buffers when nothing is staged
abbrev pub no_numbers : List ℤ → List ℤ
no_numbers ns = map (λ n. pos 0) ns

abbrev pub cleared : List (List ℤ) → List (List ℤ)
cleared buffers = map no_numbers buffers

-- a zone of local points, and writes of stored levels: of scalars at a Scalar item, of grid
-- variables at any other
abbrev pub IsLocalZone : PatchValue → Zone → Type 0
IsLocalZone p zone = (y : Point) → in_zone zone y ≡ true → IsIn p.local y

abbrev pub HasZone : ItemKind → PatchValue → Zone → Type 0
HasZone Scalar p zone = IsIn p.local zone.all.low
HasZone Cell p zone = IsLocalZone p zone
HasZone Sum p zone = IsLocalZone p zone
HasZone Least p zone = IsLocalZone p zone
HasZone Greatest p zone = IsLocalZone p zone
HasZone Count p zone = IsLocalZone p zone

abbrev pub CanWrite : ItemKind → PatchValue → Touch → Type 0
CanWrite Scalar p w = IsScalar p w.var
CanWrite Cell p w = IsGridLevel p w.var w.level
CanWrite Sum p w = IsGridLevel p w.var w.level
CanWrite Least p w = IsGridLevel p w.var w.level
CanWrite Greatest p w = IsGridLevel p w.var w.level
CanWrite Count p w = IsGridLevel p w.var w.level

-- what a commit asks for; no level is written twice
pub record CanCommit (p : PatchValue) (x : Item) (zone : Zone) : Type 0 where
  pub points : HasZone x.kind p zone
  pub levels : All (CanWrite x.kind p) x.writes
  pub distinct : are_distinct x.writes ≡ true
  pub writes : length x.writes ≤ length p.staged

-- the staged numbers are set and nothing is staged any more; where one leaves its type, nothing has
-- changed
abbrev pub Commits : PatchValue → Item → Zone → PatchValue → Result (Unit {0}) Overflow → Type 0
Commits old x zone new (Ok _) =
    (state : State) × (committed old x zone ≡ Some state)
    × (new ≡ record old { numbers = state; staged = cleared old.staged })
Commits old x zone new (Err _) = (committed old x zone ≡ None) × (new ≡ old)

-- the same of a part's numbers alone, beside the buffers
abbrev pub SetsBy : ItemKind → PatchValue → Item → Zone → PatchValue → PatchValue
    → Result (Unit {0}) Overflow → Type 0
SetsBy kind staged x zone old new (Ok _) =
    (state : State) × (committed_by kind staged x zone ≡ Some state)
    × (new ≡ with_numbers old state)
SetsBy kind staged x zone old new (Err _) = (committed_by kind staged x zone ≡ None) × (new ≡ old)

-- whether a point lies outside of a zone, or what is staged there is in its variables' types
abbrev pub does_fit : Setup → Box3 → Zone → List Touch → List (List ℤ) → Point → Bool
does_fit setup b zone ws buffers y =
    not (in_zone zone y) || all_fit setup ws (numbers_staged buffers (length ws) (index_in b y))

-- a state with levels set at a zone's points to what is staged there, from the k-th write on
abbrev pub levels_put : PatchValue → Zone → List (List ℤ) → (count k : ℕ) → List Touch → State
    → State
levels_put p zone buffers count k ws state =
    levels_after p.local (values_in p) (in_zone zone)
    (λ y. Some (numbers_staged buffers count (index_in p.local y))) k ws state
