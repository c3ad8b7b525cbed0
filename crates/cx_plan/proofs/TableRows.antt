-- The table of regions and flags, entry by entry.
use Rattle.std.specs.Prelude.{ℕ, zero, suc, Bool, true, false, ◌≡◌, refl, ◌&&◌, pos, negsuc, List, [], ◌∷◌, map, codes, Option, Some, None}
use Rattle.cx_text.specs.declared.ctype.CType.TheVariants.{Int8}
use Rattle.cx_grid.specs.declared.shapes.Shape.{Shape}
use Rattle.cx_plan.specs.declared.variable.VarId.{VarId}
use Rattle.cx_plan.specs.declared.item.Region.{Region}
use Rattle.cx_plan.specs.declared.item.Region.TheVariants.{Interior, Boundary, Everywhere}
use Rattle.cx_plan.specs.declared.item.Touch.{Touch}
use Rattle.cx_plan.specs.declared.item.ItemKind.{ItemKind}
use Rattle.cx_plan.specs.declared.item.ItemKind.TheVariants.{Cell, Scalar, Sum, Least, Greatest, Count}
use Rattle.cx_plan.specs.declared.item.Item.{Item}
use Rattle.cx_plan.specs.declared.flag.Flag.{Flag}
use Rattle.cx_plan.specs.declared.flag.Flag.TheVariants.{I, B, G, S}
use Rattle.cx_plan.specs.Setups.{Setup}
use Rattle.cx_plan.specs.Regions.{cell_needs, grid_needs, region_of, same_region, read_needs, same_level, are_distinct, kinds_agree, has_shape, Flags, cleared, after_write, after_scalar, written, all_written, exchanged, rotated, Turns, Syncs, Tests, Rotates, Outputs, Need, needs, leaves, is_met}

-- ---- a job: a scalar, a variable of three levels and one of one level, on a line with ghost zones
-- of one point

abbrev scalar : VarId
scalar = record { 0 = 0 }

abbrev phi : VarId
phi = record { 0 = 1 }

abbrev psi : VarId
psi = record { 0 = 2 }

abbrev line : Bool → Shape
line periodic =
    record {
      dims = 1;
      n = record { x = pos 6; y = pos 1; z = pos 1 };
      ghost_ = record { x = pos 1; y = pos 0; z = pos 0 };
      periodic = periodic ∷ false ∷ false ∷ [];
    }

abbrev touch : VarId → ℕ → Region → ℕ → Touch
touch v level region reach = record { var = v; level = level; region = region; reach = reach }

abbrev item_of : ItemKind → List Touch → List Touch → Item
item_of kind reads writes =
    record {
      thorn = codes "T";
      name = codes "t";
      path = codes "EVOL/t";
      kind = kind;
      routine = 0;
      reads = reads;
      writes = writes;
      params = [];
    }

abbrev setup_with : Bool → List Item → Setup
setup_with periodic items =
    record {
      shape = line periodic;
      vars =
          record { full = codes "t::s"; ctype = Int8; scalar = true; levels = 1 }
          ∷ record { full = codes "t::phi"; ctype = Int8; scalar = false; levels = 3 }
          ∷ record { full = codes "t::psi"; ctype = Int8; scalar = false; levels = 1 }
          ∷ [];
      items = items;
      bins = [];
      itlast = 1;
      while_limit = 1000;
      out_every = pos 1;
      out_vars = scalar ∷ phi ∷ [];
      chk_every = negsuc 0;
      on_end = false;
      steers = [];
    }

abbrev setup : Setup
setup = setup_with false []

-- ---- what a read needs, by the region that is written

writes_interior :
    cell_needs (line false) Interior Everywhere 0
    ∷ cell_needs (line false) Interior Everywhere 1
    ∷ cell_needs (line false) Interior Everywhere 2
    ∷ cell_needs (line false) Interior Interior 0
    ∷ cell_needs (line false) Interior Interior 1
    ∷ cell_needs (line false) Interior Boundary 0
    ∷ []
    ≡ Some (I ∷ B ∷ G ∷ []) ∷ Some (I ∷ B ∷ G ∷ []) ∷ None ∷ Some (I ∷ []) ∷ None ∷ None ∷ []
writes_interior = refl

writes_everywhere :
    cell_needs (line false) Everywhere Everywhere 0
    ∷ cell_needs (line false) Everywhere Everywhere 1
    ∷ cell_needs (line false) Everywhere Interior 0
    ∷ cell_needs (line false) Everywhere Boundary 0
    ∷ []
    ≡ Some (I ∷ B ∷ G ∷ []) ∷ None ∷ None ∷ None ∷ []
writes_everywhere = refl

writes_boundary :
    cell_needs (line false) Boundary Interior 0
    ∷ cell_needs (line false) Boundary Interior 1
    ∷ cell_needs (line false) Boundary Everywhere 0
    ∷ cell_needs (line false) Boundary Boundary 0
    ∷ []
    ≡ Some (I ∷ G ∷ []) ∷ None ∷ None ∷ None ∷ []
writes_boundary = refl

-- by kind; a scalar's item reads no grid variable
abbrev by_kind : Region → ℕ → List (Option (List Flag))
by_kind region reach =
    map (λ (kind : ItemKind). grid_needs (line false) kind Interior (touch phi 0 region reach))
    (Cell ∷ Scalar ∷ Sum ∷ Least ∷ Greatest ∷ Count ∷ [])

reduced : by_kind Everywhere 0
    ≡ Some (I ∷ B ∷ G ∷ []) ∷ None ∷ Some (I ∷ B ∷ []) ∷ Some (I ∷ B ∷ []) ∷ Some (I ∷ B ∷ [])
    ∷ Some (I ∷ B ∷ []) ∷ []
reduced = refl

reduced_around : by_kind Everywhere 1
    ≡ Some (I ∷ B ∷ G ∷ []) ∷ None ∷ None ∷ None ∷ None ∷ None ∷ []
reduced_around = refl

reduced_inside : by_kind Interior 0 ≡ Some (I ∷ []) ∷ None ∷ None ∷ None ∷ None ∷ None ∷ []
reduced_inside = refl

reduced_outside : by_kind Boundary 0 ≡ None ∷ None ∷ None ∷ None ∷ None ∷ None ∷ []
reduced_outside = refl

-- a scalar is needed by any item
scalar_read : map (λ (kind : ItemKind).
    read_needs setup (item_of kind [] (touch phi 0 Interior 0 ∷ [])) (touch scalar 0 Everywhere 0))
    (Cell ∷ Scalar ∷ Sum ∷ [])
    ≡ Some (S ∷ []) ∷ Some (S ∷ []) ∷ Some (S ∷ []) ∷ []
scalar_read = refl

grid_read : map (λ (w : Touch).
    read_needs setup (item_of Cell [] (w ∷ [])) (touch phi 1 Interior 0))
    (touch phi 0 Interior 0 ∷ touch phi 0 Boundary 0 ∷ touch phi 0 Everywhere 0 ∷ [])
    ≡ Some (I ∷ []) ∷ Some (I ∷ G ∷ []) ∷ None ∷ []
grid_read = refl

first_region : map region_of ([] ∷ (touch phi 0 Boundary 0 ∷ touch psi 0 Interior 0 ∷ []) ∷ [])
    ≡ Everywhere ∷ Boundary ∷ []
first_region = refl

regions : map (λ (a : Region). map (same_region a) (Interior ∷ Boundary ∷ Everywhere ∷ []))
    (Interior ∷ Boundary ∷ Everywhere ∷ [])
    ≡ (true ∷ false ∷ false ∷ []) ∷ (false ∷ true ∷ false ∷ []) ∷ (false ∷ false ∷ true ∷ []) ∷ []
regions = refl

-- ---- shapes

levels_told : same_level (touch phi 0 Interior 0) (touch phi 0 Boundary 0)
    ∷ same_level (touch phi 0 Interior 0) (touch phi 1 Interior 0)
    ∷ same_level (touch phi 0 Interior 0) (touch psi 0 Interior 0)
    ∷ []
    ≡ true ∷ false ∷ false ∷ []
levels_told = refl

twice : map are_distinct
    ((touch phi 0 Interior 0 ∷ touch phi 1 Interior 0 ∷ [])
    ∷ (touch phi 0 Interior 0 ∷ touch psi 0 Interior 0 ∷ touch phi 0 Interior 0 ∷ []) ∷ [])
    ≡ true ∷ false ∷ []
twice = refl

abbrev agrees : ItemKind → List Touch → List Touch → Bool
agrees kind reads writes = kinds_agree setup (item_of kind reads writes) kind

-- a Cell item writes grid variables in one region
cells : agrees Cell [] (touch phi 0 Interior 0 ∷ touch psi 0 Interior 0 ∷ [])
    ∷ agrees Cell [] (touch phi 0 Interior 0 ∷ touch psi 0 Boundary 0 ∷ [])
    ∷ agrees Cell [] (touch scalar 0 Everywhere 0 ∷ [])
    ∷ []
    ≡ true ∷ false ∷ false ∷ []
cells = refl

-- a Scalar item writes and reads scalars
scalars : agrees Scalar (touch scalar 0 Everywhere 0 ∷ []) (touch scalar 0 Everywhere 0 ∷ [])
    ∷ agrees Scalar (touch phi 0 Everywhere 0 ∷ []) (touch scalar 0 Everywhere 0 ∷ [])
    ∷ agrees Scalar [] (touch phi 0 Everywhere 0 ∷ [])
    ∷ []
    ≡ true ∷ false ∷ false ∷ []
scalars = refl

-- a reduction has one read, of a grid variable, and one write, of a scalar
abbrev four : List Touch → List Touch → List Bool
four reads writes = map (λ (kind : ItemKind). agrees kind reads writes)
    (Sum ∷ Least ∷ Greatest ∷ Count ∷ [])

reductions : four (touch phi 0 Everywhere 0 ∷ []) (touch scalar 0 Everywhere 0 ∷ [])
    ≡ true ∷ true ∷ true ∷ true ∷ []
reductions = refl

of_none : four [] (touch scalar 0 Everywhere 0 ∷ []) ≡ false ∷ false ∷ false ∷ false ∷ []
of_none = refl

of_two : four (touch phi 0 Everywhere 0 ∷ touch psi 0 Everywhere 0 ∷ [])
    (touch scalar 0 Everywhere 0 ∷ []) ≡ false ∷ false ∷ false ∷ false ∷ []
of_two = refl

of_a_scalar : four (touch scalar 0 Everywhere 0 ∷ []) (touch scalar 0 Everywhere 0 ∷ [])
    ≡ false ∷ false ∷ false ∷ false ∷ []
of_a_scalar = refl

into_none : four (touch phi 0 Everywhere 0 ∷ []) [] ≡ false ∷ false ∷ false ∷ false ∷ []
into_none = refl

into_a_grid : four (touch phi 0 Everywhere 0 ∷ []) (touch psi 0 Everywhere 0 ∷ [])
    ≡ false ∷ false ∷ false ∷ false ∷ []
into_a_grid = refl

abbrev shaped : List Touch → List Touch → Bool
shaped reads writes = has_shape setup (item_of Cell reads writes)

-- something is written, no level twice, and each read has a row
shapes : shaped (touch phi 1 Everywhere 1 ∷ []) (touch phi 0 Interior 0 ∷ [])
    ∷ shaped [] []
    ∷ shaped [] (touch phi 0 Interior 0 ∷ touch phi 0 Interior 0 ∷ [])
    ∷ shaped (touch phi 1 Everywhere 1 ∷ touch phi 1 Everywhere 2 ∷ [])
    (touch phi 0 Interior 0 ∷ [])
    ∷ []
    ≡ true ∷ false ∷ false ∷ false ∷ []
shapes = refl

-- ---- what is left of a written level

after_interior : (was : Bool)
    → map (λ (f : Flag). after_write Interior f was) (I ∷ B ∷ G ∷ S ∷ [])
    ≡ true ∷ false ∷ false ∷ was ∷ []
after_interior was = refl

after_boundary : (was : Bool)
    → map (λ (f : Flag). after_write Boundary f was) (I ∷ B ∷ G ∷ S ∷ [])
    ≡ was ∷ true ∷ was ∷ was ∷ []
after_boundary was = refl

after_everywhere : (was : Bool)
    → map (λ (f : Flag). after_write Everywhere f was) (I ∷ B ∷ G ∷ S ∷ [])
    ≡ true ∷ true ∷ true ∷ was ∷ []
after_everywhere was = refl

after_a_scalar : (was : Bool)
    → map (λ (f : Flag). after_scalar f was) (I ∷ B ∷ G ∷ S ∷ []) ≡ was ∷ was ∷ was ∷ true ∷ []
after_a_scalar was = refl

-- I, B, G and S of a level
abbrev four_flags : Flags → VarId → ℕ → List Bool
four_flags flags v level = map (λ (f : Flag). flags v level f) (I ∷ B ∷ G ∷ S ∷ [])

abbrev all_set : Flags
all_set v level f = true

-- only the written level of the written variable changes
one_level : map (four_flags (written setup all_set (touch phi 1 Interior 0)) phi) (0 ∷ 1 ∷ 2 ∷ [])
    ≡ (true ∷ true ∷ true ∷ true ∷ []) ∷ (true ∷ false ∷ false ∷ true ∷ [])
    ∷ (true ∷ true ∷ true ∷ true ∷ []) ∷ []
one_level = refl

one_variable : four_flags (written setup all_set (touch phi 0 Interior 0)) psi 0
    ≡ true ∷ true ∷ true ∷ true ∷ []
one_variable = refl

one_scalar : four_flags (written setup cleared (touch scalar 0 Everywhere 0)) scalar 0
    ≡ false ∷ false ∷ false ∷ true ∷ []
one_scalar = refl

both_written : map (λ (v : VarId).
    four_flags (all_written setup (touch phi 0 Interior 0 ∷ touch psi 0 Everywhere 0 ∷ []) cleared)
    v 0) (phi ∷ psi ∷ [])
    ≡ (true ∷ false ∷ false ∷ false ∷ []) ∷ (true ∷ true ∷ true ∷ false ∷ []) ∷ []
both_written = refl

-- ---- SYNC and rotation

synced : map (λ (v : VarId). four_flags (exchanged (phi ∷ []) cleared) v 0) (phi ∷ psi ∷ [])
    ≡ (false ∷ false ∷ true ∷ false ∷ []) ∷ (false ∷ false ∷ false ∷ false ∷ []) ∷ []
synced = refl

synced_level : four_flags (exchanged (phi ∷ []) cleared) phi 1 ≡ false ∷ false ∷ false ∷ false ∷ []
synced_level = refl

synced_all : four_flags (exchanged (phi ∷ []) all_set) phi 1 ≡ true ∷ true ∷ true ∷ true ∷ []
synced_all = refl

abbrev current_set : Flags
current_set v level f = true && is_current level
  where
    is_current : ℕ → Bool
    is_current zero = true
    is_current (suc k) = false

-- the current level becomes the next older one and is cleared; one level alone stays
turned : map (λ (level : ℕ). rotated setup current_set phi level I) (0 ∷ 1 ∷ 2 ∷ [])
    ≡ false ∷ true ∷ false ∷ []
turned = refl

turned_alone : map (λ (v : VarId). rotated setup current_set v 0 I) (scalar ∷ psi ∷ [])
    ≡ true ∷ true ∷ []
turned_alone = refl

-- ---- what a step needs

abbrev need : List ℕ → VarId → ℕ → Flag → Need
need place v level flag = record { place = place; var = v; level = level; flag = flag }

abbrev reader : Setup
reader = setup_with false
    (item_of Cell (touch phi 1 Everywhere 1 ∷ touch scalar 0 Everywhere 0 ∷ touch psi 0 Interior 0
    ∷ []) (touch phi 0 Interior 0 ∷ []) ∷ [])

turn_needs : needs reader (Turns 0)
    ≡ need (codes "EVOL/t") phi 1 I
    ∷ need (codes "EVOL/t") phi 1 B
    ∷ need (codes "EVOL/t") phi 1 G
    ∷ need (codes "EVOL/t") scalar 0 S
    ∷ need (codes "EVOL/t") psi 0 I
    ∷ []
turn_needs = refl

sync_needs : needs setup (Syncs (phi ∷ psi ∷ []) (codes "EVOL/t"))
    ≡ need (codes "EVOL/t") phi 0 I ∷ need (codes "EVOL/t") psi 0 I ∷ []
sync_needs = refl

test_needs : needs setup (Tests scalar (codes "EVOL/t")) ≡ need (codes "EVOL/t") scalar 0 S ∷ []
test_needs = refl

rotation_needs : needs setup Rotates ≡ []
rotation_needs = refl

output_needs_all : needs setup Outputs
    ≡ need (codes "output") scalar 0 S ∷ need (codes "output") phi 0 I
    ∷ need (codes "output") phi 0 B ∷ []
output_needs_all = refl

-- ---- what a step leaves

turn_leaves : four_flags (leaves reader (Turns 0) cleared) phi 0 ≡ true ∷ false ∷ false ∷ false ∷ []
turn_leaves = refl

sync_leaves : four_flags (leaves setup (Syncs (phi ∷ []) []) cleared) phi 0
    ≡ false ∷ false ∷ true ∷ false ∷ []
sync_leaves = refl

rotation_leaves : map (λ (level : ℕ). leaves setup Rotates current_set phi level G) (0 ∷ 1 ∷ [])
    ≡ false ∷ true ∷ []
rotation_leaves = refl

test_leaves : (flags : Flags) → leaves setup (Tests scalar []) flags ≡ flags
test_leaves flags = refl

output_leaves : (flags : Flags) → leaves setup Outputs flags ≡ flags
output_leaves flags = refl

-- ---- when a need is met

abbrev met : Bool → Flags → List Bool
met periodic flags = map (λ (f : Flag). is_met (setup_with periodic []) flags (need [] phi 0 f))
    (I ∷ B ∷ G ∷ S ∷ [])

met_where_set : met false all_set ≡ true ∷ true ∷ true ∷ true ∷ []
met_where_set = refl

not_met : met false cleared ≡ false ∷ false ∷ false ∷ false ∷ []
not_met = refl

-- where no point is a boundary point, B counts as set
met_without_boundary : met true cleared ≡ false ∷ true ∷ false ∷ false ∷ []
met_without_boundary = refl
