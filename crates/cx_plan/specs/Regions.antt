-- The table of regions and flags: the shapes of items, what each step needs, and what it leaves.
use Rattle.std.specs.Prelude.{ℕ, zero, suc, Bool, true, false, ◌&&◌, ◌||◌, not, ◌==◌, nat_lt, pos, int_le, List, [], ◌∷◌, map, flat_map, codes, Option, Some, None, is_some, if◌then◌else◌, ◌≡◌, All}
use Rattle.std.specs.List.{list_all, list_any, range_with_len}
use Rattle.cx_grid.specs.declared.shapes.Shape.{Shape}
use Rattle.cx_grid.specs.Boxes.{along, points_in}
use Rattle.cx_grid.specs.Grid.{whole, is_boundary}
use Rattle.cx_plan.specs.declared.variable.VarId.{VarId}
use Rattle.cx_plan.specs.declared.item.Region.{Region}
use Rattle.cx_plan.specs.declared.item.Region.TheVariants.{Interior, Boundary, Everywhere}
use Rattle.cx_plan.specs.declared.item.Touch.{Touch}
use Rattle.cx_plan.specs.declared.item.ItemKind.{ItemKind}
use Rattle.cx_plan.specs.declared.item.ItemKind.TheVariants.{Cell, Scalar, Sum, Least, Greatest, Count}
use Rattle.cx_plan.specs.declared.item.Item.{Item}
use Rattle.cx_plan.specs.Setups.{Setup}
use Rattle.cx_plan.specs.declared.flag.Flag.{Flag}
use Rattle.cx_plan.specs.declared.flag.Flag.TheVariants.{I, B, G, S}
use Rattle.cx_plan.specs.Lookups.{is_scalar, levels_of, item, bin, called, run_bins}

-- ---- shapes

-- whether the grid has boundary points
abbrev pub has_boundary : Shape → Bool
has_boundary s = list_any (is_boundary s) (points_in (whole s))

-- whether a reach is at most the ghost width of each direction
abbrev pub within_ghosts : Shape → ℕ → Bool
within_ghosts s reach = list_all (λ d. int_le (pos reach) (along s.ghost_ d))
    (range_with_len 0 s.dims)

abbrev pub same_region : Region → Region → Bool
same_region Interior Interior = true
same_region Boundary Boundary = true
same_region Everywhere Everywhere = true
same_region Interior Boundary = false
same_region Interior Everywhere = false
same_region Boundary Interior = false
same_region Boundary Everywhere = false
same_region Everywhere Interior = false
same_region Everywhere Boundary = false

-- what an item that writes this region needs of a read of this region and reach; none where the
-- table has no such row
abbrev pub cell_needs : Shape → Region → Region → ℕ → Option (List Flag)
cell_needs s Interior Everywhere reach = if within_ghosts s reach then Some (I ∷ B ∷ G ∷ [])
    else None
cell_needs s Interior Interior reach = if reach == 0 then Some (I ∷ []) else None
cell_needs s Interior Boundary reach = None
cell_needs s Everywhere Everywhere reach = if reach == 0 then Some (I ∷ B ∷ G ∷ []) else None
cell_needs s Everywhere Interior reach = None
cell_needs s Everywhere Boundary reach = None
cell_needs s Boundary Interior reach = if reach == 0 then Some (I ∷ G ∷ []) else None
cell_needs s Boundary Everywhere reach = None
cell_needs s Boundary Boundary reach = None

-- the region of an item's first write
abbrev pub region_of : List Touch → Region
region_of [] = Everywhere
region_of (w ∷ ws) = w.region

abbrev pub grid_needs : Shape → ItemKind → Region → Touch → Option (List Flag)
grid_needs s Cell region r = cell_needs s region r.region r.reach
grid_needs s Scalar region r = None
grid_needs s Sum region r = if same_region r.region Everywhere && r.reach == 0
    then Some (I ∷ B ∷ []) else None
grid_needs s Least region r = if same_region r.region Everywhere && r.reach == 0
    then Some (I ∷ B ∷ []) else None
grid_needs s Greatest region r = if same_region r.region Everywhere && r.reach == 0
    then Some (I ∷ B ∷ []) else None
grid_needs s Count region r = if same_region r.region Everywhere && r.reach == 0
    then Some (I ∷ B ∷ []) else None

-- what an item needs of one of its reads
abbrev pub read_needs : Setup → Item → Touch → Option (List Flag)
read_needs setup x r =
    if is_scalar setup r.var then Some (S ∷ [])
    else grid_needs setup.shape x.kind (region_of x.writes) r

abbrev pub same_level : Touch → Touch → Bool
same_level a b = a.var.0 == b.var.0 && a.level == b.level

-- no variable's level is written twice
abbrev pub are_distinct : List Touch → Bool
are_distinct [] = true
are_distinct (w ∷ ws) = not (list_any (same_level w) ws) && are_distinct ws

abbrev pub is_one : {A : Type 0} → List A → Bool
is_one [] = false
is_one (x ∷ []) = true
is_one (x ∷ y ∷ xs) = false

abbrev pub is_some_list : {A : Type 0} → List A → Bool
is_some_list [] = false
is_some_list (x ∷ xs) = true

-- one read of a grid variable, and one scalar written
abbrev pub reduces : Setup → Item → Bool
reduces setup x =
    is_one x.reads && is_one x.writes
    && list_all (λ (r : Touch). not (is_scalar setup r.var)) x.reads
    && list_all (λ (w : Touch). is_scalar setup w.var) x.writes

-- whether the reads' and writes' kinds are those of the item's kind
abbrev pub kinds_agree : Setup → Item → ItemKind → Bool
kinds_agree setup x Cell =
    list_all (λ (w : Touch). not (is_scalar setup w.var)
    && same_region w.region (region_of x.writes)) x.writes
kinds_agree setup x Scalar =
    list_all (λ (w : Touch). is_scalar setup w.var) x.writes
    && list_all (λ (r : Touch). is_scalar setup r.var) x.reads
kinds_agree setup x Sum = reduces setup x
kinds_agree setup x Least = reduces setup x
kinds_agree setup x Greatest = reduces setup x
kinds_agree setup x Count = reduces setup x

-- whether an item's declaration stands in the table
abbrev pub has_shape : Setup → Item → Bool
has_shape setup x =
    is_some_list x.writes && are_distinct x.writes && kinds_agree setup x x.kind
    && list_all (λ r. is_some (read_needs setup x r)) x.reads

-- the items that the bins call which are run
abbrev pub run_items : Setup → List ℕ
run_items setup = flat_map (λ b. called (bin setup b)) run_bins

abbrev pub HasShapes : Setup → Type 0
HasShapes setup = All (λ k. has_shape setup (item setup k) ≡ true) (run_items setup)

-- ---- flags

-- which flags are set, by variable and level
abbrev pub Flags : Type 0
Flags = VarId → ℕ → Flag → Bool

abbrev pub cleared : Flags
cleared v level f = false

abbrev pub same_variable : VarId → VarId → Bool
same_variable a b = a.0 == b.0

abbrev pub is_among : VarId → List VarId → Bool
is_among v vars = list_any (same_variable v) vars

-- a flag of a written level after the write
abbrev pub after_write : Region → Flag → Bool → Bool
after_write Interior I was = true
after_write Interior B was = false
after_write Interior G was = false
after_write Interior S was = was
after_write Everywhere I was = true
after_write Everywhere B was = true
after_write Everywhere G was = true
after_write Everywhere S was = was
after_write Boundary I was = was
after_write Boundary B was = true
after_write Boundary G was = was
after_write Boundary S was = was

-- a flag of a written scalar after the write
abbrev pub after_scalar : Flag → Bool → Bool
after_scalar S was = true
after_scalar I was = was
after_scalar B was = was
after_scalar G was = was

abbrev pub written : Setup → Flags → Touch → Flags
written setup flags w v level f =
    if same_variable v w.var && level == w.level
    then (if is_scalar setup v then after_scalar f (flags v level f)
    else after_write w.region f (flags v level f))
    else flags v level f

abbrev pub all_written : Setup → List Touch → Flags → Flags
all_written setup [] flags = flags
all_written setup (w ∷ ws) flags = all_written setup ws (written setup flags w)

abbrev pub is_G : Flag → Bool
is_G G = true
is_G I = false
is_G B = false
is_G S = false

-- after a SYNC
abbrev pub exchanged : List VarId → Flags → Flags
exchanged vars flags v level f = (is_among v vars && level == 0 && is_G f) || flags v level f

-- the flag of the next newer level, and of the current level none
abbrev pub newer_level : Flags → VarId → ℕ → Flag → Bool
newer_level flags v zero f = false
newer_level flags v (suc level) f = flags v level f

-- after rotation
abbrev pub rotated : Setup → Flags → Flags
rotated setup flags v level f = if nat_lt 1 (levels_of setup v) then newer_level flags v level f
    else flags v level f

-- ---- steps of a path

-- what a path meets
pub data Act : Type 0 where
  Turns : ℕ → Act
  Syncs : List VarId → List ℕ → Act
  Tests : VarId → List ℕ → Act
  Rotates : Act
  Outputs : Act

-- a flag that is needed, with the words that name where
pub record Need : Type 0 where
  pub place : List ℕ
  pub var : VarId
  pub level : ℕ
  pub flag : Flag

abbrev pub flags_or_none : Option (List Flag) → List Flag
flags_or_none None = []
flags_or_none (Some fs) = fs

abbrev pub needs_of_read : Setup → Item → Touch → List Need
needs_of_read setup x r =
    map (λ f. record { place = x.path; var = r.var; level = r.level; flag = f })
    (flags_or_none (read_needs setup x r))

abbrev pub output_needs : Setup → VarId → List Need
output_needs setup v =
    map (λ f. record { place = codes "output"; var = v; level = 0; flag = f })
    (if is_scalar setup v then S ∷ [] else I ∷ B ∷ [])

-- what a step needs, in order
abbrev pub needs : Setup → Act → List Need
needs setup (Turns k) = flat_map (needs_of_read setup (item setup k)) (item setup k).reads
needs setup (Syncs vars path) =
    map (λ v. record { place = path; var = v; level = 0; flag = I }) vars
needs setup (Tests v path) = record { place = path; var = v; level = 0; flag = S } ∷ []
needs setup Rotates = []
needs setup Outputs = flat_map (output_needs setup) setup.out_vars

-- the flags that a step leaves
abbrev pub leaves : Setup → Act → Flags → Flags
leaves setup (Turns k) flags = all_written setup (item setup k).writes flags
leaves setup (Syncs vars path) flags = exchanged vars flags
leaves setup (Tests v path) flags = flags
leaves setup Rotates flags = rotated setup flags
leaves setup Outputs flags = flags

abbrev pub is_B : Flag → Bool
is_B B = true
is_B I = false
is_B G = false
is_B S = false

-- whether a need is met; B counts as set where there are no boundary points
abbrev pub is_met : Setup → Flags → Need → Bool
is_met setup flags n = flags n.var n.level n.flag || (is_B n.flag && not (has_boundary setup.shape))
