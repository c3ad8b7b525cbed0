-- Sample rules and setups, for the rows.
use Rattle.std.specs.Prelude.{ℕ, zero, suc, ◌+◌, ◌*◌, ◌/◌, ◌%◌, ◌^◌, true, false, ℤ, pos, negsuc, ◌+ℤ◌, ◌-ℤ◌, ◌*ℤ◌, List, [], ◌∷◌, Option, Some, replicate, codes, if◌then◌else◌, unsigned_abs}
use Rattle.std.specs.Int.{int_div_euclid}
use Rattle.cx_text.specs.declared.ctype.CType.{CType}
use Rattle.cx_text.specs.declared.ctype.CType.TheVariants.{Byte, Int, Int2}
use Rattle.cx_grid.specs.declared.boxes.Point.{Point}
use Rattle.cx_grid.specs.declared.shapes.Shape.{Shape}
use Rattle.cx_plan.specs.declared.variable.VarId.{VarId}
use Rattle.cx_plan.specs.declared.variable.VarInfo.{VarInfo}
use Rattle.cx_plan.specs.declared.item.Region.{Region}
use Rattle.cx_plan.specs.declared.item.Region.TheVariants.{Interior, Boundary, Everywhere}
use Rattle.cx_plan.specs.declared.item.Touch.{Touch}
use Rattle.cx_plan.specs.declared.item.ItemKind.{ItemKind}
use Rattle.cx_plan.specs.declared.item.ItemKind.TheVariants.{Cell, Scalar, Sum}
use Rattle.cx_plan.specs.declared.item.Item.{Item}
use Rattle.cx_plan.specs.declared.tree.Tree.{Tree, Seq, Call, Sync, While}
use Rattle.cx_plan.specs.Setups.{Setup}
use Rattle.cx_rule.specs.Seen.{value_of}
use Rattle.cx_rule.specs.Place.{global_index, param_of, is_place}
use Rattle.cx_rule.specs.Routine.{Rule}
use Rattle.cx_rule.specs.Single.{here, zero_rule, read_rule, param_rule}

-- ---- rules

abbrev one : ℤ → Option (List ℤ)
one n = Some (n ∷ [])

-- the point's neighbours along x
abbrev low_side : Point
low_side = record { x = negsuc 0; y = pos 0; z = pos 0 }

abbrev high_side : Point
high_side = record { x = pos 1; y = pos 0; z = pos 0 }

abbrev nonzero : ℤ → ℕ
nonzero (pos zero) = 0
nonzero (pos (suc n)) = 1
nonzero (negsuc n) = 1

-- 1 at the point of the first parameter
abbrev one_cell : Rule
one_cell w at = one (if is_place (param_of at 0) (global_index at) then pos 1 else pos 0)

-- an elementary automaton by its number
abbrev automaton : Rule
automaton w at =
    one (pos (unsigned_abs (param_of at 0) / 2
    ^ (4 * nonzero (value_of w 0 low_side) + 2 * nonzero (value_of w 0 here)
    + nonzero (value_of w 0 high_side)) % 2))

-- the first parameter at the point of the second, twice
abbrev point_twice : Rule
point_twice w at =
    let n = if is_place (param_of at 1) (global_index at) then param_of at 0 else pos 0 in
    Some (n ∷ n ∷ [])

abbrev wave : Rule
wave w at =
    one ((pos 2 *ℤ value_of w 0 here) -ℤ value_of w 1 here
    +ℤ int_div_euclid (param_of at 0 *ℤ
    (value_of w 0 low_side -ℤ (pos 2 *ℤ value_of w 0 here) +ℤ value_of w 0 high_side))
    (pos 256))

-- the read's value without the first parameter
abbrev less : Rule
less w at = one (value_of w 0 here -ℤ param_of at 0)

-- ---- setups

abbrev pub var : ℕ → VarId
var k = record { 0 = k }

abbrev touch : ℕ → ℕ → Region → ℕ → Touch
touch v level region reach = record { var = var v; level = level; region = region; reach = reach }

abbrev make_item : List ℕ → ItemKind → ℕ → List Touch → List Touch → List ℤ → Item
make_item path kind routine reads writes params =
    record {
      thorn = [];
      name = [];
      path = path;
      kind = kind;
      routine = routine;
      reads = reads;
      writes = writes;
      params = params;
    }

abbrev grid_variable : List ℕ → CType → ℕ → VarInfo
grid_variable full t levels = record { full = full; ctype = t; scalar = false; levels = levels }

abbrev scalar_variable : List ℕ → VarInfo
scalar_variable full = record { full = full; ctype = Int; scalar = true; levels = 1 }

-- a periodic row of so many points
abbrev ring : ℕ → Shape
ring n = record {
  dims = 1;
  n = record { x = pos n; y = pos 1; z = pos 1 };
  ghost_ = record { x = pos 1; y = pos 0; z = pos 0 };
  periodic = true ∷ false ∷ false ∷ [];
}

abbrev setup_with : Shape → List VarInfo → List Item → ℕ → ℕ → List VarId → Tree → Tree → Tree
    → Setup
setup_with shape vars items itlast while_limit out_vars initial evol poststep =
    record {
      shape = shape;
      vars = vars;
      items = items;
      bins = Seq [] ∷ Seq [] ∷ Seq [] ∷ Seq [] ∷ initial ∷ Seq [] ∷ Seq [] ∷ evol ∷ poststep
          ∷ replicate 8 (Seq []);
      itlast = itlast;
      while_limit = while_limit;
      out_every = pos 1;
      out_vars = out_vars;
      chk_every = negsuc 0;
      on_end = false;
      steers = [];
    }

-- the automaton on eight points, with this many iterations
abbrev pub ca : ℕ → Setup
ca itlast =
    setup_with (ring 8) (grid_variable (codes "ca::cell") Byte 1
    ∷ scalar_variable (codes "ca::live") ∷ [])
    (make_item (codes "INITIAL/ca_init") Cell 0 [] (touch 0 0 Everywhere 0 ∷ []) (pos 3 ∷ [])
    ∷ make_item (codes "EVOL/ca_step") Cell 1 (touch 0 0 Everywhere 1 ∷ [])
    (touch 0 0 Interior 0 ∷ []) (pos 90 ∷ [])
    ∷ make_item (codes "EVOL/ca_zero") Cell 2 [] (touch 0 0 Boundary 0 ∷ []) []
    ∷ make_item (codes "POSTSTEP/ca_count") Sum 3 (touch 0 0 Everywhere 0 ∷ [])
    (touch 1 0 Everywhere 0 ∷ []) []
    ∷ [])
    itlast 1000 (var 0 ∷ []) (Call 0)
    (Seq (Seq (Call 1 ∷ Sync (var 0 ∷ []) (codes "EVOL/ca_step") ∷ []) ∷ Call 2 ∷ [])) (Call 3)

abbrev pub ca_rules : List Rule
ca_rules = one_cell ∷ automaton ∷ zero_rule ∷ zero_rule ∷ []

-- a wave of three levels on six points, of one iteration
abbrev pub wave_setup : Setup
wave_setup =
    setup_with (ring 6) (grid_variable (codes "wave::phi") Int 3 ∷ [])
    (make_item (codes "INITIAL/wave_init") Cell 0 []
    (touch 0 0 Everywhere 0 ∷ touch 0 1 Everywhere 0 ∷ []) (pos 8 ∷ pos 2 ∷ [])
    ∷ make_item (codes "EVOL/wave_step") Cell 1 (touch 0 1 Everywhere 1 ∷ touch 0 2 Interior 0 ∷ [])
    (touch 0 0 Interior 0 ∷ []) (pos 256 ∷ [])
    ∷ make_item (codes "EVOL/wave_flat") Cell 2 (touch 0 0 Interior 0 ∷ [])
    (touch 0 0 Boundary 0 ∷ []) []
    ∷ [])
    1 1000 (var 0 ∷ []) (Call 0)
    (Seq (Seq (Call 1 ∷ Sync (var 0 ∷ []) (codes "EVOL/wave_step") ∷ []) ∷ Call 2 ∷ [])) (Seq [])

abbrev pub wave_rules : List Rule
wave_rules = point_twice ∷ wave ∷ read_rule ∷ []

-- a WHILE over a scalar that begins with so many and loses so many each turn; five turns at most
abbrev pub control : ℕ → ℤ → Setup
control turns drop =
    setup_with (ring 4) (scalar_variable (codes "control::count") ∷ [])
    (make_item (codes "INITIAL/control_set") Scalar 0 [] (touch 0 0 Everywhere 0 ∷ [])
    (pos turns ∷ [])
    ∷ make_item (codes "EVOL/control_spin") Scalar 1 (touch 0 0 Everywhere 0 ∷ [])
    (touch 0 0 Everywhere 0 ∷ []) (drop ∷ [])
    ∷ [])
    1 5 (var 0 ∷ []) (Call 0) (While (var 0) (codes "EVOL/control_spin") (Call 1)) (Seq [])

abbrev pub control_rules : List Rule
control_rules = param_rule ∷ less ∷ []

-- an item that gives this number in an INT2 at each of four points
abbrev pub filled : ℤ → Setup
filled n =
    setup_with (ring 4) (grid_variable (codes "fill::u") Int2 1 ∷ [])
    (make_item (codes "INITIAL/fill") Cell 0 [] (touch 0 0 Everywhere 0 ∷ []) (n ∷ []) ∷ [])
    0 5 (var 0 ∷ []) (Call 0) (Seq []) (Seq [])
