-- Worked rows of the undivided run: the order of its stages, its entries, the limit of its outputs,
-- and a job with all kinds of items on a grid of three directions.
use Rattle.std.specs.Prelude.{ℕ, ◌≡◌, ◌+◌, refl, true, false, ℤ, pos, negsuc, ◌-ℤ◌, ◌*ℤ◌, List, [], ◌∷◌, map, Some, None, replicate, codes}
use Rattle.std.specs.Fmt.{digits}
use Rattle.cx_text.specs.declared.ctype.CType.{CType}
use Rattle.cx_text.specs.declared.ctype.CType.TheVariants.{Byte, Int, Int2, Int4, Int8}
use Rattle.cx_grid.specs.declared.shapes.Shape.{Shape}
use Rattle.cx_grid.specs.Grid.{whole}
use Rattle.cx_plan.specs.declared.variable.VarId.{VarId}
use Rattle.cx_plan.specs.declared.variable.VarInfo.{VarInfo}
use Rattle.cx_plan.specs.declared.item.Region.{Region}
use Rattle.cx_plan.specs.declared.item.Region.TheVariants.{Interior, Boundary, Everywhere}
use Rattle.cx_plan.specs.declared.item.Touch.{Touch}
use Rattle.cx_plan.specs.declared.item.ItemKind.{ItemKind}
use Rattle.cx_plan.specs.declared.item.ItemKind.TheVariants.{Cell, Scalar, Sum, Least, Greatest, Count}
use Rattle.cx_plan.specs.declared.item.Item.{Item}
use Rattle.cx_plan.specs.declared.tree.Tree.{Tree, Seq, Call, If}
use Rattle.cx_plan.specs.Setups.{Setup}
use Rattle.cx_plan.specs.Dues.{is_due}
use Rattle.cx_rule.specs.Place.{global_index}
use Rattle.cx_rule.specs.Routine.{Rule}
use Rattle.cx_rule.specs.Seen.{value_of}
use Rattle.cx_rule.specs.Single.{here, read_rule, param_rule}
use Rattle.cx_rule.specs.States.{State}
use Rattle.cx_rule.specs.Sweeps.{fits, level_after, place_at}
use Rattle.cx_model.specs.declared.ends.End.TheVariants.{Overflow, OutputLimit}
use Rattle.cx_model.specs.Traces.{Turned, Tested, Wrote, Goes, Ends}
use Rattle.cx_model.specs.Stages.{Bin, Rotate, Save, Write, stages}
use Rattle.cx_model.specs.Runs.{outputs, end, undivided_run, limited, no_lengths}

-- ---- setups

abbrev var : ℕ → VarId
var k = record { 0 = k }

abbrev touch : ℕ → (level : ℕ) → Region → (reach : ℕ) → Touch
touch v level region reach = record { var = var v; level = level; region = region; reach = reach }

abbrev item_of : ItemKind → (routine : ℕ) → (reads writes : List Touch) → List ℤ → Item
item_of kind routine reads writes params =
    record {
      thorn = [];
      name = [];
      path = codes "INITIAL/item";
      kind = kind;
      routine = routine;
      reads = reads;
      writes = writes;
      params = params;
    }

abbrev grid : List ℕ → CType → ℕ → VarInfo
grid full t levels = record { full = full; ctype = t; scalar = false; levels = levels }

abbrev scalar : List ℕ → VarInfo
scalar full = record { full = full; ctype = Int2; scalar = true; levels = 1 }

-- one by two by three points: no boundary along x and y, one point between two along z
abbrev shape : Shape
shape = record {
  dims = 3;
  n = record { x = pos 1; y = pos 2; z = pos 3 };
  ghost_ = record { x = pos 0; y = pos 0; z = pos 1 };
  periodic = true ∷ [];
}

-- no iteration but the start, in which bin INITIAL runs a tree
abbrev starting : List VarInfo → List Item → List VarId → Tree → Setup
starting vars items out_vars initial =
    record {
      shape = shape;
      vars = vars;
      items = items;
      steers = [];
      bins = Seq [] ∷ Seq [] ∷ Seq [] ∷ Seq [] ∷ initial ∷ replicate 12 (Seq []);
      itlast = 0;
      while_limit = 5;
      out_every = pos 1;
      out_vars = out_vars;
      chk_every = pos 0;
      on_end = false;
    }

-- ---- the order of a run

abbrev two_iterations : Setup
two_iterations =
    record (starting [] [] [] (Seq [])) { itlast = 2; out_every = pos 2; chk_every = pos 2 }

in_order : stages two_iterations
    ≡ Bin 0 0 ∷ Bin 1 0 ∷ Bin 2 0 ∷ Bin 3 0 ∷ Bin 4 0 ∷ Bin 5 0 ∷ Bin 8 0 ∷ Bin 10 0 ∷ Write 0
    ∷ Rotate ∷ Bin 6 1 ∷ Bin 7 1 ∷ Bin 8 1 ∷ Bin 10 1
    ∷ Rotate ∷ Bin 6 2 ∷ Bin 7 2 ∷ Bin 8 2 ∷ Bin 9 2 ∷ Save 2 ∷ Bin 10 2 ∷ Write 2
    ∷ Bin 11 2 ∷ Bin 12 2 ∷ []
in_order = refl

-- each second iteration, and the last one
due : map (is_due (record two_iterations { itlast = 5; out_every = pos 3; on_end = true }))
    (0 ∷ 1 ∷ 2 ∷ 3 ∷ 4 ∷ 5 ∷ 6 ∷ [])
    ≡ false ∷ false ∷ true ∷ false ∷ true ∷ true ∷ false ∷ []
due = refl

-- ---- entries

abbrev one_scalar : ℤ → State
one_scalar n = ((n ∷ []) ∷ []) ∷ []

-- a scalar becomes 5, is tested and is written
all_entries : undivided_run
    (starting (scalar (codes "t::n") ∷ [])
    (item_of Scalar 0 [] (touch 0 0 Everywhere 0 ∷ []) (pos 5 ∷ []) ∷ []) (var 0 ∷ [])
    (Seq (Call 0 ∷ If (var 0) (codes "INITIAL/if") (Seq []) ∷ [])))
    (param_rule ∷ [])
    ≡ record {
      entries = Turned 0 0 (one_scalar (pos 0))
          ∷ Tested (var 0) (codes "INITIAL/if") (one_scalar (pos 5))
          ∷ Wrote (var 0) 0 (codes "# t::n iteration 0 value 5\n") (one_scalar (pos 5)) ∷ [];
      outcome = Goes (one_scalar (pos 5));
    }
unfolding digits Rattle.cx_plan.specs.declared.tree.Tree.TheBlock.hidden-the_row-Tree-0
    Rattle.cx_plan.specs.declared.tree.Tree.TheBlock.hidden-the_row-Tree-1
    denote.Hole.Carrier.hidden
all_entries = refl

-- ---- the limit

first_lengths : map no_lengths (0 ∷ 1 ∷ []) ≡ 0 ∷ 0 ∷ []
first_lengths = refl

-- each output has room for six bytes more: a text that would be the seventh of its own isn't
-- written, and nothing after it
seventh_byte : limited (λ v. 4294967290)
    (record {
      entries = Wrote (var 0) 3 (codes "abcdef") [] ∷ Wrote (var 1) 3 (codes "ab") []
          ∷ Wrote (var 0) 4 (codes "g") [] ∷ Wrote (var 1) 4 (codes "c") [] ∷ [];
      outcome = Goes [];
    })
    ≡ record {
      entries = Wrote (var 0) 3 (codes "abcdef") [] ∷ Wrote (var 1) 3 (codes "ab") [] ∷ [];
      outcome = Ends (OutputLimit 4);
    }
seventh_byte = refl

-- ---- numbers

bytes : map (fits Byte) (negsuc 0 ∷ pos 0 ∷ pos 255 ∷ pos 256 ∷ [])
    ≡ false ∷ true ∷ true ∷ false ∷ []
bytes = refl

in_16_bits : map (fits Int2) (negsuc 32768 ∷ negsuc 32767 ∷ pos 32767 ∷ pos 32768 ∷ [])
    ≡ false ∷ true ∷ true ∷ false ∷ []
in_16_bits = refl

in_32_bits : map (fits Int4)
    (negsuc 2147483648 ∷ negsuc 2147483647 ∷ pos 2147483647 ∷ pos 2147483648 ∷ [])
    ≡ false ∷ true ∷ true ∷ false ∷ []
in_32_bits = refl

in_64_bits : map (fits Int8)
    (negsuc 9223372036854775808 ∷ negsuc 9223372036854775807 ∷ pos 9223372036854775807
    ∷ pos 9223372036854775808 ∷ [])
    ≡ false ∷ true ∷ true ∷ false ∷ []
in_64_bits = refl

-- a rule that gives one number for two writes
too_few : end
    (starting (scalar (codes "t::n") ∷ scalar (codes "t::m") ∷ [])
    (item_of Scalar 0 [] (touch 0 0 Everywhere 0 ∷ touch 1 0 Everywhere 0 ∷ []) [] ∷ []) []
    (Call 0)) (param_rule ∷ [])
    ≡ Overflow 0 (codes "INITIAL/item")
unfolding Rattle.cx_plan.specs.declared.tree.Tree.TheBlock.hidden-the_row-Tree-0
    denote.Hole.Carrier.hidden
too_few = refl

-- ---- a grid of three directions

-- three numbers: the point's place, 7, and the place without 2
abbrev places : Rule
places w at =
    Some (pos (global_index at) ∷ pos 7 ∷ (pos (global_index at) -ℤ pos 2) ∷ [])

-- a hundred times the number of the next point along z
abbrev above : Rule
above w at = Some ((pos 100 *ℤ value_of w 0 (record here { z = pos 1 })) ∷ [])

-- two numbers at once
abbrev pair : Rule
pair w at = Some (pos (global_index at + 8) ∷ pos 9 ∷ [])

abbrev whole_box : Setup
whole_box =
    starting
    (grid (codes "b::u") Int 2 ∷ grid (codes "b::v") Int4 1 ∷ map scalar
    (codes "b::sum" ∷ codes "b::least" ∷ codes "b::most" ∷ codes "b::count" ∷ codes "b::p"
    ∷ codes "b::q" ∷ codes "b::none" ∷ []))
    (item_of Cell 0 []
    (touch 0 0 Everywhere 0 ∷ touch 0 1 Everywhere 0 ∷ touch 1 0 Everywhere 0 ∷ []) []
    ∷ item_of Cell 1 (touch 0 0 Everywhere 1 ∷ []) (touch 0 0 Interior 0 ∷ []) []
    ∷ item_of Cell 2 (touch 0 0 Interior 0 ∷ []) (touch 0 0 Boundary 0 ∷ []) []
    ∷ item_of Sum 3 (touch 0 1 Everywhere 0 ∷ []) (touch 2 0 Everywhere 0 ∷ []) []
    ∷ item_of Least 3 (touch 1 0 Everywhere 0 ∷ []) (touch 3 0 Everywhere 0 ∷ []) []
    ∷ item_of Greatest 3 (touch 1 0 Everywhere 0 ∷ []) (touch 4 0 Everywhere 0 ∷ []) []
    ∷ item_of Count 3 (touch 1 0 Everywhere 0 ∷ []) (touch 5 0 Everywhere 0 ∷ []) []
    ∷ item_of Scalar 3 [] (touch 6 0 Everywhere 0 ∷ touch 7 0 Everywhere 0 ∷ []) []
    ∷ item_of Scalar 4 [] (touch 6 0 Everywhere 0 ∷ []) (pos 1000 ∷ []) ∷ [])
    (map var (0 ∷ 1 ∷ 2 ∷ 3 ∷ 4 ∷ 5 ∷ 6 ∷ 7 ∷ []))
    (Seq (Call 0 ∷ Call 1 ∷ Call 2 ∷ Call 3 ∷ Call 4 ∷ Call 5 ∷ Call 6
    ∷ If (var 5) [] (Call 7) ∷ If (var 8) [] (Call 8) ∷ []))

abbrev all_rules : List Rule
all_rules = places ∷ above ∷ read_rule ∷ pair ∷ param_rule ∷ []

all_kinds : outputs whole_box all_rules
    ≡ codes "# b::u iteration 0 size 1 2 3\n400\n500\n400\n500\n400\n500\n\n"
    ∷ codes "# b::v iteration 0 size 1 2 3\n-2\n-1\n0\n1\n2\n3\n\n"
    ∷ codes "# b::sum iteration 0 value 42\n" ∷ codes "# b::least iteration 0 value -2\n"
    ∷ codes "# b::most iteration 0 value 3\n" ∷ codes "# b::count iteration 0 value 5\n"
    ∷ codes "# b::p iteration 0 value 8\n" ∷ codes "# b::q iteration 0 value 9\n" ∷ []
unfolding digits Rattle.cx_plan.specs.declared.tree.Tree.TheBlock.hidden-the_row-Tree-0
    Rattle.cx_plan.specs.declared.tree.Tree.TheBlock.hidden-the_row-Tree-1
    denote.Hole.Carrier.hidden
all_kinds = refl

-- the place without 1
abbrev one_less : Rule
one_less w at = Some ((pos (global_index at) -ℤ pos 1) ∷ [])

-- interior points alone are swept: the first point would have -1, which is no byte
inside : outputs
    (starting (grid (codes "b::w") Byte 1 ∷ [])
    (item_of Cell 0 [] (touch 0 0 Interior 0 ∷ []) [] ∷ []) (var 0 ∷ []) (Call 0))
    (one_less ∷ [])
    ≡ codes "# b::w iteration 0 size 1 2 3\n0\n0\n1\n2\n0\n0\n\n" ∷ []
unfolding digits Rattle.cx_plan.specs.declared.tree.Tree.TheBlock.hidden-the_row-Tree-0
    denote.Hole.Carrier.hidden
inside = refl

-- a point beside the grid is named by the one in it
beside : (place_at whole_box (item_of Cell 0 [] [] []) 0
    (record { x = negsuc 0; y = pos 1; z = pos 2 })).at
    ≡ record { x = pos 0; y = pos 1; z = pos 2 }
beside = refl

-- where a rule gives no numbers a point keeps its own
kept : level_after (whole shape) (λ _. true) (λ _. None) 0 (λ _. pos 4) ≡ replicate 6 (pos 4)
kept = refl
