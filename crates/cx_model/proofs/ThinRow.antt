-- On a grid that is too thin to have interior points the numbers of the beginning come through: a
-- boundary point's source is then itself a boundary point.
use Rattle.std.specs.Prelude.{◌≡◌, refl, false, pos, negsuc, List, [], ◌∷◌, replicate, codes}
use Rattle.std.specs.Fmt.{digits}
use Rattle.cx_text.specs.declared.ctype.CType.TheVariants.{Int}
use Rattle.cx_plan.specs.declared.item.Region.{Region}
use Rattle.cx_plan.specs.declared.item.Region.TheVariants.{Interior, Boundary}
use Rattle.cx_plan.specs.declared.item.Touch.{Touch}
use Rattle.cx_plan.specs.declared.item.ItemKind.TheVariants.{Cell}
use Rattle.cx_plan.specs.declared.tree.Tree.{Tree, Seq, Call, Sync}
use Rattle.cx_plan.specs.Setups.{Setup}
use Rattle.cx_rule.specs.Routine.{Rule}
use Rattle.cx_rule.specs.Single.{zero_rule, read_rule}
use Rattle.cx_model.specs.Runs.{output_of}
use Rattle.cx_model.specs.Alike.{run_from}

abbrev touch : Region → Touch
touch region = record { var = record { 0 = 0 }; level = 0; region = region; reach = 0 }

-- two points, both boundary points; the interior is written, exchanged, and the boundary taken from
-- it
abbrev thin : Setup
thin =
    record {
      shape = record {
        dims = 1;
        n = record { x = pos 2; y = pos 1; z = pos 1 };
        ghost_ = record { x = pos 1; y = pos 0; z = pos 0 };
        periodic = false ∷ false ∷ false ∷ [];
      };
      vars = record { full = codes "a::u"; ctype = Int; scalar = false; levels = 1 } ∷ [];
      items =
          record {
            thorn = [];
            name = [];
            path = [];
            kind = Cell;
            routine = 0;
            reads = [];
            writes = touch Interior ∷ [];
            params = [];
          }
          ∷ record {
            thorn = [];
            name = [];
            path = [];
            kind = Cell;
            routine = 1;
            reads = touch Interior ∷ [];
            writes = touch Boundary ∷ [];
            params = [];
          } ∷ [];
      bins = Seq [] ∷ Seq [] ∷ Seq [] ∷ Seq []
          ∷ Seq (Call 0 ∷ Sync (record { 0 = 0 } ∷ []) [] ∷ Call 1 ∷ []) ∷ replicate 12 (Seq []);
      itlast = 0;
      while_limit = 1;
      out_every = pos 1;
      out_vars = record { 0 = 0 } ∷ [];
      chk_every = negsuc 0;
      on_end = false;
      steers = [];
    }

abbrev rules : List Rule
rules = zero_rule ∷ read_rule ∷ []

zeros_come_through : output_of (record { 0 = 0 })
    (run_from thin rules (((pos 0 ∷ pos 0 ∷ []) ∷ []) ∷ [])).entries
    ≡ codes "# a::u iteration 0 size 2\n0 0\n\n"
unfolding digits Rattle.cx_plan.specs.declared.tree.Tree.TheBlock.hidden-the_row-Tree-0
    denote.Hole.Carrier.hidden
zeros_come_through = refl

sevens_come_through : output_of (record { 0 = 0 })
    (run_from thin rules (((pos 7 ∷ pos 7 ∷ []) ∷ []) ∷ [])).entries
    ≡ codes "# a::u iteration 0 size 2\n7 7\n\n"
unfolding digits Rattle.cx_plan.specs.declared.tree.Tree.TheBlock.hidden-the_row-Tree-0
    denote.Hole.Carrier.hidden
sevens_come_through = refl
