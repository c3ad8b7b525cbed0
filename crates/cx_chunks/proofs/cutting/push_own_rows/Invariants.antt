use Rattle.std.proofs.Common.{◌≡◌, ◌++◌, ◌-◌, ◌/◌}
use Rattle.cx_ascii.specs.Output.{rows_in}
use Rattle.cx_grid.specs.Boxes.{extent}
use Rattle.cx_cut.specs.Cuts.{owned}
use Rattle.cx_chunks.specs.Cutting.{own_values}
use Rattle.cx_chunks.proofs.RowPlaces.{IsStart}
use Rattle.cx_chunks.proofs.cutting.push_own_rows.Given as goal

abbrev pub invariant-rows : goal.invariant-rows
invariant-rows l =
    record {
      start : IsStart (owned l.cut l.part) l.from;
      rows : l.text ≡ l.initial.text
          ++ rows_in (extent (owned l.cut l.part) 0) (own_values l.cut l.part l.level)
          (l.from / extent (owned l.cut l.part) 0);
    }

abbrev pub decreases-rows : goal.decreases-rows
decreases-rows l = l.end - l.from
