use Rattle.std.proofs.Common.{◌-◌}
use Rattle.std.specs.Prelude.{option_copied}
use Rattle.cx_chunks.specs.Combining.{found_values}
use Rattle.cx_chunks.proofs.JoinLaws.{IsPut}
use Rattle.cx_chunks.proofs.RowPlaces.{IsStart}
use Rattle.cx_chunks.proofs.combining.put_part.Given as goal

abbrev pub invariant-rows : goal.invariant-rows
invariant-rows l =
    record {
      put : IsPut l.all l.own (found_values (option_copied l.piece)) l.initial.level.items
          l.from l.level.items;
      start : IsStart l.own l.from;
    }

abbrev pub decreases-rows : goal.decreases-rows
decreases-rows l = l.end - l.from
