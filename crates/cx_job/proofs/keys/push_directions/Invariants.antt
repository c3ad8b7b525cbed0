use Rattle.std.proofs.Common.{◌≡◌, ◌++◌}
use Rattle.std.specs.List.{flat_map, range_with_len}
use Rattle.cx_job.specs.Keys.{direction_line}
use Rattle.cx_job.proofs.keys.push_directions.Given as goal

abbrev pub invariant-directions : goal.invariant-directions
invariant-directions l =
    l.text ≡ l.fn.text ++ flat_map (direction_line l.shape) (range_with_len 0 l.direction)
