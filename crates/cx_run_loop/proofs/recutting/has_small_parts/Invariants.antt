use Rattle.std.proofs.Common.{◌≡◌}
use Rattle.std.specs.Prelude.{nat_le}
use Rattle.cx_grid.specs.Boxes.{point_count}
use Rattle.cx_cut.specs.Cuts.{local, part_count}
use Rattle.cx_run_loop.specs.Recuts.{has_small_parts}
use Rattle.cx_run_loop.proofs.RecutLaws.{all_from}
use Rattle.cx_run_loop.proofs.recutting.has_small_parts.Given as goal

abbrev pub invariant-parts : goal.invariant-parts
invariant-parts l =
    all_from (λ k. nat_le (point_count (local l.cut k)) l.most) l.part (part_count l.cut)
    ≡ has_small_parts l.cut l.most
