use Rattle.std.proofs.Common.{◌≡◌, drop}
use Rattle.cx_bind.specs.Faults.{first_group, is_grid_but}
use Rattle.cx_bind.proofs.unsupported.first_grid_of_all.Given as goal

abbrev pub invariant-loop-thorn : goal.invariant-loop-thorn
invariant-loop-thorn l =
    first_group (is_grid_but l.dim) (drop l.thorn-index l.thorns)
    ≡ first_group (is_grid_but l.dim) l.thorns
