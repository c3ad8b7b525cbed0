use Rattle.std.proofs.Common.{◌≡◌}
use Rattle.cx_ascii_read.specs.Printed.{sizes_of}
use Rattle.cx_run_chunks.proofs.outputs.grid_sizes.Given as goal

abbrev pub invariant-directions : goal.invariant-directions
invariant-directions l = l.sizes ≡ sizes_of l.direction l.shape.n
