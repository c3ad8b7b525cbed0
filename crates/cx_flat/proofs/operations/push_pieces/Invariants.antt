-- the pieces so far, and those that are left, are all
use Rattle.std.proofs.Common.{◌≡◌, ◌++◌, drop}
use Rattle.cx_flat.specs.Code.{pieces_code}
use Rattle.cx_flat.proofs.operations.push_pieces.Given as goal

abbrev pub invariant-variables : goal.invariant-variables
invariant-variables l = l.ops.items ++ pieces_code (drop l.variable-index l.variables)
    ≡ l.fn.ops.items ++ pieces_code l.variables
