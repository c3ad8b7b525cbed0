use Rattle.std.proofs.Common.{◌≡◌, ◌+◌, drop}
use Rattle.cx_outputs.specs.Names.{place_in}
use Rattle.cx_outputs.proofs.names.place_in.Given as goal

abbrev pub invariant-vars : goal.invariant-vars
invariant-vars l = (place_in l.fn.vars l.fn.v
    ≡ l.place + place_in (drop l.other-index l.fn.vars) l.fn.v) × (l.place ≡ l.other-index)
