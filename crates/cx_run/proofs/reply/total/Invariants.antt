use Rattle.std.proofs.Common.{◌≡◌, ◌+◌, ◌*◌, ◌^◌, ◌≤◌, drop}
use Rattle.cx_keep.specs.Trails.{total}
use Rattle.cx_run.proofs.reply.total.Given as goal

abbrev pub invariant-each : goal.invariant-each
invariant-each l =
    (l.sum + total (drop l.length-index l.lengths) ≡ total l.lengths)
    × (l.sum ≤ l.length-index * 2 ^ 64)
