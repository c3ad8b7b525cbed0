use Rattle.std.proofs.Common.{map}
use Rattle.cx_core.specs.Steps.{counts}
use Rattle.core_tests.proofs.RunLaws.{begins_afresh}
use Rattle.core_tests.proofs.runs.run.Goals as goal

pub to_end-requires-clause-there : goal.to_end-requires-clause-there
to_end-requires-clause-there g c =
    let rules = map (λ r. (goal.Routine-dyn g (r.vtable, r.value)).rule r.value)
    c.args.routines.now in
    let wire = c.args.wire.now in
    let first = counts c.args.meter.now (g.W.Wire.received wire) (g.W.Wire.sum wire) in
    begins_afresh _ c.args.job.now rules first _ _
    (c.in_ok-core.ensures.begins g.W.Wire.tells rules (g.W.Wire.queue wire) first c.requires.empty
    (g.met.W.Wire.sum_fits wire))
