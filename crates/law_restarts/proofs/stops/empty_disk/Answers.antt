use Rattle.std.proofs.Common.{◌∙◌, ap}
use Rattle.cx_disk.specs.Memory.{fresh}
use Rattle.law_restarts.proofs.StopLaws.{empty_trails}
use Rattle.law_restarts.proofs.stops.empty_disk.Goals as goal

pub returns-clause-trails : goal.returns-clause-trails
returns-clause-trails c = λ job rules.
    empty_trails job rules c.new.result (c.new.ensures.unmounted ∙ ap fresh c.empty.ensures)
