use Rattle.cx_rule.specs.Filling.{FilledVars}
use Rattle.cx_rule.proofs.part.Part.fill.Given as goal

abbrev pub invariant-vars : goal.invariant-vars
invariant-vars l = FilledVars l.initial.self l.self l.vars l.b l.values l.i
