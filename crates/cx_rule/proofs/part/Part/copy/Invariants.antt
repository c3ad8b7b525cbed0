use Rattle.std.proofs.Common.{◌≡◌, take}
use Rattle.cx_rule.specs.Faces.{box_numbers}
use Rattle.cx_rule.proofs.part.Part.copy.Given as goal

abbrev pub invariant-vars : goal.invariant-vars
invariant-vars l = l.out.items ≡ box_numbers l.self l.b (take l.v-index l.vars)
