use Rattle.cx_rule.specs.Patches.{setup_in, values_in}
use Rattle.cx_rule.proofs.WindowLaws.{SeesTo}
use Rattle.cx_rule.proofs.part.Part.show.Given as goal

abbrev pub invariant-reads : goal.invariant-reads
invariant-reads l = SeesTo (setup_in l.self) l.item (values_in l.self) l.p l.fn.w.room l.k l.w
