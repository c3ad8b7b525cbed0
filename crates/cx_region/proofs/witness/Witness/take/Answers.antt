use Rattle.std.proofs.Common.{refl, sym, Ok, Err}
use Rattle.cx_region.specs.declared.witness.WitnessStop.TheVariants.{Unset}
use Rattle.cx_region.specs.Witnesses.{act_of}
use Rattle.cx_region.proofs.StepLaws.{comes-takes}
use Rattle.cx_region.proofs.witness.Witness.take.Goals as goal

pub returns-in-Some-clause-comes : goal.returns-in-Some-clause-comes
returns-in-Some-clause-comes c = λ there.
    comes-takes c.args.job.now (act_of c.args.step) c.args.self
    (Err (Unset c.args.self.letters c.in-Some.unmet)) c.requires there
    (refl, sym c.in-Some.ensures)

pub returns-clause-comes : goal.returns-clause-comes
returns-clause-comes c = λ there.
    comes-takes c.args.job.now (act_of c.args.step) c.args.self
    (Ok (record { letters = c.args.self.letters; flags = c.leave.new.flags })) c.requires there
    (record { letters = refl; met = sym c.in_default.ensures; flags = c.leave.ensures there })
