use Rattle.cx_core_place.proofs.RunLaws.{places_fit}
use Rattle.cx_core_place.proofs.law.places_fit.Goals as goal

pub returns : goal.returns
returns c = places_fit c.args.job.now c.requires
