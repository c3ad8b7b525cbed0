use Rattle.cx_core_place.proofs.OpenLaws.{last_some, last_none}
use Rattle.cx_core_place.proofs.opened.last_turns.Goals as goal

pub returns-in-Some : goal.returns-in-Some
returns-in-Some c = last_some c.args.opened.now c.in-Some.open.now c.in-Some.ensures.value

pub returns-in-None : goal.returns-in-None
returns-in-None c = last_none c.args.opened.now c.in-None.ensures.value
