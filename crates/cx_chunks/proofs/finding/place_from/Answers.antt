use Rattle.std.proofs.Common.{◌∙◌, sym}
use Rattle.cx_chunks.proofs.FindLaws.{found_ahead, found_first}
use Rattle.cx_chunks.proofs.finding.place_from.Goals as goal

pub returns-in-Some : goal.returns-in-Some
returns-in-Some c =
    found_ahead c.args.full.now c.args.iteration c.args.near c.in-Some.ahead c.args.pieces.now
    c.requires.single (sym c.first_place.ensures ∙ c.in-Some.is)

pub returns-in-None : goal.returns-in-None
returns-in-None c =
    found_first c.args.full.now c.args.iteration c.args.pieces.now c.first_place-in-None.result
    c.first_place-in-None.ensures
