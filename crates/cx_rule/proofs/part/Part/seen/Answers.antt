use Rattle.std.proofs.Common.{◌∙◌, sym}
use Rattle.cx_rule.proofs.FaceLaws.{local_is_near}
use Rattle.cx_rule.proofs.part.Part.seen.Goals as goal

pub moved-requires : goal.moved-requires
moved-requires c =
    local_is_near _ _ _ c.is_scalar.ensures.patch.part _
    (c.requires.read.near (sym c.is_scalar.ensures.value ∙ c.if-is_scalar.false)
    c.args.offset c.requires.offset)

pub get-requires-clause-point : goal.get-requires-clause-point
get-requires-clause-point c =
    rw c.moved.ensures (c.requires.read.near (sym c.is_scalar.ensures.value ∙ c.if-is_scalar.false)
    c.args.offset c.requires.offset)
