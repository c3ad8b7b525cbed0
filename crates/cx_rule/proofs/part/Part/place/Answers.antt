use Rattle.cx_rule.proofs.FaceLaws.{placed_near}
use Rattle.cx_rule.proofs.part.Part.place.Goals as goal

pub new-requires-clause-point : goal.new-requires-clause-point
new-requires-clause-point c =
    c.wrap-at.ensures.inside
    (rw (c.shape-shape.ensures.value, c.placed.ensures)
    (placed_near _ _ _ c.shape-shape.ensures.patch.part c.args.item.now.kind c.args.p
    c.requires.point))

pub returns-clause-inside : goal.returns-clause-inside
returns-clause-inside c =
    let i = c.wrap-at.ensures.inside
    (rw (c.shape-shape.ensures.value, c.placed.ensures)
    (placed_near _ _ _ c.shape-shape.ensures.patch.part c.args.item.now.kind c.args.p
    c.requires.point)) in
    rw (c.new.ensures, ← c.shape-shape.ensures.value) i
