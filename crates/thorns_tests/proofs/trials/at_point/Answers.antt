use Rattle.std.proofs.Common.{◌∙◌, ap, length}
use Rattle.std.proofs.lemmas.List.{length-replicate}
use Rattle.cx_rule.proofs.FaceLaws.{local_near}
use Rattle.thorns_tests.proofs.TrialLaws.{fits_at}
use Rattle.thorns_tests.proofs.trials.at_point.Goals as goal

pub new-at-requires-clause-point : goal.new-at-requires-clause-point
new-at-requires-clause-point g c =
    let p = c.args.patch.now in
    c.wrap.ensures.inside (rw c.shape-shape.ensures.value
    (local_near p.shape p.owned p.local c.shape-shape.ensures.patch.part _
    c.requires.can.point))

pub point-requires : goal.point-requires
point-requires g c =
    let p = c.args.patch.now in
    fits_at _ c.args.item.now p c.args.from c.args.p _ _ _ _ c.shape-shape.result.now c.wrap.result
    c.shape-shape.ensures.patch.part.shape c.requires.can.routine c.window.ensures.seen
    c.shape-shape.ensures.value c.wrap.ensures.value c.new-at.ensures
    (c.wrap.ensures.inside (rw c.shape-shape.ensures.value
    (local_near p.shape p.owned p.local c.shape-shape.ensures.patch.part _
    c.requires.can.point)))
    (ap (λ ns. length ns) c.in_ok-out.ensures ∙ length-replicate _ _ ∙ c.len.ensures)
