use Rattle.std.proofs.Common.{◌≡◌, ◌∙◌, sym, rules, SFits, w32, to_z-of_z, true}
use Rattle.cx_grid.specs.Boxes.{has_point}
use Rattle.cx_rule.proofs.SkipLaws.{hole_run, some_left}
use Rattle.cx_rule.proofs.sweep.hole_from.Goals as goal

pub returns-clause-none : goal.returns-clause-none
returns-clause-none c = λ none.
    let px : SFits w32 c.args.p.x = search rules in
    let hx : SFits w32 c.args.zone.now.hole.high.x = search rules in
    let ax : SFits w32 c.args.zone.now.all.high.x = search rules in
    let ex : SFits w32 c.lesser-end.result = search rules in
    let hole : has_point c.args.zone.now.hole c.args.p ≡ true =
    sym c.contains.ensures.value ∙ c.if-not-contains.false in
    let to = rw (to_z-of_z px, to_z-of_z ex) at c.steps_to.ensures.value in
    let least = rw (to_z-of_z hx, to_z-of_z ax) at c.lesser-end.ensures in
    some_left c.args.zone.now c.args.p c.steps_to.result c.lesser-end.result c.requires hole to
    least none

pub returns-clause-outside : goal.returns-clause-outside
returns-clause-outside c =
    let px : SFits w32 c.args.p.x = search rules in
    let hx : SFits w32 c.args.zone.now.hole.high.x = search rules in
    let ax : SFits w32 c.args.zone.now.all.high.x = search rules in
    let ex : SFits w32 c.lesser-end.result = search rules in
    let hole : has_point c.args.zone.now.hole c.args.p ≡ true =
    sym c.contains.ensures.value ∙ c.if-not-contains.false in
    let to = rw (to_z-of_z px, to_z-of_z ex) at c.steps_to.ensures.value in
    let least = rw (to_z-of_z hx, to_z-of_z ax) at c.lesser-end.ensures in
    hole_run c.args.zone.now c.args.p c.steps_to.result c.lesser-end.result c.requires hole to least
