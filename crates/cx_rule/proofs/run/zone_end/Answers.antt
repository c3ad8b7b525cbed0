use Rattle.std.proofs.Common.{◌≡◌, ◌∙◌, sym, true, false, rules, SFits, w32, to_z-of_z}
use Rattle.cx_rule.specs.Rows.{hole_follows}
use Rattle.cx_rule.proofs.RunEnds.{before_hole, some_before, no_hole}
use Rattle.cx_rule.proofs.run.zone_end.Goals as goal

pub returns-then-hole_follows-clause-some : goal.returns-then-hole_follows-clause-some
returns-then-hole_follows-clause-some c =
    let hx : SFits w32 c.args.zone.now.hole.low.x = search rules in
    let ax : SFits w32 c.args.zone.now.all.high.x = search rules in
    let ex : SFits w32 c.lesser.result = search rules in
    let least = rw (to_z-of_z hx, to_z-of_z ax) at c.lesser.ensures in
    let behind : hole_follows c.args.zone.now c.args.low ≡ true =
    sym c.hole_follows.ensures ∙ c.if-hole_follows.true in
    rw (to_z-of_z ex) (some_before c.args.zone.now c.args.low c.requires.all c.lesser.result least
    behind)

pub returns-then-hole_follows-clause-zone : goal.returns-then-hole_follows-clause-zone
returns-then-hole_follows-clause-zone c =
    let hx : SFits w32 c.args.zone.now.hole.low.x = search rules in
    let ax : SFits w32 c.args.zone.now.all.high.x = search rules in
    let ex : SFits w32 c.lesser.result = search rules in
    let least = rw (to_z-of_z hx, to_z-of_z ax) at c.lesser.ensures in
    rw (to_z-of_z ex) (before_hole c.args.zone.now c.args.low c.requires.all c.lesser.result least)

pub returns-else-hole_follows-clause-zone : goal.returns-else-hole_follows-clause-zone
returns-else-hole_follows-clause-zone c =
    let ax : SFits w32 c.args.zone.now.all.high.x = search rules in
    let none : hole_follows c.args.zone.now c.args.low ≡ false =
    sym c.hole_follows.ensures ∙ c.if-hole_follows.false in
    rw (to_z-of_z ax) (no_hole c.args.zone.now c.args.low c.requires.all c.requires.zone none)
