use Rattle.std.proofs.Common.{◌∙◌, sym, ap, arith, length, w64, SFits, rules}
use Rattle.std.proofs.lemmas.Int.{to_z-of_z}
use Rattle.std.proofs.lemmas.List.{length-set}
use Rattle.cx_core_events.specs.Paces.{Paces}
use Rattle.cx_core_events.specs.Events.{can_go}
use Rattle.cx_core_events.proofs.FlagLaws.{same_count}
use Rattle.cx_core_events.proofs.pace.Pace.moved.Goals as goal

pub follow-requires-clause-count : goal.follow-requires-clause-count
follow-requires-clause-count c =
    let fits : SFits w64 c.args.scalar = search rules in
    same_count c.self.inside.flags.parts.items (can_go c.self.inside.standings)
    (length c.self.inside.standings.parts) c.self.invariant.parts
    ∙ sym (ap (λ (p : Paces). length p.parts)
    (c.in_ok-alone.ensures.ok (λ v. c.args.scalar)
    (λ v e. sym (to_z-of_z w64 c.args.scalar fits)))
    ∙ length-set c.self.inside.standings.parts c.args.k _)

pub follow-requires-clause-part : goal.follow-requires-clause-part
follow-requires-clause-part c =
    let fits : SFits w64 c.args.scalar = search rules in
    let same = ap (λ (p : Paces). length p.parts)
    (c.in_ok-alone.ensures.ok (λ v. c.args.scalar)
    (λ v e. sym (to_z-of_z w64 c.args.scalar fits)))
    ∙ length-set c.self.inside.standings.parts c.args.k _ in
    omega (arith, same, c.requires.part, ap (λ (p : Paces). length p.parts) c.self.view_is)

pub invariant_of-self-2 : goal.invariant_of-self-2
invariant_of-self-2 c = c.follow.ensures c.self.inside.standings c.self.invariant
    (λ told. c.in_ok-alone.ensures.alone told)

pub returns-clause-ok : goal.returns-clause-ok
returns-clause-ok c =
    let fits : SFits w64 c.args.scalar = search rules in
    rw (← c.self.view_is) (λ scalars tested.
    c.in_ok-alone.ensures.ok scalars
    (λ v e. tested v e ∙ sym (to_z-of_z w64 c.args.scalar fits)))
