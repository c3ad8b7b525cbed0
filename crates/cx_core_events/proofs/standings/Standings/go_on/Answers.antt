use Rattle.std.proofs.Common.{◌∙◌, sym, ap, arith, length, w64, SFits, rules}
use Rattle.std.proofs.lemmas.Int.{to_z-of_z}
use Rattle.cx_plan.specs.Setups.{setup_of}
use Rattle.cx_flat.specs.Code.{op_at}
use Rattle.cx_core_place.specs.Steps.{tested}
use Rattle.cx_core_events.specs.Paces.{Paces, no_part, part_of}
use Rattle.cx_core_events.specs.declared.standing.Standing.{Standing}
use Rattle.cx_core_events.proofs.PaceLaws.{made_on, get_at}
use Rattle.cx_core_events.proofs.standings.Standings.go_on.Goals as goal

pub op_at-op-requires : goal.op_at-op-requires
op_at-op-requires c =
    let fit = c.places_fit.ensures.fit
    (part_of c.args.self.now c.args.k).place c.requires.reached in
    omega (
      arith,
      fit.pc,
      c.pc-pc.ensures,
      ap (λ (s : Standing). s.place.pc) c.part-2.ensures,
      ap length c.as_slice.ensures,
      ap (λ (p : Paces). length p.ops) c.self.view_is,
      ap length c.requires.ops,
    )

pub returns-clause-ok : goal.returns-clause-ok
returns-clause-ok c =
    let fits : SFits w64 c.args.scalar = search rules in
    let work = rw (← c.self.view_is) at c.work-work.ensures in
    let part = rw (← c.self.view_is) at c.part.ensures in
    let place = rw (← c.self.view_is) at c.part-2.ensures in
    let here = c.op_at-op.ensures ∙ ap (λ ops. op_at ops c.pc-pc.result) c.as_slice.ensures
    ∙ ap (op_at c.self.inside.ops) (c.pc-pc.ensures ∙ ap (λ (s : Standing). s.place.pc) place) in
    rw (← c.self.view_is) (λ scalars asked.
    made_on (setup_of c.args.job.now)
    _ c.args.k scalars c.advance.new.self c.index_mut-part.result.now c.hand_in.new.works.items
    c.op_at-op.result.now c.work-work.result c.part.result.now.handed c.in_ok-handed.handed
    work (ap (λ (s : Standing). s.handed) part)
    c.in_ok-handed.ensures.value c.in_ok-handed.ensures.works here
    (get_at c.self.inside.parts.items c.args.k c.index_mut-part.result.now no_part
    (let l = rw (← c.self.view_is) at c.requires.part in l) c.index_mut-part.ensures.value)
    (c.advance.ensures scalars
    (λ v e. asked v (ap tested (sym here) ∙ e) ∙ sym (to_z-of_z w64 c.args.scalar fits))))
