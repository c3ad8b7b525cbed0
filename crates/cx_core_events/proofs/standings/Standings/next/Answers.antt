use Rattle.std.proofs.Common.{ap, arith, length}
use Rattle.cx_core_events.specs.Paces.{Paces}
use Rattle.cx_core_events.specs.declared.standing.Standing.{Standing}
use Rattle.cx_core_events.proofs.PaceLaws.{going_place}
use Rattle.cx_core_events.proofs.standings.Standings.next.Goals as goal

pub op_at-requires : goal.op_at-requires
op_at-requires c =
    let below = going_place c.args.self.now c.args.k c.requires.going in
    omega (
      arith,
      below,
      c.pc.ensures,
      ap (λ (s : Standing). s.place.pc) c.part.ensures,
      ap length c.as_slice.ensures,
      ap (λ (p : Paces). length p.ops) c.self.view_is,
    )
