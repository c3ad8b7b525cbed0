use Rattle.std.proofs.Common.{◌≡◌, length, ap, arith}
use Rattle.std.specs.Option.{option_to_list}
use Rattle.cx_core_events.proofs.FlagLaws.{event_count}
use Rattle.cx_core_events.proofs.flags.Flags.count.Goals as goal

pub returns-in-Some : goal.returns-in-Some
returns-in-Some c = λ p h.
    let one : length (option_to_list c.args.self.now.writer) ≡ 1 =
    ap (λ o. length (option_to_list o)) c.in-Some.is in
    omega (arith, event_count p c.args.self.now h, one, h.going_few, c.saturating_add.ensures)
