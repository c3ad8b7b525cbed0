use Rattle.std.proofs.Common.{arith}
use Rattle.cx_core_events.proofs.FlagLaws.{one_set}
use Rattle.cx_core_events.proofs.flags.set_flag.Goals as goal

pub returns-then-k-count-clause-kept : goal.returns-then-k-count-clause-kept
returns-then-k-count-clause-kept c =
    one_set c.args.standings.now c.args.flags.now.items c.args.k c.can_go.result
    (let l = c.if-k-count.true in omega (arith, l, c.count.ensures.value, c.requires))
    c.can_go.ensures
