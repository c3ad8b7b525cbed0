use Rattle.std.proofs.Common.{◌∙◌, arith, length, false}
use Rattle.std.proofs.lemmas.List.{length-set}
use Rattle.std.proofs.lemmas.List.FromFn.{fill_by_all}
use Rattle.cx_core_events.specs.Events.{can_go}
use Rattle.cx_core_events.proofs.FlagLaws.{one_flag}
use Rattle.cx_core_events.proofs.flags.set_flags.Goals as goal

pub parts-preserved : goal.parts-preserved
parts-preserved c =
    let l = c.parts-test.true in
    record {
      size = length-set c.parts.flags.items c.parts.k c.can_go.result ∙ c.parts.invariant.size;
      done = one_flag c.parts.flags.items c.parts.k c.can_go.result (can_go c.args.standings.now)
          (omega (arith, l, c.count-count.ensures.value, c.parts.invariant.size))
          c.can_go.ensures c.parts.invariant.done;
    }

pub returns-clause-value : goal.returns-clause-value
returns-clause-value c =
    let past = c.parts-test.false in
    fill_by_all (can_go c.args.standings.now) c.parts.flags.items
    (length c.args.standings.now.parts) false c.parts.invariant.size
    (λ j l. c.parts.invariant.done j (omega (arith, l, past, c.count-count.ensures.value)))

pub returns-clause-few : goal.returns-clause-few
returns-clause-few c = omega (arith, c.count-count.ensures.value, c.count-count.ensures.few)
