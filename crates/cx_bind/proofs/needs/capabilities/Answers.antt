use Rattle.std.proofs.Common.{◌∙◌, ap, ◌||◌}
use Rattle.cx_text.specs.Lexemes.{among}
use Rattle.cx_bind.specs.NameSets.{has}
use Rattle.cx_bind.specs.Faults.{is_provided}
use Rattle.cx_bind.proofs.HasLaws.{one_had}
use Rattle.cx_bind.proofs.needs.capabilities.Goals as goal

pub thorns-preserved : goal.thorns-preserved
thorns-preserved c =
    one_had (λ o t. among t.conf.provides o)
    c.args.thorns.now c.thorns.thorn-index c.thorn-item.result c.thorns.names
    c.insert_all.new.self (is_provided c.args.thorns.now)
    c.thorns-test.true c.thorn-item.is c.thorns.invariant
    (λ o. c.in_ok-insert_all.ensures o
    ∙ ap (λ names. has c.thorns.names o || among names o) c.as_slice.ensures)
