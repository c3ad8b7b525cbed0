use Rattle.std.proofs.Common.{◌∙◌, ap, ◌||◌}
use Rattle.cx_text.specs.Lexemes.{same_name}
use Rattle.cx_bind.specs.NameSets.{has}
use Rattle.cx_bind.specs.Faults.{is_active}
use Rattle.cx_bind.proofs.HasLaws.{one_had}
use Rattle.cx_bind.proofs.active.thorn_names.Goals as goal

pub providers-preserved : goal.providers-preserved
providers-preserved c =
    one_had (λ o p. same_name p.thorn o)
    c.args.providers.now c.providers.provider-index c.provider-item.result c.providers.names
    c.insert.new.self (is_active c.args.providers.now)
    c.providers-test.true c.provider-item.is c.providers.invariant
    (λ o. c.in_ok-insert.ensures.names o
    ∙ ap (λ n. has c.providers.names o || same_name n o) c.as_slice.ensures)
