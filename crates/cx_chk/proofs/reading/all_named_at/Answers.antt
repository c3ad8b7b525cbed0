use Rattle.cx_chk.proofs.Outputs.{named_gives}
use Rattle.cx_chk.proofs.reading.all_named_at.Goals as goal

pub returns : goal.returns
returns c = named_gives (λ x. x.0.0) (λ x. x.0.1) (λ x. x.1.now)
    c.named_of.result c.in_ok-count.count c.args.bytes.now c.in_ok-count.rest.now
    c.in_ok-count.ensures c.named_of.ensures.read c.named_of.ensures.many
