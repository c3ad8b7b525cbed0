use Rattle.std.proofs.Common.{◌∙◌, ap, map}
use Rattle.cx_bind.specs.Parameters.{known_by}
use Rattle.cx_bind.proofs.ParameterLaws.{known_made}
use Rattle.cx_bind.proofs.known.all_known.Goals as goal

pub returns : goal.returns
returns c =
    known_made c.args.thorns.now c.in_ok-params.ensures
    (c.in_ok-knowns.ensures ∙ ap (λ params. map known_by params) c.as_slice.ensures)
    c.in_ok-push_thorns.ensures
