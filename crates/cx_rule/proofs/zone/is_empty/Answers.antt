use Rattle.std.proofs.Common.{◌∙◌, sym}
use Rattle.cx_rule.proofs.ZoneLaws.{none_within}
use Rattle.cx_rule.proofs.zone.is_empty.Goals as goal

pub returns : goal.returns
returns c = λ e. none_within c.args.zone.now (sym c.eq.ensures ∙ e)
