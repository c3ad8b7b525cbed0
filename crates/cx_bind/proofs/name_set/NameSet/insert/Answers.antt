use Rattle.std.proofs.Common.{◌∙◌, ap, sym, not}
use Rattle.cx_bind.proofs.HasLaws.{one_put}
use Rattle.cx_bind.proofs.SetLaws.{has_name}
use Rattle.cx_bind.proofs.name_set.NameSet.insert.Goals as goal

pub returns-clause-new : goal.returns-clause-new
returns-clause-new c =
    c.in_ok-new.ensures.added
    ∙ ap (λ b. not b) (has_name c.in_ok-folded_name.field-0 c.self.inside.names.keys (λ v. v.items)
    c.args.name.now c.args.self.now c.in_ok-folded_name.ensures (sym c.self.view_is))

pub returns-clause-names : goal.returns-clause-names
returns-clause-names c =
    one_put (λ v. v.items) c.in_ok-folded_name.field-0 c.self.inside.names.keys
    c.insert.new.self.keys c.args.name.now c.args.self.now c.in_ok-folded_name.ensures
    c.self.view_is c.in_ok-new.ensures.keys
