use Rattle.std.proofs.Common.{◌∙◌, sym}
use Rattle.cx_bind.proofs.SetLaws.{has_name}
use Rattle.cx_bind.proofs.name_set.NameSet.has.Goals as goal

pub returns : goal.returns
returns c =
    c.contains.ensures
    ∙ has_name c.in_ok-key.key c.self.inside.names.keys (λ v. v.items)
    c.args.name.now c.args.self.now c.in_ok-key.ensures (sym c.self.view_is)
