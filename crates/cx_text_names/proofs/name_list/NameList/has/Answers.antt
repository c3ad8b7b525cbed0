use Rattle.std.proofs.Common.{◌∙◌, ap}
use Rattle.cx_text.specs.Lexemes.{among}
use Rattle.cx_text_names.proofs.TableLaws.{found}
use Rattle.cx_text_names.proofs.name_list.NameList.has.Goals as goal

pub returns : goal.returns
returns c =
    c.contains.ensures
    ∙ found (λ v. v.items) c.in_ok-key.key c.self.inside.table.keys c.args.name.now
    c.self.inside.names.items c.in_ok-key.ensures c.self.invariant
    ∙ ap (λ ns. among ns c.args.name.now) c.self.view_is
