use Rattle.std.proofs.Common.{◌∙◌, ap}
use Rattle.cx_text_names.proofs.TableLaws.{one_more}
use Rattle.cx_text_names.proofs.name_list.NameList.push.Goals as goal
use Rattle.cx_text.specs.Bytes.{folded}

pub invariant_of-self-in-Ok : goal.invariant_of-self-in-Ok
invariant_of-self-in-Ok c =
    one_more (λ v. v.items)
    c.in_ok-key.key c.self.inside.table.keys c.insert.new.self.keys c.args.name
    c.self.inside.names.items c.push.new.self.items
    (c.in_ok-key.ensures ∙ ap (λ n. folded n) c.as_slice.ensures)
    c.self.invariant c.in-Ok.ensures.keys c.in_ok-push.ensures.items
