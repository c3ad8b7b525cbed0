use Rattle.std.proofs.Common.{◌∙◌, ap, ◌||◌}
use Rattle.cx_text.specs.Lexemes.{same_name, among}
use Rattle.cx_bind.specs.NameSets.{has}
use Rattle.cx_bind.proofs.PlaceLaws.{bytes_eq_sym}
use Rattle.cx_bind.proofs.HasLaws.{one_had}
use Rattle.cx_bind.proofs.name_set.NameSet.insert_all.Goals as goal
use Rattle.cx_text.specs.Bytes.{folded}

pub names-preserved : goal.names-preserved
names-preserved c =
    one_had same_name c.args.names.now c.names.name-index c.name-item.result c.names.self
    c.insert.new.self (λ o. has c.args.self.now o || among c.args.names.now o)
    c.names-test.true c.name-item.is c.names.invariant
    (λ o. c.in_ok-insert.ensures.names o
    ∙ ap (λ n. has c.names.self o || same_name n o) c.as_slice.ensures
    ∙ ap (λ b. has c.names.self o || b) (bytes_eq_sym (folded c.name-item.result) (folded o)))
