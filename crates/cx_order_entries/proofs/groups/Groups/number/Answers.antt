use Rattle.std.proofs.Common.{◌≡◌, ◌∙◌, ap, subst, ℕ, Option}
use Rattle.std.specs.Prelude.{IfOk}
use Rattle.std.specs.List.{position}
use Rattle.std.specs.Str.{bytes_eq}
use Rattle.cx_order_entries.specs.Members.{texts}
use Rattle.cx_order_entries.proofs.OnceLaws.{position-map}
use Rattle.cx_order_entries.proofs.groups.Groups.number.Goals as goal
use Rattle.cx_text.specs.Bytes.{folded}

pub returns-clause-number : goal.returns-clause-number
returns-clause-number c =
    let ts = texts c.args.self.now in
    let P : Option ℕ → Type 0 = λ p. IfOk c.number.result (λ number. number ≡ p) in
    subst P
    (ap (λ n. position (bytes_eq (folded n)) c.args.self.now.numbers) c.as_slice.ensures
    ∙ ap (λ ns. position (bytes_eq (folded c.args.name.now)) ns) c.requires
    ∙ position-map (bytes_eq (folded c.args.name.now)) folded ts)
    c.number.ensures.number
