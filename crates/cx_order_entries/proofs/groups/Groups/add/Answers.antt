use Rattle.std.proofs.Common.{◌∙◌, ap, not, map, [], ◌∷◌}
use Rattle.std.proofs.lemmas.List.{map-append}
use Rattle.std.specs.List.{list_any}
use Rattle.std.specs.Str.{bytes_eq}
use Rattle.cx_order_entries.specs.Members.{texts}
use Rattle.cx_order_entries.proofs.OnceLaws.{is-there, added, kept}
use Rattle.cx_order_entries.proofs.groups.Groups.add.Goals as goal
use Rattle.cx_text.specs.Bytes.{folded}

pub returns-in_ok-push-clause-names : goal.returns-in_ok-push-clause-names
returns-in_ok-push-clause-names c =
    let ts = texts c.args.self.now in
    let n = c.args.name.now in
    let b = c.in_ok-insert.field-0 in
    ap (map (λ name. name.now)) c.in_ok-push.ensures.items
    ∙ map-append (λ name. name.now) c.args.self.now.names.items (c.args.name ∷ [])
    ∙ added n ts b (is-there n c.args.self.now.numbers ts b c.requires
    (c.in_ok-insert.ensures.new
    ∙ ap (λ m. not (list_any (bytes_eq (folded m)) c.args.self.now.numbers))
    c.as_slice.ensures)) c.if-branch.true

pub returns-else-branch-clause-names : goal.returns-else-branch-clause-names
returns-else-branch-clause-names c =
    let ts = texts c.args.self.now in
    let n = c.args.name.now in
    let b = c.in_ok-insert.field-0 in
    kept n ts b (is-there n c.args.self.now.numbers ts b c.requires
    (c.in_ok-insert.ensures.new
    ∙ ap (λ m. not (list_any (bytes_eq (folded m)) c.args.self.now.numbers))
    c.as_slice.ensures)) c.if-branch.false
