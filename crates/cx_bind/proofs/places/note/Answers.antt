use Rattle.std.proofs.Common.{◌∙◌, ap, ◌||◌, ◌&&◌}
use Rattle.std.specs.Str.{bytes_eq}
use Rattle.indexmap.specs.IndexMap.{insert_entry}
use Rattle.cx_text.specs.Lexemes.{same_name}
use Rattle.cx_bind.specs.NameSets.{has}
use Rattle.cx_bind.specs.NamePlaces.{at_name}
use Rattle.std.specs.Option.{is_some}
use Rattle.cx_bind.proofs.HasLaws.{if_ok}
use Rattle.cx_bind.proofs.NamedLaws.{noted}
use Rattle.cx_bind.proofs.places.note.Goals as goal
use Rattle.cx_text.specs.Bytes.{folded}

pub returns : goal.returns
returns c =
    if_ok c.insert.result
    (λ _ put. noted c.args.places.now c.args.named.now.firsts c.insert.new.self
    c.args.named.now.several c.note_again.new.several c.index-places-at.result c.args.at
    c.in_ok-again.again c.requires.within c.index-places-at.is c.requires.later
    (c.in_ok-again.ensures ∙ ap (λ n. is_some (at_name c.args.places.now c.args.named.now.firsts n))
    c.as_slice-name.ensures)
    (λ o. c.in_ok-note_again.ensures o
    ∙ ap (λ n. has c.args.named.now.several o || (c.in_ok-again.again && same_name n o))
    c.as_slice-name.ensures)
    (put ∙ ap (λ n. insert_entry bytes_eq c.args.named.now.firsts (folded n) c.args.at)
    c.as_slice-name.ensures))
    c.insert.ensures.put
