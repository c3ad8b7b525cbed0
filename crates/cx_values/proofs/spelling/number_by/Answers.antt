use Rattle.std.proofs.Common.{◌∙◌, ap, pos, position}
use Rattle.std.specs.Option.{option_map}
use Rattle.cx_values.specs.Spelling.{is_word}
use Rattle.cx_values.proofs.spelling.number_by.Goals as goal

pub returns-in-Keyword-Text : goal.returns-in-Keyword-Text
returns-in-Keyword-Text c =
    rw (c.in-Keyword-Text.is-0, c.in-Keyword-Text.is-1)
    (c.number_of_word.ensures
    ∙ ap (λ t. option_map (λ k. pos k) (position (is_word t) c.args.ranges.now)) c.as_slice.ensures)
