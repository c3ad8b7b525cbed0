use Rattle.std.proofs.Common.{◌∷◌, [], append_assoc}
use Rattle.cx_text.specs.Written.{word}
use Rattle.cx_parfile.specs.ParFile.{ACTIVETHORNS}
use Rattle.cx_parfile.specs.Printed.{joined, value_tokens}
use Rattle.cx_parfile.proofs.printer.thorns_line.Goals as goal

pub returns : goal.returns
returns c =
    let all = c.in_ok-value_tokens.ensures in
    let keyword = c.in_ok-push_word.ensures.ok in
    let slice = c.as_slice.ensures in
    let value = c.in_ok-value.ensures in
    rw (all, keyword, slice, value)
    (append_assoc c.args.tokens.now (word ACTIVETHORNS ∷ [])
    (value_tokens (joined c.args.thorns.now)))
