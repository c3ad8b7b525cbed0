use Rattle.std.proofs.Common.{sym, take}
use Rattle.std.proofs.lemmas.List.{take_more}
use Rattle.cx_text.proofs.Whole.{last_line-push}
use Rattle.cx_text.proofs.reader.last_line.Goals as goal

pub loop-token-preserved : goal.loop-token-preserved
loop-token-preserved c =
    let more = take_more c.args.tokens.now c.loop-token.token-index c.token-item.result
    c.loop-token-test.true in
    rw (more, ← c.token-item.is)
    (sym (last_line-push (take c.loop-token.token-index c.args.tokens.now) c.token-item.result))
