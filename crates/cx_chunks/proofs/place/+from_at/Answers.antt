use Rattle.std.proofs.Common.{rules, ◌≡◌, ◌<◌, sym, codes, None}
use Rattle.cx_ascii_read.specs.Reading.{skip_text}
use Rattle.cx_chunks.proofs.PieceLaws.{from_step}
use Rattle.cx_chunks.proofs.place.+from_at.Goals as goal

pub returns : goal.returns
returns t c =
    let none : skip_text (codes "size ") c.args.bytes.now ≡ None = search rules in
    let some : 0 < c.args.more = search rules in
    let step = from_step c.args.more c.args.from c.args.bytes.now c.in_ok-number.rest.now
    c.in_ok-number.number none some c.in_ok-number.ensures in
    rw (step, sym c.in_ok-push.ensures.ok) c.from_at.ensures
