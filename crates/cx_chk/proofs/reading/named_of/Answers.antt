use Rattle.std.specs.List.{zip}
use Rattle.std.proofs.lemmas.Result.{err_from_is_err_and}
use Rattle.cx_chk.specs.Reading.{named_at, some_at}
use Rattle.cx_chk.proofs.Loop.{goes_on, ends, is_done}
use Rattle.cx_chk.proofs.Outputs.{zip_more, one_longer}
use Rattle.cx_chk.proofs.reading.named_of.Goals as goal

pub returns-in_err-file-clause-read : goal.returns-in_err-file-clause-read
returns-in_err-file-clause-read c =
    let p = err_from_is_err_and c.from_residual.result c.from_residual.ensures.1 in
    rw (p.1, p.2) (ends named_at c.in_err-file.field-0.0 (zip c.each.names c.each.lengths)
    c.args.count c.each.counter c.each.rest.now (some_at named_at c.args.count c.args.bytes.now)
    c.each-test.true c.in_err-file.ensures c.each.invariant.read)

pub each-preserved : goal.each-preserved
each-preserved c =
    rw (c.in_ok-push.ensures.ok, c.in_ok-push-2.ensures.ok) (record {
      read =
          rw (zip_more c.each.names c.each.lengths c.in_ok-file.file.0 c.in_ok-file.file.1
          c.each.invariant.many)
          (goes_on named_at (zip c.each.names c.each.lengths)
          c.args.count c.each.counter c.each.rest.now c.in_ok-file.file c.in_ok-file.after.now
          (some_at named_at c.args.count c.args.bytes.now)
          c.each-test.true c.in_ok-file.ensures c.each.invariant.read);
      many = one_longer c.each.names c.each.lengths c.in_ok-file.file.0 c.in_ok-file.file.1
          c.each.invariant.many;
    })

pub returns-clause-read : goal.returns-clause-read
returns-clause-read c =
    is_done named_at (zip c.each.names c.each.lengths) c.args.count c.each.counter c.each.rest.now
    (some_at named_at c.args.count c.args.bytes.now) c.each-test.false c.each.invariant.read
