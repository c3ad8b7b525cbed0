use Rattle.std.proofs.Common.{refl, sym}
use Rattle.cx_disk.proofs.Moments.{quiet_at_start}
use Rattle.cx_run.specs.Words.{request}
use Rattle.cx_run.proofs.Asked as asked
use Rattle.cx_run.proofs.TurnLaws as turned
use Rattle.cx_run.proofs.call.answer_to.Goals as goal

pub returns-in-Ok-clause-explained : goal.returns-in-Ok-clause-explained
returns-in-Ok-clause-explained g c =
    asked.with_job _ (request c.in-Some.command c.in-Some.file.now c.in-Some.seed)
    c.in-Ok.job c.done.result (sym c.in-Some.ensures)
    c.in-Ok.ensures.spared c.in-Ok.ensures.made c.in-Ok.ensures.ready
    c.done.ensures.comes c.done.ensures.begun

pub returns-in-Err-clause-explained : goal.returns-in-Err-clause-explained
returns-in-Err-clause-explained g c =
    asked.with_fault _ (request c.in-Some.command c.in-Some.file.now c.in-Some.seed)
    c.in-Err.fault c.answer_of.result (sym c.in-Some.ensures)
    c.in-Err.ensures.spared c.in-Err.ensures.made c.answer_of.ensures
    (record {
      disk = refl;
      quiet = λ told. quiet_at_start _;
      wire = refl;
      received = refl;
      meter = refl;
    })

pub returns-in-Ok-clause-turned : goal.returns-in-Ok-clause-turned
returns-in-Ok-clause-turned g c =
    turned.with_job g.T.Turns _ (request c.in-Some.command c.in-Some.file.now c.in-Some.seed)
    c.in-Ok.job _ _ _ (sym c.in-Some.ensures) c.in-Ok.ensures.made
    c.done.ensures.turned c.done.ensures.spared

pub returns-in-Err-clause-turned : goal.returns-in-Err-clause-turned
returns-in-Err-clause-turned g c =
    turned.with_fault g.T.Turns _ _ c.in-Err.fault c.answer_of.result c.answer_of.ensures
    (record {
      disk = refl;
      quiet = λ told. quiet_at_start _;
      wire = refl;
      received = refl;
      meter = refl;
    })
