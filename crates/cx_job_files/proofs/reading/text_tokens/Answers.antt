use Rattle.cx_job_files.proofs.ReadingLaws as laws
use Rattle.cx_job_files.proofs.reading.text_tokens.Goals as goal

pub returns-in-Ok : goal.returns-in-Ok
returns-in-Ok c = laws.text_ok c.args.style c.args.name.now c.args.bytes.now c.in-Ok.tokens
    (rw c.as_slice.ensures at c.in-Ok.ensures.reads)

pub returns-in-Err : goal.returns-in-Err
returns-in-Err c = laws.text_err c.args.style c.args.name.now c.args.bytes.now c.in-Err.fault
    c.text_fault.result (rw c.as_slice.ensures at c.in-Err.ensures.reads) c.text_fault.ensures.fault
