use Rattle.cx_job_files.proofs.reading.thorn_files.Goals as goal

pub returns-clause-follows : goal.returns-clause-follows
returns-clause-follows g c = rw c.in_ok-names.ensures at c.thorn_says.ensures.follows
