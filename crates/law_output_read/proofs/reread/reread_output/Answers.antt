use Rattle.cx_plan.specs.Setups.{setup_of}
use Rattle.law_output_read.specs.RunRecords.{run_records, all_run_records}
use Rattle.law_output_read.proofs.RecordLaws.{read_as}
use Rattle.law_output_read.proofs.reread.reread_output.Goals as goal

pub returns-clause-each : goal.returns-clause-each
returns-clause-each c = λ rules v is.
    read_as c.read_output.result (run_records (setup_of c.args.job.now) rules v)
    c.read_output.ensures.only is ((c.output_spells.ensures rules).each v)

pub returns-clause-former : goal.returns-clause-former
returns-clause-former c = λ rules is.
    read_as c.read_output.result (all_run_records (setup_of c.args.job.now) rules)
    c.read_output.ensures.only is (c.output_spells.ensures rules).former
