use Rattle.law_output_read.proofs.RecordLaws.{is_reread}
use Rattle.law_output_read.proofs.reread.output_spells.Goals as goal

pub returns : goal.returns
returns c = λ rules.
    is_reread c.args.job.now c.requires.whole
    (record {
      sections = c.printed.ensures.sections;
      lines = c.printed.ensures.lines;
      joined = c.printed.ensures.joined;
    }) rules
    (c.run_keeps_states.ensures rules)
