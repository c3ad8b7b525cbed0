use Rattle.std.proofs.Common.{rules}
use Rattle.cx_balance.proofs.OwnLaws.{chosen_accepted, chosen_parts}
use Rattle.cx_balance.proofs.cutting.cut_by_weight.Goals as goal

pub returns-clause-value : goal.returns-clause-value
returns-clause-value c = search rules

pub returns-clause-accepted : goal.returns-clause-accepted
returns-clause-accepted c =
    chosen_accepted c.args.job.now c.args.state.now
    (record {
      x = c.in_ok-widths.field-0;
      y = c.in_ok-widths-2.field-0;
      z = c.in_ok-widths-3.field-0;
    }) c.requires.whole c.requires.cut (returns-clause-value c)

pub returns-clause-parts : goal.returns-clause-parts
returns-clause-parts c =
    chosen_parts c.args.job.now c.args.state.now
    (record {
      x = c.in_ok-widths.field-0;
      y = c.in_ok-widths-2.field-0;
      z = c.in_ok-widths-3.field-0;
    }) c.requires.whole c.requires.cut (returns-clause-value c)
