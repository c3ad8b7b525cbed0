use Rattle.cx_job.specs.Keys.{parameter_line}
use Rattle.cx_job.proofs.LineLaws.{one_index_more}
use Rattle.cx_job.proofs.keys.push_elements.Goals as goal

pub elements-preserved : goal.elements-preserved
elements-preserved c =
    one_index_more (parameter_line c.args.values.now c.args.param.now)
    c.args.text.now c.elements.k c.elements.invariant c.in_ok-push_element.ensures
