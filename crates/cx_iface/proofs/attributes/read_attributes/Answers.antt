use Rattle.cx_text.proofs.Loops.{begun, turned, fewer, stopped, ended_at}
use Rattle.cx_iface.proofs.AttributeLaws.{attribute_short}
use Rattle.cx_iface.proofs.attributes.read_attributes.Goals as goal

pub attributes-init : goal.attributes-init
attributes-init c = begun

pub attributes-preserved : goal.attributes-preserved
attributes-preserved c =
    turned attribute_short c.attributes.invariant c.at_attribute.ensures c.attributes-test.true
    c.in_ok-attribute.ensures

pub attributes-smaller : goal.attributes-smaller
attributes-smaller c = fewer attribute_short c.in_ok-attribute.ensures

pub returns-in_err-attribute : goal.returns-in_err-attribute
returns-in_err-attribute c =
    stopped _ _ _ _ attribute_short c.attributes.invariant c.at_attribute.ensures
    c.attributes-test.true c.in_err-attribute.ensures c.from_residual.ensures.1

pub returns : goal.returns
returns c = ended_at attribute_short c.attributes.invariant c.at_attribute.ensures
    c.attributes-test.false
