use Rattle.std.proofs.Common.{◌≡◌, ◌≤◌, false, sym, subst, ◌∙◌, length}
use borrow.Author.Count.{below_more}
use Rattle.cx_plan.specs.Setups.{setup_of}
use Rattle.cx_region.specs.Shapes.{lacks_shape}
use Rattle.cx_region.proofs.ShapeLaws.{lacking, stands, first_found, none_found}
use Rattle.cx_region.proofs.check_shapes.first_shapeless.Goals as goal

pub returns-then-lacks_shape : goal.returns-then-lacks_shape
returns-then-lacks_shape c =
    let setup = setup_of c.args.job.now in
    let k = c.items.number in
    let at = stands setup c.as_slice-item-items.result.now k c.item-item.result
    c.as_slice-item-items.ensures c.items-test.true c.item-item.is in
    let told = lacking setup k c.item-item.result c.is_marked.result at.below at.is
    (c.is_marked.ensures ∙ c.requires k at.below) in
    first_found setup k c.item-item.result at.below at.is
    (sym told ∙ sym c.lacks_shape.ensures ∙ c.if-lacks_shape.true) c.items.invariant

pub items-preserved : goal.items-preserved
items-preserved c =
    let setup = setup_of c.args.job.now in
    let k = c.items.number in
    let at = stands setup c.as_slice-item-items.result.now k c.item-item.result
    c.as_slice-item-items.ensures c.items-test.true c.item-item.is in
    let told = lacking setup k c.item-item.result c.is_marked.result at.below at.is
    (c.is_marked.ensures ∙ c.requires k at.below) in
    below_more (λ k. lacks_shape setup k ≡ false) _ c.items.invariant
    (sym told ∙ sym c.lacks_shape.ensures ∙ c.if-lacks_shape.false)

pub returns : goal.returns
returns c =
    let setup = setup_of c.args.job.now in
    none_found setup c.items.number
    (subst (λ l. length l ≤ c.items.number) c.as_slice-item-items.ensures c.items-test.false)
    c.items.invariant
