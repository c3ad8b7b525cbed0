-- A test that is there is a tree around.
use Rattle.std.proofs.Common.{[], ◌∷◌, Option, sym, subst}
use Rattle.cx_plan.specs.declared.variable.VarId.{VarId}
use Rattle.cx_order.specs.Plans.{with_if, with_while}
use Rattle.cx_order.specs.TreeSizes.{AreSizes}
use Rattle.cx_order.proofs.sizes.Sizes.under.Goals as goal

pub returns-in-Some-clause-if_tree : goal.returns-in-Some-clause-if_tree
returns-in-Some-clause-if_tree c =
    λ path tree i. let P : Option VarId
    → Type 0 = λ test. AreSizes (with_if path test tree ∷ []) c.around.result in
    subst P (sym c.in-Some.is) (c.around.ensures.if_tree c.in-Some.field-0 path tree i)

pub returns-in-Some-clause-while_tree : goal.returns-in-Some-clause-while_tree
returns-in-Some-clause-while_tree c =
    λ path tree i. let P : Option VarId
    → Type 0 = λ test. AreSizes (with_while path test tree ∷ []) c.around.result in
    subst P (sym c.in-Some.is) (c.around.ensures.while_tree c.in-Some.field-0 path tree i)
