-- A SYNC is one node more.
use Rattle.std.proofs.Common.{◌∷◌, refl}
use Rattle.cx_plan.specs.declared.tree.Tree.{Sync}
use Rattle.cx_order.proofs.SizeLaws.{one-more}
use Rattle.cx_order.proofs.sizes.Sizes.with_sync.Goals as goal

pub returns : goal.returns
returns c = λ v vars path trees i.
    one-more (Sync (v ∷ vars) path)
    trees c.args.self _ refl refl c.saturating_add.ensures c.max.ensures i
