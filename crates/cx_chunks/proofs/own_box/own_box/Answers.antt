use Rattle.std.proofs.Common.{subst, sym}
use Rattle.cx_grid.specs.declared.boxes.Box3.{Box3}
use Rattle.cx_grid.specs.Boxes.{IsBox}
use Rattle.cx_chunks.proofs.OwnLaws.{own_is_box}
use Rattle.cx_chunks.proofs.own_box.own_box.Goals as goal

pub size-requires : goal.size-requires
size-requires c =
    subst (λ (b : Box3). IsBox b) (sym c.part-own.ensures.value)
    (own_is_box c.args.cut.now c.args.part)
