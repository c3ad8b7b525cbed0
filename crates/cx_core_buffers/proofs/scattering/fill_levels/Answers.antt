use Rattle.std.proofs.Common.{◌∙◌, ◌<◌, ◌+◌, arith, length, []}
use Rattle.cx_core_buffers.proofs.CheckpointLaws.{any_default}
use Rattle.cx_core_buffers.proofs.FillLaws.{levels_step}
use Rattle.cx_core_buffers.proofs.scattering.fill_levels.Goals as goal

pub levels-preserved : goal.levels-preserved
levels-preserved c =
    let m : c.levels.level < c.args.levels = omega (arith, c.levels-test.true) in
    let r = c.requires.there in
    let at : c.args.from + c.levels.level < length c.args.all.now = omega (arith, r, m) in
    let number = c.as_slice.ensures ∙ c.index-all-from.is
    ∙ any_default c.args.all.now (c.args.from + c.levels.level) c.index-all-from.result [] at in
    levels_step c.args.patch.now c.levels.patch c.fill_level.new.patch c.args.v c.args.from
    c.levels.level c.args.all.now c.as_slice.result.now
    c.levels.invariant number c.fill_level.ensures
