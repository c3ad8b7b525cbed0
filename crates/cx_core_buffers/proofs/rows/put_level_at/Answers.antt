use Rattle.std.proofs.Common.{◌∙◌, ap, [], set}
use Rattle.cx_rule.specs.States.{level_of}
use Rattle.cx_core_buffers.specs.Gathering.{put}
use Rattle.cx_core_buffers.proofs.CheckpointLaws.{any_default}
use Rattle.cx_core_buffers.proofs.rows.put_level_at.Goals as goal

pub returns : goal.returns
returns c =
    let e = c.index_mut-level.ensures.value
    ∙ any_default c.args.all.now.items c.args.at c.index_mut-level.result.now []
    c.requires.at in
    ap (set c.args.all.now.items c.args.at)
    (c.put_level.ensures ∙ ap
    (put c.args.patch.now (level_of c.args.patch.now.numbers c.args.v c.args.number)) e)
