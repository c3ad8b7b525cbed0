use Rattle.std.proofs.Common.{◌∙◌, ◌<◌, ◌+◌, ap, arith, length, List, ℤ, []}
use Rattle.std.specs.Prelude.{slice_index_or}
use Rattle.cx_core_buffers.proofs.PutLaws.{put_later}
use Rattle.cx_core_buffers.proofs.rows.put_levels.Goals as goal

pub put_level_at-requires-clause-room : goal.put_level_at-requires-clause-room
put_level_at-requires-clause-room c =
    let m : c.levels.number < c.args.levels = omega (arith, c.levels-test.true) in
    let r = c.requires.room in
    ap length (ap (λ (ls : List (List ℤ)). slice_index_or ls (c.args.from + c.levels.number) [])
    c.levels.invariant
    ∙ put_later c.args.patch.now c.args.v c.args.from c.args.all.now.items c.levels.number
    c.levels.number (omega arith))
    ∙ c.requires.points (c.args.from + c.levels.number) [] (omega (arith, r, m))
