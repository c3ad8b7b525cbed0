use Rattle.std.proofs.Common.{rules, ◌≡◌, ◌∙◌, ◌<◌, ap, true, None}
use Rattle.std.specs.List.{list_any}
use Rattle.cx_cut.specs.Cuts.{part_count}
use Rattle.cx_plan.specs.Lists.{first_again}
use Rattle.cx_chunks.specs.Combining.{is_at, is_twin, chunk, missing_in}
use Rattle.cx_chunks.proofs.FindLaws.{chunk_single}
use Rattle.cx_chunks.proofs.StepLaws.{everywhere_more}
use Rattle.cx_chunks.proofs.checks.check_everywhere.Goals as goal

pub has_piece-requires : goal.has_piece-requires
has_piece-requires c =
    ap (first_again is_twin) c.chunk.ensures
    ∙ chunk_single c.args.chunks.now 0 c.parts.part c.requires

pub parts-preserved : goal.parts-preserved
parts-preserved c =
    let less : c.parts.part < part_count c.args.cut.now = search rules in
    let has : list_any (is_at c.args.full.now c.args.iteration)
    (chunk c.args.chunks.now c.parts.part)
    ≡ true = search rules in
    let none : missing_in c.args.chunks.now c.args.full.now c.args.iteration c.parts.part ≡ None =
    rw has in
    everywhere_more (missing_in c.args.chunks.now c.args.full.now c.args.iteration) c.parts.part
    (part_count c.args.cut.now) _ less none c.parts.invariant
