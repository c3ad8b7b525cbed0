use Rattle.std.specs.Prelude.{string_bytes}
use Rattle.std.proofs.Common.{◌<◌, length, slice_index_or, map, [], ◌∙◌, arith}
use Rattle.cx_folder.proofs.NamesLaws.{map_at, each_more, differ, taken_at}
use Rattle.cx_folder.proofs.names.is_new.Goals as goal

pub others-preserved : goal.others-preserved
others-preserved c =
    let within : c.others.i < length c.args.paths.now = omega arith in
    each_more (map string_bytes c.args.paths.now)
    (slice_index_or (map string_bytes c.args.paths.now) c.args.k []) c.others.i c.others.invariant
    (differ c.as_str-in-others.result.now c.as_str-in-others-2.result.now
    (slice_index_or (map string_bytes c.args.paths.now) c.others.i [])
    (slice_index_or (map string_bytes c.args.paths.now) c.args.k []) c.eq.result c.eq.ensures
    c.if-eq.false
    (c.as_str-in-others.ensures.value
    ∙ map_at string_bytes c.args.paths.now c.others.i c.index-paths-i.result within
    c.index-paths-i.is)
    (c.as_str-in-others-2.ensures.value
    ∙ map_at string_bytes c.args.paths.now c.args.k c.index-paths-k-in-others.result c.requires
    c.index-paths-k-in-others.is))

pub returns-then-eq-clause-taken : goal.returns-then-eq-clause-taken
returns-then-eq-clause-taken c = λ is.
    let within : c.others.i < length c.args.paths.now = omega arith in
    taken_at (map string_bytes c.args.paths.now) c.others.i c.args.k
    c.as_str-in-others.result.now c.as_str-in-others-2.result.now c.eq.result (omega arith)
    c.eq.ensures c.if-eq.true
    (c.as_str-in-others.ensures.value
    ∙ map_at string_bytes c.args.paths.now c.others.i c.index-paths-i.result within
    c.index-paths-i.is)
    (c.as_str-in-others-2.ensures.value
    ∙ map_at string_bytes c.args.paths.now c.args.k c.index-paths-k-in-others.result c.requires
    c.index-paths-k-in-others.is)
