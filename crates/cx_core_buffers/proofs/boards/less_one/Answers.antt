use Rattle.std.proofs.Common.{◌<◌, ◌-◌, arith, length}
use Rattle.std.specs.Prelude.{slice_index_or}
use Rattle.std.proofs.lemmas.List.Edits.{map_over_more}
use Rattle.cx_core_buffers.proofs.BoardLaws.{later_item, over_length, some_count}
use Rattle.cx_core_buffers.proofs.CheckpointLaws.{any_default}
use Rattle.cx_core_buffers.proofs.boards.less_one.Goals as goal

pub overflow_sub-count : goal.overflow_sub-count
overflow_sub-count c =
    let first = c.deref_mut-count-items.result.now in
    let within : c.counts.count-index < length first = omega arith in
    let e = later_item (λ count. count - 1)
    c.counts.count-items first c.counts.count-index 0 within c.counts.invariant in
    let s = some_count first c.counts.count-index within
    (rw c.deref_mut-count-items.ensures.value c.requires) in
    omega (arith, e, s)

pub counts-preserved : goal.counts-preserved
counts-preserved c =
    let first = c.deref_mut-count-items.result.now in
    let within : c.counts.count-index < length first = omega arith in
    let n = over_length (λ count. count - 1) c.counts.count-items first c.counts.count-index
    (omega (arith, within)) c.counts.invariant in
    let item = slice_index_or c.counts.count-items c.counts.count-index 0 in
    map_over_more (λ count. count - 1)
    first c.counts.count-items c.counts.count-index item within c.counts.invariant
    (any_default c.counts.count-items c.counts.count-index 0 item (omega (arith, within, n)))
