use Rattle.std.proofs.Common.{◌+◌, ◌-◌, arith}
use Rattle.std.proofs.lemmas.Int.{ints}
use Rattle.cx_core_buffers.proofs.RunLaws.{run_room, run_count, run_numbers}
use Rattle.cx_core_buffers.proofs.scattering.run_from.Goals as goal

pub slice_bounds-result-end : goal.slice_bounds-result-end
slice_bounds-result-end c =
    let place = rw (c.whole.ensures.value, c.wrap-first.ensures.value) at
    c.index_of-at.ensures.value in
    let grid = rw c.wrap-first.ensures.value at c.run_length.ensures.grid in
    let room = run_room c.args.shape.now c.requires.shape c.args.low c.run_length.result
    c.requires.near grid in
    let size = c.requires.points in
    omega (arith, place, room, size)

pub returns-clause-some : goal.returns-clause-some
returns-clause-some c =
    let place = rw (c.whole.ensures.value, c.wrap-first.ensures.value) at
    c.index_of-at.ensures.value in
    let grid = rw c.wrap-first.ensures.value at c.run_length.ensures.grid in
    let k = c.index_of-at.result + c.run_length.result - c.index_of-at.result in
    let count = run_count c.args.shape.now c.requires.shape c.args.low c.run_length.result
    c.requires.near grid c.args.numbers.now c.requires.points c.index_of-at.result k place
    (omega arith) in
    omega (arith, count, c.run_length.ensures.some)

pub returns-clause-within : goal.returns-clause-within
returns-clause-within c =
    let place = rw (c.whole.ensures.value, c.wrap-first.ensures.value) at
    c.index_of-at.ensures.value in
    let grid = rw c.wrap-first.ensures.value at c.run_length.ensures.grid in
    let k = c.index_of-at.result + c.run_length.result - c.index_of-at.result in
    let count = run_count c.args.shape.now c.requires.shape c.args.low c.run_length.result
    c.requires.near grid c.args.numbers.now c.requires.points c.index_of-at.result k place
    (omega arith) in
    omega (arith, ints, count, c.run_length.ensures.local)

pub returns-clause-numbers : goal.returns-clause-numbers
returns-clause-numbers c =
    let place = rw (c.whole.ensures.value, c.wrap-first.ensures.value) at
    c.index_of-at.ensures.value in
    let grid = rw c.wrap-first.ensures.value at c.run_length.ensures.grid in
    let k = c.index_of-at.result + c.run_length.result - c.index_of-at.result in
    run_numbers c.args.shape.now c.requires.shape c.args.low c.run_length.result
    c.requires.near grid c.args.numbers.now c.requires.points c.index_of-at.result k place
    (omega arith)
