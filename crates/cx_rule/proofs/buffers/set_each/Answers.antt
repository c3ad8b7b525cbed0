use Rattle.std.proofs.Common.{rules, ◌≡◌, ◌<◌, ◌≤◌, ◌+◌, suc, [], arith, length, SFits, w64}
use Rattle.std.proofs.lemmas.Int.{to_z-of_z}
use Rattle.std.proofs.lemmas.List.Elements.{All-get_or}
use Rattle.cx_rule.proofs.StageLaws.{staged_beyond, staged_next}
use Rattle.cx_rule.proofs.buffers.set_each.Goals as goal

pub set_number-requires-clause-at : goal.set_number-requires-clause-at
set_number-requires-clause-at c =
    let within : c.cells.k ≤ length c.args.cells.now =
    omega (arith, c.cells-test.true, c.requires.count) in
    let below : c.cells.k < length c.args.buffers.now.items =
    omega (arith, c.cells-test.true, c.requires.buffers) in
    rw (
      c.cells.invariant,
      staged_beyond c.args.at c.args.buffers.now.items c.args.cells.now
          c.cells.k within,
    )
    (All-get_or (λ numbers. c.args.at < length numbers) c.args.buffers.now.items c.cells.k []
    below c.requires.room)

pub cells-preserved : goal.cells-preserved
cells-preserved c =
    let within : c.cells.k < length c.args.cells.now =
    omega (arith, c.cells-test.true, c.requires.count) in
    let below : c.cells.k < length c.args.buffers.now.items =
    omega (arith, c.cells-test.true, c.requires.buffers) in
    let r : SFits w64 c.get.result = search rules in
    let e : c.cells.k + 1 ≡ suc c.cells.k = omega arith in
    rw (e, c.set_number.ensures, to_z-of_z w64 _ r, c.get.ensures, c.cells.invariant)
    (staged_next c.args.at c.args.buffers.now.items c.args.cells.now c.cells.k within below)
