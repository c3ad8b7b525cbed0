use Rattle.std.proofs.Common.{arith, w32}
use Rattle.std.proofs.lemmas.Int.{to_z-of_z}
use Rattle.cx_rule.proofs.AlongLaws.{few, below, start_near, start_local, end_local, grid_level, shows, no_touch}
use Rattle.cx_rule.proofs.row.Row.along.Goals as goal

pub overflow_add-count : goal.overflow_add-count
overflow_add-count c =
    let r = rw (← c.self.view_is) at c.requires.read in
    let on = rw (← c.self.view_is) at c.requires.offset in
    let l = below c.self.inside.part.now c.local.ensures.patch c.self.inside.item.now
    c.self.inside.from c.self.inside.low c.self.inside.count c.self.inside.iteration
    c.self.invariant c.args.k no_touch r
    c.args.y c.args.z on in
    rw c.as_slice.ensures (omega (
      arith,
      few c.self.inside.part.now c.local.ensures.patch c.self.inside.item.now c.self.inside.from
          c.self.inside.low c.self.inside.count c.self.inside.iteration c.self.invariant c.args.k
          no_touch l
          c.args.y c.args.z on,
    ))

pub moved-start-requires : goal.moved-start-requires
moved-start-requires c =
    let r = rw (← c.self.view_is) at c.requires.read in
    let on = rw (← c.self.view_is) at c.requires.offset in
    let l = below c.self.inside.part.now c.local.ensures.patch c.self.inside.item.now
    c.self.inside.from c.self.inside.low c.self.inside.count c.self.inside.iteration
    c.self.invariant c.args.k no_touch r
    c.args.y c.args.z on in
    rw (
      c.least_offset.ensures,
      c.as_slice.ensures,
      to_z-of_z w32 c.args.y c.ranges.y,
      to_z-of_z w32 c.args.z c.ranges.z,
    )
    (start_near c.self.inside.part.now c.local.ensures.patch c.self.inside.item.now
    c.self.inside.from c.self.inside.low c.self.inside.count c.self.inside.iteration
    c.self.invariant c.args.k no_touch l
    c.args.y c.args.z on)

pub row-requires-clause-level : goal.row-requires-clause-level
row-requires-clause-level c =
    let r = rw (← c.self.view_is) at c.requires.read in
    let on = rw (← c.self.view_is) at c.requires.offset in
    let l = below c.self.inside.part.now c.local.ensures.patch c.self.inside.item.now
    c.self.inside.from c.self.inside.low c.self.inside.count c.self.inside.iteration
    c.self.invariant c.args.k no_touch r
    c.args.y c.args.z on in
    rw c.as_slice.ensures (grid_level c.self.inside.part.now c.local.ensures.patch
    c.self.inside.item.now c.self.inside.from c.self.inside.low c.self.inside.count
    c.self.inside.iteration c.self.invariant c.args.k no_touch l
    c.args.y c.args.z on)

pub row-requires-clause-low : goal.row-requires-clause-low
row-requires-clause-low c =
    let r = rw (← c.self.view_is) at c.requires.read in
    let on = rw (← c.self.view_is) at c.requires.offset in
    let l = below c.self.inside.part.now c.local.ensures.patch c.self.inside.item.now
    c.self.inside.from c.self.inside.low c.self.inside.count c.self.inside.iteration
    c.self.invariant c.args.k no_touch r
    c.args.y c.args.z on in
    rw (
      c.moved-start.ensures,
      c.least_offset.ensures,
      c.as_slice.ensures,
      to_z-of_z w32 c.args.y c.ranges.y,
      to_z-of_z w32 c.args.z c.ranges.z,
    )
    (start_local c.self.inside.part.now c.local.ensures.patch c.self.inside.item.now
    c.self.inside.from c.self.inside.low c.self.inside.count c.self.inside.iteration
    c.self.invariant c.args.k no_touch l
    c.args.y c.args.z on)

pub row-requires-clause-high : goal.row-requires-clause-high
row-requires-clause-high c =
    let r = rw (← c.self.view_is) at c.requires.read in
    let on = rw (← c.self.view_is) at c.requires.offset in
    let l = below c.self.inside.part.now c.local.ensures.patch c.self.inside.item.now
    c.self.inside.from c.self.inside.low c.self.inside.count c.self.inside.iteration
    c.self.invariant c.args.k no_touch r
    c.args.y c.args.z on in
    rw (c.moved-start.ensures, c.least_offset.ensures, c.as_slice.ensures)
    (end_local c.self.inside.part.now c.local.ensures.patch c.self.inside.item.now
    c.self.inside.from c.self.inside.low c.self.inside.count c.self.inside.iteration
    c.self.invariant c.args.k no_touch l
    c.args.y c.args.z on)

pub returns : goal.returns
returns c =
    let r = rw (← c.self.view_is) at c.requires.read in
    let on = rw (← c.self.view_is) at c.requires.offset in
    let l = below c.self.inside.part.now c.local.ensures.patch c.self.inside.item.now
    c.self.inside.from c.self.inside.low c.self.inside.count c.self.inside.iteration
    c.self.invariant c.args.k no_touch r
    c.args.y c.args.z on in
    let e = rw (
      c.moved-start.ensures,
      c.least_offset.ensures,
      c.as_slice.ensures,
      to_z-of_z w32 c.args.y c.ranges.y,
      to_z-of_z w32 c.args.z c.ranges.z,
    ) at c.row.ensures in
    rw (← c.self.view_is) (shows c.self.inside.part.now c.local.ensures.patch c.self.inside.item.now
    c.self.inside.from c.self.inside.low c.self.inside.count c.self.inside.iteration
    c.self.invariant c.args.k no_touch l
    c.args.y c.args.z on c.row.result.now e)
