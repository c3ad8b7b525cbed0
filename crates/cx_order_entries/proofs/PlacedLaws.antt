-- The faults of places.
use Rattle.std.proofs.Common.{Err, List}
use Rattle.cx_order_entries.specs.declared.fault.PlaceFault.{PlaceFault}
use Rattle.cx_order_entries.specs.declared.fault.PlaceFault.TheVariants.{GroupCycle, Cycle, Memory}
use Rattle.cx_order_entries.specs.Counted.{Entry}
use Rattle.cx_order_entries.specs.Cycles.{NoGroupCycle}
use Rattle.cx_order_entries.specs.Nested.{IsNesting}
use Rattle.cx_order_entries.specs.Members.{AreOrdered}
use Rattle.cx_order_entries.specs.Placement.{ArePlaced}

pub nesting-fault : (es : List Entry) (e : PlaceFault) → IsNesting es (Err e) → ArePlaced es (Err e)
nesting-fault es (GroupCycle names) h = h
nesting-fault es Memory h = h
nesting-fault es (Cycle names) h = absurd h

pub order-fault : (es : List Entry) (e : PlaceFault) → NoGroupCycle es → AreOrdered es (Err e)
    → ArePlaced es (Err e)
order-fault es (Cycle names) groups h = (groups, h)
order-fault es Memory groups h = h
order-fault es (GroupCycle names) groups h = absurd h
