-- The faults of entries and of places, among those of a schedule.
use Rattle.cx_order_entries.specs.declared.fault.EntryFault.{EntryFault}
use Rattle.cx_order_entries.specs.declared.fault.EntryFault.TheVariants as entries
use Rattle.cx_order_entries.specs.declared.fault.PlaceFault.{PlaceFault}
use Rattle.cx_order_entries.specs.declared.fault.PlaceFault.TheVariants as places
use Rattle.cx_order.specs.declared.fault.OrderFault.{OrderFault}
use Rattle.cx_order.specs.declared.fault.OrderFault.TheVariants.{UnknownBin, TwoNames, GroupCycle, Cycle, Memory}

abbrev pub from_entry : EntryFault → OrderFault
from_entry (entries.UnknownBin name) = UnknownBin name
from_entry (entries.TwoNames name) = TwoNames name
from_entry entries.Memory = Memory

abbrev pub from_place : PlaceFault → OrderFault
from_place (places.GroupCycle names) = GroupCycle names
from_place (places.Cycle names) = Cycle names
from_place places.Memory = Memory
