-- What names are looked up in.
use Rattle.std.specs.Prelude.{◌≡◌, ◌<◌, length}
use Rattle.cx_scope.specs.Closures.{thorns_in, sight_in}
use Rattle.cx_order.specs.declared.context.Context.{Context}
use Rattle.cx_order_entries.specs.declared.counted.Entry.{Entry}
use Rattle.cx_order.specs.Meanings.{World}

abbrev pub world_of : Context → World
world_of c = record { thorns = c.bound.now; sight = sight_in c.scope.now; storage = c.storage.now }

-- the scope is that of the bound thorns
abbrev pub IsOfBound : Context → Type 0
IsOfBound c = thorns_in c.scope.now ≡ c.bound.now

-- an entry's thorn is one of the bound ones
abbrev pub HasThorn : Context → Entry → Type 0
HasThorn c e = e.thorn < length c.bound.now
