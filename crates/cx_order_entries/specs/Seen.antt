-- What is lent, as what is lent.
use Rattle.std.specs.Prelude.{◌≡◌, List, map, Result, Ok, Err}
use Rattle.cx_expr.specs.declared.tree.ExprFault.{ExprFault}
use Rattle.cx_text.specs.declared.memory.Memory as declared
use Rattle.cx_order_entries.specs.declared.counted.Line.{Line as LentLine}
use Rattle.cx_order_entries.specs.declared.counted.Entry.{Entry as LentEntry}
use Rattle.cx_order_entries.specs.declared.counted.Counted.{Counted as LentCounted}
use Rattle.cx_order_entries.specs.declared.counted.Uncounted.{Uncounted}
use Rattle.cx_order_entries.specs.declared.counted.Uncounted.TheVariants.{Expr, Memory}
use Rattle.cx_order_entries.specs.Counted.{Line, Entry, Counted, joined}

abbrev pub seen_line : LentLine → Line
seen_line l = record { thorn = l.thorn; group = l.group.now; levels = l.levels }

abbrev pub seen_entry : LentEntry → Entry
seen_entry e = record { thorn = e.thorn; block = e.block.now }

-- entries that are lent
abbrev pub seen_entries : List LentEntry → List Entry
seen_entries es = map seen_entry es

-- lines and entries together
abbrev pub seen_as : List LentLine → List LentEntry → Counted
seen_as lines entries = record { lines = map seen_line lines; entries = map seen_entry entries }

abbrev pub seen : LentCounted → Counted
seen c = seen_as c.lines.items c.entries.items

abbrev pub unless_memory : Result (Unit {0}) declared.Memory → Result (Unit {0}) Uncounted
unless_memory (Ok u) = Ok u
unless_memory (Err e) = Err Memory

-- What counts of a part is added behind what was there, or there is a fault, or memory is wanting.
abbrev pub Adds : Result Counted ExprFault → LentCounted → LentCounted → Result (Unit {0}) Uncounted
    → Type 0
Adds told old new (Ok u) = joined (Ok (seen old)) told ≡ Ok (seen new)
Adds told old new (Err (Expr e)) = told ≡ Err e.now
Adds told old new (Err Memory) = Unit {0}
