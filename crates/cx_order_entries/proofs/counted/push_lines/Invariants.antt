-- the names that were passed are there
use Rattle.std.proofs.Common.{◌≡◌, ◌++◌, map, take}
use Rattle.cx_order_entries.specs.Counted.{line}
use Rattle.cx_order_entries.specs.Seen.{seen_line}
use Rattle.cx_order_entries.proofs.counted.push_lines.Given as goal

abbrev pub invariant-stores : goal.invariant-stores
invariant-stores l =
    record {
      lines : map seen_line l.counted.lines.items
          ≡ map seen_line l.fn.counted.lines.items
          ++ map (line l.thorn) (take l.group-index l.stores);
      entries : l.counted.entries.items ≡ l.fn.counted.entries.items;
    }
