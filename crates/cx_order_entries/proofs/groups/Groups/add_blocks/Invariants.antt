-- what is there, with what comes of the rest, is what comes of all
use Rattle.std.proofs.Common.{◌≡◌, ◌++◌, map, filter, drop}
use Rattle.cx_text.specs.Lexemes.{same_name}
use Rattle.cx_plan.specs.Lists.{once_behind}
use Rattle.cx_order_entries.specs.Members.{texts, IsTied}
use Rattle.cx_order_entries.specs.Seen.{seen_entry}
use Rattle.cx_order_entries.proofs.groups.Groups.add_blocks.Given as goal

abbrev pub invariant-entries : goal.invariant-entries
invariant-entries l =
    record {
      tied : IsTied l.self;
      names : texts l.self ++ once_behind same_name (texts l.self)
          (map (λ e. e.block.name)
          (filter (λ e. e.block.group) (map seen_entry (drop l.entry-index l.entries))))
          ≡ texts l.fn.self ++ once_behind same_name (texts l.fn.self)
          (map (λ e. e.block.name) (filter (λ e. e.block.group) (map seen_entry l.entries)));
    }
