use Rattle.cx_order_entries.specs.Members.{texts}
use Rattle.cx_order_entries.proofs.GroupLaws.{of-both}
use Rattle.cx_order_entries.proofs.groups.Groups.of.Goals as goal

pub returns : goal.returns
returns c =
    record {
      names = of-both c.args.entries.now (texts c.new-groups.result) (texts c.add_blocks.new.self)
          (texts c.add_spots.new.self)
          c.new-groups.ensures.names c.in_ok-add_blocks.ensures.names
          c.in_ok-add_spots.ensures.names;
      tied = c.in_ok-add_spots.ensures.tied;
    }
