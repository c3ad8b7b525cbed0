use Rattle.std.specs.Prelude.{string_bytes}
use Rattle.std.proofs.Common.{map}
use Rattle.cx_folder.specs.Names.{slot_path}
use Rattle.cx_folder.proofs.NamesLaws.{below_none, pushed_below}
use Rattle.cx_folder.proofs.names.add_slots.Goals as goal

pub slots-init : goal.slots-init
slots-init c = below_none (map string_bytes c.args.paths.now.items) (slot_path c.args.folder.now)

pub slots-preserved : goal.slots-preserved
slots-preserved c =
    pushed_below string_bytes (slot_path c.args.folder.now) c.args.paths.now.items
    c.slots.paths.items c.push.new.self.items c.in_ok-slot_name.field-0 c.slots.slot
    c.slots.invariant c.in_ok-push.ensures.items c.in_ok-slot_name.ensures
