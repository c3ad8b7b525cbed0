use Rattle.std.proofs.Common.{◌≡◌, ◌∙◌, sym, ap, ◌<◌, length, true, rules}
use Rattle.cx_disk.specs.Memory.{History, IsKept, changed, reading}
use Rattle.cx_disk.proofs.Memory.{kept_more}
use Rattle.cx_disk.proofs.memory_disk.MemoryDisk.change.Goals as goal

pub invariant_of-self-2 : goal.invariant_of-self-2
invariant_of-self-2 c =
    let is_mounted : c.self.inside.mounted ≡ true = search rules in
    let filled : IsKept c.self.inside.mounted c.self.inside.first c.fill.new.files.items
    c.self.inside.notes.items =
    record {
      unchanged = c.self.invariant.unchanged;
      kept = λ m g. c.fill.ensures.same g ∙ c.self.invariant.kept m g;
    } in
    let long : c.args.note.file < length c.fill.new.files.items = search rules in
    kept_more c.self.inside.mounted c.self.inside.first c.fill.new.files.items
    c.self.inside.notes.items c.push.new.self.items c.args.note c.new.result
    is_mounted filled long c.in_ok-push.ensures.items
    (c.new.ensures ∙ c.requires.bytes
    ∙ sym (ap (λ (d : History). changed c.args.note.change (reading d c.args.note.file))
    c.self.view_is))
