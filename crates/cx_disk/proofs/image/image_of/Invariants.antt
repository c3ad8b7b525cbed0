use Rattle.std.proofs.Common.{take}
use Rattle.cx_disk.specs.Memory.{file_of}
use Rattle.cx_disk.specs.Image.{IsImageAfter}
use Rattle.cx_disk.proofs.image.image_of.Given as goal

abbrev pub invariant-notes : goal.invariant-notes
invariant-notes l = IsImageAfter l.choice (file_of l.first) (take l.note-index l.notes)
    (file_of l.files.items) (file_of l.image.items)
