-- What holds of folders holds of the disk that they keep.
use Rattle.std.proofs.Common.{refl}
use Rattle.cx_disk.specs.Disk.{Folders, IsView}
use Rattle.cx_folder.specs.Tree.{TreeView, IsTreeView}
use Rattle.cx_folder.specs.Pulled.{pulled}

pub pulled_sound : (folders : Folders) (v : TreeView) → IsTreeView v → IsView (pulled folders v)
pulled_sound folders v sound = record {
  reads = (v.seen, sound.reads, refl);
  counts_now = λ since image le now. (now.0, sound.counts_now since now.0 le now.1, now.2);
  only_now = λ image left. (left.0, sound.only_now left.0 left.1, left.2);
}
