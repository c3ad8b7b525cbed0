-- What a disk over folders knows of the files that it keeps open, and of its folders' entries.
use Rattle.std.specs.Prelude.{ℕ, ◌<◌, ◌≡◌, ◌≢◌, List, [], true, false, length, slice_index_or, ◌⊎◌}
use Rattle.cx_disk.specs.Disk.{Folders}
use Rattle.cx_folder.specs.Tree.{Tree, TreeView, IsEntered}
use Rattle.cx_folder.specs.Names.{Path, paths_in, output_folder, checkpoint_folder}
use Rattle.cx_folder.specs.Kept.{AreHeld, AreKept}
use Rattle.cx_folder.specs.declared.care.Care.{Care}
use Rattle.cx_folder.specs.declared.kept.Hold.{Hold}
use Rattle.cx_folder.specs.declared.kept.Hold.TheVariants.{Shut, Open, Lost}
use Rattle.cx_folder.specs.declared.kept.Entries.{Entries}
use Rattle.cx_folder.specs.declared.kept.Entries.TheVariants.{Settled, Made, Doubted}

-- One file: while it is shut nothing is outstanding of it, and while it is open a sync of it is
-- worth trusting. One of which a sync failed is lost.
abbrev pub IsKept : {T : Type 0} → (T → Path) → TreeView → Path → Hold T → Type 0
IsKept path_of v path Shut = v.care path ≡ Care.Whole
IsKept path_of v path (Open file) = (path_of file ≡ path) × (v.care path ≢ Care.Doubtful)
    × ((v.seen path).is_there ≡ true)
IsKept path_of v path Lost = Unit {0}

-- Both folders: no sync of them has failed, and once they are settled a crash leaves their entries.
abbrev pub AreTrusted : TreeView → Folders → Type 0
AreTrusted v folders = (v.doubted (output_folder folders) ≡ false)
    × (v.doubted (checkpoint_folder folders) ≡ false)

abbrev pub AreEntered : TreeView → Folders → Entries → Type 0
AreEntered v folders Settled = AreTrusted v folders × IsEntered (output_folder folders) v
    × IsEntered (checkpoint_folder folders) v
AreEntered v folders Made = AreTrusted v folders
AreEntered v folders Doubted = Unit {0}

-- All of it.
pub record IsTended {T : Type 0} (path_of : T → Path) (v : TreeView) (folders : Folders)
    (files : List (Hold T)) (entries : Entries) : Type 0 where
  pub each : (k : ℕ) → k < length (paths_in folders)
      → IsKept path_of v (slice_index_or (paths_in folders) k []) (slice_index_or files k Lost)
  pub entered : AreEntered v folders entries

-- A mounted disk over these folders: the run has the locks, each file has its holding, and the
-- holdings are right where the folders tell.
pub record IsReady {F T : Type 0} (tells : Type 0) (holds : F → Path → Type 0) (path_of : T → Path)
    (view : F → TreeView) (folders : Folders) (folder : F) (files : List (Hold T))
    (entries : Entries) : Type 0 where
  pub held : AreHeld (holds folder) folders
  pub as_many : AreKept files folders
  pub tended : tells → IsTended path_of (view folder) folders files entries

-- A crash leaves the bytes of a file as they are, if it is there.
abbrev pub HasBytes : Path → TreeView → Type 0
HasBytes path v = (image : Tree) → v.images image → (image path).bytes ≡ (v.seen path).bytes

-- The same, or it isn't there.
abbrev pub HasSettled : Path → TreeView → Type 0
HasSettled path v = ((v.seen path).is_there ≡ false) ⊎ HasBytes path v
