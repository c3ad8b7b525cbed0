-- A disk over folders, as contracts see it.
use Rattle.std.specs.Prelude.{ℕ, ◌≡◌, refl, Bool, true, false, List, Option, Result, is_some, unwrap_or, IfSome}
use Rattle.std.specs.Coded.{Coded, code_by, coded×, coded_ℕ, coded_bool, coded_list}
use Rattle.cx_disk.specs.Cause.{HasCause}
use Rattle.cx_disk.specs.Disk.{Folders, no_folders, Files, View}
use Rattle.cx_disk.specs.declared.disk.DiskFault.{DiskFault}
use Rattle.cx_disk.specs.declared.disk.DiskFault.TheVariants.{Failed}
use Rattle.cx_folder.specs.Names.{Path, HavePlaces}
use Rattle.cx_folder.specs.Pulled.{files_of, pulled}
use Rattle.cx_folder.specs.Tree.{TreeView}
use Rattle.cx_folder.specs.Kept.{AreHeld, AreKept}
use Rattle.cx_folder.specs.Tended.{IsTended}
use Rattle.cx_folder.specs.declared.folder.Folder.{Ghosts as FolderGhosts}
use Rattle.cx_folder.specs.declared.kept.Hold.{Hold}
use Rattle.cx_folder.specs.declared.kept.Entries.{Entries}

-- What it is over, whether it is mounted, whether its folders are known, ahead or from the first
-- mount on, which these are, and how often it has failed.
pub record Placed (F : Type 0) : Type 0 where
  pub folder : F
  pub mounted : Bool
  pub known : Bool
  pub folders : Folders
  pub faults : ℕ

-- folders are stored as the pairs of their fields, and so is a disk
abbrev pub folders_code : Coded Folders
folders_code = code_by (List ℕ × (List (List ℕ) × List ℕ))
    (coded× (coded_list coded_ℕ) (coded× (coded_list (coded_list coded_ℕ)) (coded_list coded_ℕ)))
    (λ f. (f.output, (f.names, f.checkpoints)))
    (λ q. record { output = q.0; names = q.1.0; checkpoints = q.1.1 })
    (λ _. refl)

abbrev pub placed_code : {F : Type 0} → Coded F → Coded (Placed F)
placed_code {F} code = code_by (F × (Bool × (Bool × (Folders × ℕ))))
    (coded× code (coded× coded_bool (coded× coded_bool (coded× folders_code coded_ℕ))))
    (λ p. (p.folder, (p.mounted, (p.known, (p.folders, p.faults)))))
    (λ q. record {
      folder = q.0;
      mounted = q.1.0;
      known = q.1.1.0;
      folders = q.1.1.1.0;
      faults = q.1.1.1.1;
    })
    (λ _. refl)

-- The folders, once they are known.
abbrev pub folders_of : Option Folders → Folders
folders_of places = unwrap_or places no_folders

-- Of folders that tell, the places are known ahead. A mounted disk knows its folders and has their
-- locks, each file of known folders has its holding, and the holdings are right where the folders
-- tell.
pub record IsPlaced {F T : Type 0} (tells : Type 0) (holds : F → Path → Type 0)
    (path_of : T → Path) (view : F → TreeView) (folder : F) (files : List (Hold T))
    (entries : Entries) (places : Option Folders) (mounted : Bool) : Type 0 where
  pub known : tells → is_some places ≡ true
  pub placed : mounted ≡ true → is_some places ≡ true
  pub held : mounted ≡ true → IfSome places (AreHeld (holds folder))
  pub kept : IfSome places (AreKept files)
  pub tended : tells
      → IfSome places (λ folders. IsTended path_of (view folder) folders files entries)

-- ---- its calls

-- How its files read, and what a crash may leave of them, by what its folders tell.
abbrev pub seen_on : {F T : Type 0} → FolderGhosts F T → Placed F → Files
seen_on f disk = files_of disk.folders (f.view disk.folder).seen

abbrev pub disk_view : {F T : Type 0} → FolderGhosts F T → Placed F → View
disk_view f disk = pulled disk.folders (f.view disk.folder)

-- It can be mounted on these folders: it isn't yet, they have places, and it is for no others.
pub record CanMount {F : Type 0} (folders : Folders) (disk : Placed F) : Type 0 where
  pub first : disk.mounted ≡ false
  pub fit : HavePlaces folders
  pub same : disk.known ≡ true → disk.folders ≡ folders

-- The call fails only where its folders do.
abbrev pub FailsAsFolders : {F T A : Type 0} → FolderGhosts F T → Placed F → Placed F
    → Result A DiskFault → Type 0
FailsAsFolders f old new result =
    HasCause Failed (f.faults old.folder) (f.faults new.folder) result
