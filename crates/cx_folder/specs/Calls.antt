-- Calls on a mounted disk over folders: what they find ready, and what they leave. Of bytes this is
-- said where the folders tell.
use Rattle.std.specs.Prelude.{ℕ, ◌≤◌, List, Result, length}
use Rattle.cx_disk.specs.Cause.{HasCause}
use Rattle.cx_disk.specs.Disk.{Folders, Holds, Torn, Front, CutShort}
use Rattle.cx_folder.specs.Pulled.{files_of, Stays, Alters}
use Rattle.cx_folder.specs.Tended.{IsReady}
use Rattle.cx_folder.specs.declared.folder.Folder.{Ghosts as FolderGhosts}
use Rattle.cx_folder.specs.declared.kept.Kept.{Kept}
use Rattle.cx_disk.specs.declared.disk.DiskFault.{DiskFault}
use Rattle.cx_disk.specs.declared.disk.DiskFault.TheVariants.{Failed}

-- All is ready for a call.
abbrev pub HasReady : {F T : Type 0} → FolderGhosts F T → Folders → Kept F T → Type 0
HasReady f folders kept = IsReady f.tells f.holds f.path_of f.view folders kept.folder
    kept.files.items kept.entries

-- A file has so many bytes, or more.
abbrev pub HasUpTo : {F T : Type 0} → FolderGhosts F T → ℕ → Folders → ℕ → Kept F T → Type 0
HasUpTo f count folders file kept = f.tells
    → count ≤ length (files_of folders (f.view kept.folder).seen file)

-- No byte of the disk was changed.
abbrev pub KeepsBytes : {F T : Type 0} → FolderGhosts F T → Folders → Kept F T → Kept F T → Type 0
KeepsBytes f folders old new = f.tells → Stays folders (f.view old.folder) (f.view new.folder)

-- These bytes were written to a file from an offset on, as far as the call came.
abbrev pub Writes : {F T A E : Type 0} → FolderGhosts F T → ℕ → List ℕ → Folders → ℕ
    → Result A E → Kept F T → Kept F T → Type 0
Writes f at bytes folders file result old new = f.tells
    → Alters (Holds at bytes) (Torn at (length bytes)) folders file result
    (f.view old.folder) (f.view new.folder)

-- A file was cut to so many bytes, as far as the call came.
abbrev pub Cuts : {F T A E : Type 0} → FolderGhosts F T → ℕ → Folders → ℕ → Result A E
    → Kept F T → Kept F T → Type 0
Cuts f to folders file result old new = f.tells
    → Alters (Front to) (CutShort to) folders file result (f.view old.folder) (f.view new.folder)

-- The call fails only where the folders do.
abbrev pub FailsAs : {F T A : Type 0} → FolderGhosts F T → Kept F T → Kept F T
    → Result A DiskFault → Type 0
FailsAs f old new result = HasCause Failed (f.faults old.folder) (f.faults new.folder) result
