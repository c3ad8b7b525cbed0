-- What a disk over folders has ready, over one call of the folders.
use Rattle.std.specs.Prelude.{ℕ, ◌≡◌, ◌≢◌, ◌<◌, List, [], Bool, true, false, Result, Ok, Err, OnOk, OnErr, length, slice_index_or, nat_lt, if◌then◌else◌}
use Rattle.std.proofs.Common.{sym, ◌∙◌, subst, set}
use Rattle.std.proofs.lemmas.List.{length-set}
use Rattle.cx_disk.specs.Disk.{Folders, files_in}
use Rattle.cx_disk.specs.Files.{IsFile}
use Rattle.cx_folder.specs.Tree.{TreeView, Passes, Makes, ChangesBytes, ReadsOn, OthersTended, AllTended, IsOpened, IsChanged, IsFresh, IsSettled}
use Rattle.cx_folder.specs.Names.{Path, IsIn, paths_in, path_at, folder_at, place_of, AreDistinct, output_folder, checkpoint_folder}
use Rattle.cx_folder.specs.Tended.{IsKept, IsTended, IsReady}
use Rattle.cx_folder.specs.Kept.{AreHeld}
use Rattle.cx_folder.specs.declared.care.Care.{Care}
use Rattle.cx_folder.specs.declared.kept.Hold.{Hold}
use Rattle.cx_folder.specs.declared.kept.Hold.TheVariants.{Shut, Open, Lost}
use Rattle.cx_folder.specs.declared.kept.Entries.{Entries}
use Rattle.cx_folder.specs.declared.kept.Entries.TheVariants.{Settled, Made, Doubted}
use Rattle.cx_folder.proofs.NamesLaws.{count_paths, place_within}
use Rattle.cx_folder.proofs.TendedLaws.{tended_on, tended_opened, tended_changed, tended_made, tended_set, tended_synced}

-- a call that keeps what a path's lock keeps
abbrev pub StillHeld : {F : Type 0} → (F → Path → Type 0) → F → F → Type 0
StillHeld holds f g = (other : Path) → holds f other → holds g other

pub held_still : {F : Type 0} (holds : F → Path → Type 0) (folders : Folders) (f g : F)
    → StillHeld holds f g → AreHeld (holds f) folders → AreHeld (holds g) folders
held_still holds folders f g still held = record {
  output = still (output_folder folders) held.output;
  checkpoints = still (checkpoint_folder folders) held.checkpoints;
}

pub file_within : (folders : Folders) (file : ℕ) → IsFile (files_in folders) file
    → place_of (files_in folders) file < length (paths_in folders)
file_within folders file is = rw (count_paths folders) (place_within (files_in folders) file is)

-- a call that changes nothing
pub ready_on : {F T : Type 0} {tells : Type 0} {holds : F → Path → Type 0} {path_of : T → Path}
    {view : F → TreeView} {folders : Folders} {f : F} {hs : List (Hold T)} {e : Entries} (g : F)
    → IsReady tells holds path_of view folders f hs e → StillHeld holds f g
    → (tells → ReadsOn (view f) (view g)) → (tells → AllTended (view f) (view g))
    → IsReady tells holds path_of view folders g hs e
ready_on {F} {T} {tells} {holds} {path_of} {view} {folders} {f} {hs} {e} g ready still reads all =
    record {
      held = held_still holds folders f g still ready.held;
      as_many = ready.as_many;
      tended = λ t. tended_on (reads t) (all t) (ready.tended t);
    }

not_open : {T : Type 0} (hs : List (Hold T)) (place : ℕ) → slice_index_or hs place Lost ≡ Shut
    → (file : T) → slice_index_or hs place Lost ≡ Open file → ⊥
not_open hs place shut file is = cc

-- a look at a file that is shut
pub ready_opened : {F T : Type 0} {tells : Type 0} {holds : F → Path → Type 0} {path_of : T → Path}
    {view : F → TreeView} {folders : Folders} {f : F} {hs : List (Hold T)} {e : Entries} (g : F)
    (file : ℕ) → AreDistinct (paths_in folders) → IsFile (files_in folders) file
    → slice_index_or hs (place_of (files_in folders) file) Lost ≡ Shut
    → IsReady tells holds path_of view folders f hs e → StillHeld holds f g
    → (tells → ReadsOn (view f) (view g))
    → (tells → IsOpened (path_at folders file) (view f) (view g))
    → IsReady tells holds path_of view folders g hs e
ready_opened {F} {T} {tells} {holds} {path_of} {view} {folders} {f} {hs} {e} g file distinct is shut
    ready still reads opened =
    let place = place_of (files_in folders) file in
    record {
      held = held_still holds folders f g still ready.held;
      as_many = ready.as_many;
      tended = λ t. tended_opened place distinct (file_within folders file is)
          (not_open hs place shut) (reads t) (opened t) (ready.tended t);
    }

kept_shut : {T : Type 0} (path_of : T → Path) (u : TreeView) (path : Path) (h : Hold T) → h ≡ Shut
    → IsKept path_of u path h → u.care path ≡ Care.Whole
kept_shut path_of u path Shut is kept = kept
kept_shut path_of u path (Open file) is kept = absurd (cc)
kept_shut path_of u path Lost is kept = absurd (cc)

whole_trusted : (c : Care) → c ≡ Care.Whole → c ≢ Care.Doubtful
whole_trusted c whole doubtful = cc

-- a file that was shut is open from now on
pub ready_open : {F T : Type 0} {tells : Type 0} {holds : F → Path → Type 0} {path_of : T → Path}
    {view : F → TreeView} {folders : Folders} {g : F} {hs : List (Hold T)} {e : Entries}
    (file : ℕ) (open_file : T) → AreDistinct (paths_in folders) → IsFile (files_in folders) file
    → slice_index_or hs (place_of (files_in folders) file) Lost ≡ Shut
    → IsReady tells holds path_of view folders g hs e
    → (tells → path_of open_file ≡ path_at folders file)
    → (tells → ((view g).seen (path_at folders file)).is_there ≡ true)
    → IsReady tells holds path_of view folders g
    (set hs (place_of (files_in folders) file) (Open open_file)) e
ready_open {F} {T} {tells} {holds} {path_of} {view} {folders} {g} {hs} {e} file open_file distinct
    is shut ready named there =
    let place = place_of (files_in folders) file in
    let lt = file_within folders file is in
    record {
      held = ready.held;
      as_many = length-set hs place (Open open_file) ∙ ready.as_many;
      tended = λ t. tended_set place (Open open_file) distinct lt
          (subst (λ (n : ℕ). place < n) (sym ready.as_many) lt) (
            named t,
            whole_trusted ((view g).care (path_at folders file)) (kept_shut path_of (view g)
                (path_at folders file) (slice_index_or hs place Lost) shut
                ((ready.tended t).each place lt)),
            there t,
          ) (ready.tended t);
    }

-- a file that was shut may have been made
pub ready_made : {F T : Type 0} {tells : Type 0} {holds : F → Path → Type 0} {path_of : T → Path}
    {view : F → TreeView} {folders : Folders} {f : F} {hs : List (Hold T)} {e : Entries} (g : F)
    (next : Entries) (file : ℕ) → AreDistinct (paths_in folders) → IsFile (files_in folders) file
    → slice_index_or hs (place_of (files_in folders) file) Lost ≡ Shut
    → (e ≡ Settled → next ≡ Made) → (e ≡ Made → next ≡ Made) → (e ≡ Doubted → next ≡ Doubted)
    → IsReady tells holds path_of view folders f hs e → StillHeld holds f g
    → (tells → Makes (path_at folders file) (view f).seen (view g).seen)
    → (tells → IsOpened (path_at folders file) (view f) (view g))
    → IsReady tells holds path_of view folders g hs next
ready_made {F} {T} {tells} {holds} {path_of} {view} {folders} {f} {hs} {e} g next file distinct is
    shut one two three ready still makes opened =
    record {
      held = held_still holds folders f g still ready.held;
      as_many = ready.as_many;
      tended = λ t. tended_made (place_of (files_in folders) file) distinct
          (file_within folders file is) shut one two three (makes t) (opened t) (ready.tended t);
    }

-- a change of an open file, by what the call answers
changed_by : {T A E : Type 0} {path_of : T → Path} {u v : TreeView} {folders : Folders}
    {hs : List (Hold T)} {e : Entries} (whole step : List ℕ → List ℕ → Type 0) (place : ℕ)
    (file : T) (result : Result A E) → AreDistinct (paths_in folders)
    → place < length (paths_in folders) → slice_index_or hs place Lost ≡ Open file
    → OnOk result (ChangesBytes whole (slice_index_or (paths_in folders) place []) u.seen v.seen)
    → OnErr result (ChangesBytes step (slice_index_or (paths_in folders) place []) u.seen v.seen)
    → Passes (ChangesBytes step (slice_index_or (paths_in folders) place [])) u v
    → IsChanged (slice_index_or (paths_in folders) place []) u v
    → IsTended path_of u folders hs e → IsTended path_of v folders hs e
changed_by whole step place file (Ok value) distinct lt is_open done stopped passes changed is =
    tended_changed whole step place file distinct lt is_open done passes changed is
changed_by whole step place file (Err fault) distinct lt is_open done stopped passes changed is =
    tended_changed step step place file distinct lt is_open stopped passes changed is

pub ready_changed : {F T A E : Type 0} {tells : Type 0} {holds : F → Path → Type 0}
    {path_of : T → Path} {view : F → TreeView} {folders : Folders} {f : F} {hs : List (Hold T)}
    {e : Entries} (whole step : List ℕ → List ℕ → Type 0) (g : F) (file : ℕ) (open_file : T)
    (result : Result A E) → AreDistinct (paths_in folders) → IsFile (files_in folders) file
    → slice_index_or hs (place_of (files_in folders) file) Lost ≡ Open open_file
    → IsReady tells holds path_of view folders f hs e → StillHeld holds f g
    → (tells → OnOk result
    (ChangesBytes whole (path_at folders file) (view f).seen (view g).seen))
    → (tells → OnErr result
    (ChangesBytes step (path_at folders file) (view f).seen (view g).seen))
    → (tells → Passes (ChangesBytes step (path_at folders file)) (view f) (view g))
    → (tells → IsChanged (path_at folders file) (view f) (view g))
    → IsReady tells holds path_of view folders g hs e
ready_changed {F} {T} {A} {E} {tells} {holds} {path_of} {view} {folders} {f} {hs} {e} whole step g
    file open_file result distinct is is_open ready still done stopped passes changed =
    record {
      held = held_still holds folders f g still ready.held;
      as_many = ready.as_many;
      tended = λ t. changed_by whole step (place_of (files_in folders) file) open_file result
          distinct (file_within folders file is) is_open (done t) (stopped t) (passes t) (changed t)
          (ready.tended t);
    }

-- what is kept of a file that is open
pub kept_open : {F T : Type 0} {tells : Type 0} {holds : F → Path → Type 0} {path_of : T → Path}
    {view : F → TreeView} {folders : Folders} {f : F} {hs : List (Hold T)} {e : Entries}
    (file : ℕ) (open_file : T) → IsFile (files_in folders) file
    → slice_index_or hs (place_of (files_in folders) file) Lost ≡ Open open_file
    → IsReady tells holds path_of view folders f hs e
    → tells → IsKept path_of (view f) (path_at folders file) (Open open_file)
kept_open {F} {T} {tells} {holds} {path_of} {view} {folders} {f} {hs} {e} file open_file is is_open
    ready t =
    let place = place_of (files_in folders) file in
    subst (λ (h : Hold T). IsKept path_of (view f) (path_at folders file) h) is_open
    ((ready.tended t).each place (file_within folders file is))

-- a sync of a file, after which it is held otherwise
pub ready_synced : {F T : Type 0} {tells : Type 0} {holds : F → Path → Type 0} {path_of : T → Path}
    {view : F → TreeView} {folders : Folders} {f : F} {hs : List (Hold T)} {e : Entries} (g : F)
    (file : ℕ) (h : Hold T) → AreDistinct (paths_in folders) → IsFile (files_in folders) file
    → IsReady tells holds path_of view folders f hs e → StillHeld holds f g
    → (tells → ReadsOn (view f) (view g))
    → (tells → OthersTended (path_at folders file) (view f) (view g))
    → (tells → IsKept path_of (view g) (path_at folders file) h)
    → IsReady tells holds path_of view folders g (set hs (place_of (files_in folders) file) h) e
ready_synced {F} {T} {tells} {holds} {path_of} {view} {folders} {f} {hs} {e} g file h distinct is
    ready still reads others kept =
    let place = place_of (files_in folders) file in
    let lt = file_within folders file is in
    record {
      held = held_still holds folders f g still ready.held;
      as_many = length-set hs place h ∙ ready.as_many;
      tended = λ t. tended_synced place h distinct lt
          (subst (λ (n : ℕ). place < n) (sym ready.as_many) lt) (reads t) (others t) (kept t)
          (ready.tended t);
    }

-- nothing is outstanding at the beginning
pub fresh_tended : {T : Type 0} {path_of : T → Path} {v : TreeView} {folders : Folders}
    (hs : List (Hold T)) → IsFresh v
    → ((k : ℕ) → k < length (paths_in folders) → slice_index_or hs k Lost ≡ Shut)
    → IsTended path_of v folders hs Made
fresh_tended {T} {path_of} {v} {folders} hs fresh shut = record {
  each = λ k lt. subst (λ (h : Hold T). IsKept path_of v (slice_index_or (paths_in folders) k []) h)
      (sym (shut k lt)) (fresh.whole (slice_index_or (paths_in folders) k []));
  entered = (fresh.trusted (output_folder folders), fresh.trusted (checkpoint_folder folders));
}

-- the lock of a file's folder
pub held_at : (held : Path → Type 0) (folders : Folders) (file : ℕ) (folder : Path)
    → folder ≡ folder_at folders file → AreHeld held folders → held folder
held_at held folders file folder is both = subst held (sym is) (by (nat_lt file 8))
  where
    by : (b : Bool) → held (if b then checkpoint_folder folders else output_folder folders)
    by true = both.checkpoints
    by false = both.output

-- a file's path is in its folder
pub within_at : (folders : Folders) (file : ℕ) (folder path : Path)
    → folder ≡ folder_at folders file → IsIn (folder_at folders file) path → IsIn folder path
within_at folders file folder path is within = subst (λ (f : Path). IsIn f path) (sym is) within

-- ---- what a call says of an open file's path, of the path that it was opened by

pub open_there : {T : Type 0} (path_of : T → Path) (u : TreeView) (path : Path) (file : T)
    → IsKept path_of u path (Open file) → (u.seen path).is_there ≡ true
open_there path_of u path file kept = kept.2

pub at_path : {T : Type 0} (path_of : T → Path) (u : TreeView) (path : Path) (file : T)
    (P : Path → Type 0) → IsKept path_of u path (Open file) → P (path_of file) → P path
at_path path_of u path file P kept p = subst P kept.0 p

pub from_path : {T : Type 0} (path_of : T → Path) (u : TreeView) (path : Path) (file : T)
    (P : Path → Type 0) → IsKept path_of u path (Open file) → P path → P (path_of file)
from_path path_of u path file P kept p = subst P (sym kept.0) p

-- a sync of a file that was open since its first change
pub trusted_sync : {T A E : Type 0} (path_of : T → Path) (u v : TreeView) (path : Path) (file : T)
    (result : Result A E) → IsKept path_of u path (Open file)
    → OnOk result (u.care (path_of file) ≢ Care.Doubtful → IsSettled (path_of file) v)
    → OnOk result (IsSettled path v)
trusted_sync path_of u v path file (Ok value) kept settled =
    subst (λ (p : Path). IsSettled p v) kept.0
    (settled (subst (λ (p : Path). u.care p ≢ Care.Doubtful) (sym kept.0) kept.1))
trusted_sync path_of u v path file (Err fault) kept settled = tt

pub kept_after : {T A E : Type 0} (path_of : T → Path) (v : TreeView) (path : Path) (h : Hold T)
    (result : Result A E) → OnOk result (h ≡ Shut) → OnErr result (h ≡ Lost)
    → OnOk result (IsSettled path v) → IsKept path_of v path h
kept_after {T} path_of v path h (Ok value) shut lost settled =
    subst (λ (k : Hold T). IsKept path_of v path k) (sym shut) settled.whole
kept_after {T} path_of v path h (Err fault) shut lost settled =
    subst (λ (k : Hold T). IsKept path_of v path k) (sym lost) tt
