-- What calls of a disk over folders do, from what calls of the folders do.
use Rattle.std.specs.Prelude.{ℕ, ◌≡◌, ◌≢◌, ◌≤◌, ◌⊎◌, List, [], Bool, true, false, Option, Some, None, is_some, IfSome, Result, Ok, Err, OnOk, OnErr, take, length, slice_index_or, if◌then◌else◌, nat_lt}
use Rattle.std.proofs.Common.{refl, sym, ◌∙◌, ap, subst, inl, inr, set}
use Rattle.std.proofs.Math.Seq.{take-nil}
use Rattle.std.specs.Str.{bytes_eq}
use Rattle.std.proofs.lemmas.Slice.Eq.{bytes_eq-Decides}
use Rattle.cx_disk.specs.Disk.{Folders, Files, View, SameFiles, Changes, Front, CutShort, files_in, Passes as DiskPasses, IsSettled as IsDiskSettled}
use Rattle.cx_disk.specs.Files.{IsFile}
use Rattle.cx_disk.specs.MemoryLaws.{cut_same}
use Rattle.cx_folder.specs.Tree.{Entry, Tree, TreeView, IsTreeView, ChangesBytes, Passes, ReadsOn, OthersTended, IsOpened, IsChanged, Makes, IsSettled, IsEntered, OthersDoubted, bytes_in}
use Rattle.cx_folder.specs.Names.{Path, place_of, path_at, folder_at, paths_in, output_folder, checkpoint_folder, AreDistinct}
use Rattle.cx_folder.specs.Pulled.{files_of, pulled, Stays, Alters}
use Rattle.cx_folder.specs.PulledLaws.{pulled_sound}
use Rattle.cx_folder.specs.Tended.{AreTrusted, AreEntered, HasBytes, HasSettled, IsTended, IsKept, IsReady}
use Rattle.cx_folder.specs.declared.care.Care.{Care}
use Rattle.cx_folder.specs.declared.kept.Hold.{Hold}
use Rattle.cx_folder.specs.declared.kept.Hold.TheVariants.{Shut, Open, Lost}
use Rattle.cx_folder.specs.declared.kept.Entries.{Entries}
use Rattle.cx_folder.specs.declared.kept.Entries.TheVariants.{Settled, Made, Doubted}
use Rattle.cx_folder.proofs.TreeLaws.{bytes_of, stays_then, stays_makes, changes_pulled, pulled_passes}
use Rattle.cx_folder.proofs.TendedLaws.{kept_on, there_on}
use Rattle.cx_folder.proofs.NamesLaws.{path_apart, in_folder}
use Rattle.cx_folder.proofs.ReadyLaws.{StillHeld, held_still, kept_open, kept_after, ready_opened, ready_open, ready_made, ready_changed, ready_synced, trusted_sync}

-- ---- changes

-- a call that changes nothing of the disk, and one that changes a file
pub alters_then : {A E : Type 0} (whole step : List ℕ → List ℕ → Type 0) (folders : Folders)
    (file : ℕ) (result : Result A E) {u v w : TreeView} → IsTreeView u → Stays folders u v
    → Alters whole step folders file result v w → Alters whole step folders file result u w
alters_then {A} {E} whole step folders file result {u} {v} {w} sound stays alters = record {
  done = subst (λ (b : List ℕ). OnOk result (whole b (files_of folders w.seen file)))
      (stays.same file) alters.done;
  stopped = subst (λ (b : List ℕ). OnErr result (step b (files_of folders w.seen file)))
      (stays.same file) alters.stopped;
  others = λ other ne. alters.others other ne ∙ stays.same other;
  after = stays_then (Changes step file) {u = pulled folders u} {v = pulled folders v}
      {w = pulled folders w} (pulled_sound folders u sound) stays.after alters.after;
}

-- a call that changes nothing, as one that was stopped before it changed a file
same_changes : (step : List ℕ → List ℕ → Type 0) (file : ℕ) → ((xs : List ℕ) → step xs xs)
    → (a b : Files) → SameFiles a b → Changes step file a b
same_changes step file still a b same = record {
  this = subst (λ (xs : List ℕ). step xs (b file)) (same file) (still (b file));
  others = λ other ne. same other;
}

passes_as : (does other : Files → Files → Type 0) {u v : View}
    → ((a b : Files) → does a b → other a b) → DiskPasses does u v → DiskPasses other u v
passes_as does other {u} {v} as_other passes = record {
  crash = λ image now. let b = passes.crash image now in (b.0, b.1, as_other b.0 image b.2);
  later = passes.later;
  nothing_else = passes.nothing_else;
  keeps = passes.keeps;
}

still_stopped : {A E : Type 0} (step : List ℕ → List ℕ → Type 0) (result : Result A E)
    (a b : List ℕ) → step a b → OnErr result (step a b)
still_stopped step (Ok value) a b is = tt
still_stopped step (Err fault) a b is = is

pub alters_still : {A E : Type 0} (whole step : List ℕ → List ℕ → Type 0) (folders : Folders)
    (file : ℕ) (result : Result A E) {u v : TreeView} → ((xs : List ℕ) → step xs xs)
    → Stays folders u v
    → OnOk result (whole (files_of folders u.seen file) (files_of folders v.seen file))
    → Alters whole step folders file result u v
alters_still {A} {E} whole step folders file result {u} {v} still stays done = record {
  done = done;
  stopped = still_stopped step result (files_of folders u.seen file) (files_of folders v.seen file)
      (same_changes step file still (files_of folders u.seen) (files_of folders v.seen)
      stays.same).this;
  others = λ other ne. stays.same other;
  after = passes_as SameFiles (Changes step file) {u = pulled folders u} {v = pulled folders v}
      (same_changes step file still) stays.after;
}

-- a file that is there, as it reads
there_reads : (tree : Tree) (path : Path) → (tree path).is_there ≡ true
    → bytes_in tree path ≡ (tree path).bytes
there_reads tree path there = by (tree path).is_there there
  where
    by : (b : Bool) → b ≡ true → (if b then (tree path).bytes else []) ≡ (tree path).bytes
    by true is = refl
    by false is = absurd (cc)

-- one that isn't
pub absent_reads : (tree : Tree) (path : Path) → (tree path).is_there ≡ false
    → bytes_in tree path ≡ []
absent_reads tree path there = by (tree path).is_there there
  where
    by : (b : Bool) → b ≡ false → (if b then (tree path).bytes else []) ≡ []
    by true is = absurd (cc)
    by false is = refl

-- a change of a file that is there, as it reads
changes_read : (step : List ℕ → List ℕ → Type 0) (path : Path) (t s : Tree)
    → (t path).is_there ≡ true → ChangesBytes step path t s
    → step (bytes_in t path) (bytes_in s path)
changes_read step path t s there changes =
    subst (λ (xs : List ℕ). step xs (bytes_in s path)) (sym (there_reads t path there))
    (subst (λ (xs : List ℕ). step (t path).bytes xs)
    (sym (there_reads s path (changes.there path ∙ there))) changes.this)

-- a call that changes an open file
pub alters_call : {A E : Type 0} (whole step : List ℕ → List ℕ → Type 0) (folders : Folders)
    (file : ℕ) (result : Result A E) {u v : TreeView} → AreDistinct (paths_in folders)
    → IsFile (files_in folders) file → (u.seen (path_at folders file)).is_there ≡ true → step [] []
    → OnOk result (ChangesBytes whole (path_at folders file) u.seen v.seen)
    → OnErr result (ChangesBytes step (path_at folders file) u.seen v.seen)
    → Passes (ChangesBytes step (path_at folders file)) u v
    → Alters whole step folders file result u v
alters_call {A} {E} whole step folders file (Ok value) {u} {v} distinct is there none done stopped
    passes = record {
      done = changes_read whole (path_at folders file) u.seen v.seen there done;
      stopped = tt;
      others = λ other ne. ap bytes_of
          (done.others (path_at folders other) (path_apart folders file other distinct is ne));
      after = pulled_passes folders (ChangesBytes step (path_at folders file)) (Changes step file)
          (λ t s changes. changes_pulled folders file step none
          (λ other ne. path_apart folders file other distinct is ne) t s changes) passes;
    }
alters_call {A} {E} whole step folders file (Err fault) {u} {v} distinct is there none done stopped
    passes = record {
      done = tt;
      stopped = changes_read step (path_at folders file) u.seen v.seen there stopped;
      others = λ other ne. ap bytes_of
          (stopped.others (path_at folders other) (path_apart folders file other distinct is ne));
      after = pulled_passes folders (ChangesBytes step (path_at folders file)) (Changes step file)
          (λ t s changes. changes_pulled folders file step none
          (λ other ne. path_apart folders file other distinct is ne) t s changes) passes;
    }

-- the bytes of an open file that a call may ask for
pub there_within : (folders : Folders) (file n : ℕ) (u : TreeView)
    → (u.seen (path_at folders file)).is_there ≡ true
    → n ≤ length (files_of folders u.seen file)
    → n ≤ length (u.seen (path_at folders file)).bytes
there_within folders file n u there within =
    subst (λ (xs : List ℕ). n ≤ length xs)
    (there_reads u.seen (path_at folders file) there) within

-- ---- what is settled

-- of entries: folder by folder
entered_at : (v : TreeView) (folders : Folders) (file : ℕ) → AreEntered v folders Settled
    → IsEntered (folder_at folders file) v
entered_at v folders file entered = by (nat_lt file 8)
  where
    by : (b : Bool)
        → IsEntered (if b then checkpoint_folder folders else output_folder folders) v
    by true = entered.2
    by false = entered.1

same_entry : (a b : Entry) → a.is_there ≡ b.is_there → (b.is_there ≡ false) ⊎ (a.bytes ≡ b.bytes)
    → bytes_of a ≡ bytes_of b
same_entry a b there alike = by a.is_there b.is_there there alike
  where
    by : (s t : Bool) → s ≡ t → (t ≡ false) ⊎ (a.bytes ≡ b.bytes)
        → (if s then a.bytes else []) ≡ (if t then b.bytes else [])
    by true true e (inl bad) = absurd (cc)
    by true true e (inr same) = same
    by true false e either = absurd (cc)
    by false true e either = absurd (cc)
    by false false e either = refl

-- a file whose bytes and whose folder's entries are settled
pub settled_of : (folders : Folders) (file : ℕ) (v : TreeView) → IsFile (files_in folders) file
    → HasSettled (path_at folders file) v → AreEntered v folders Settled
    → IsDiskSettled (pulled folders v) file
settled_of folders file v is settled entered image now =
    let path = path_at folders file in
    let there : (now.0 path).is_there ≡ (v.seen path).is_there =
    entered_at v folders file entered now.0 now.1 path (in_folder folders file is) in
    let alike : ((v.seen path).is_there ≡ false) ⊎ ((now.0 path).bytes ≡ (v.seen path).bytes) =
    elim settled as
    (λ _. ((v.seen path).is_there ≡ false) ⊎ ((now.0 path).bytes ≡ (v.seen path).bytes))
    [ inl gone ↦ inl gone | inr bytes ↦ inr (bytes now.0 now.1) ] in
    subst (λ (i : Files). i file ≡ files_of folders v.seen file) now.2
    (same_entry (now.0 path) (v.seen path) there alike)

-- what is settled stays so
pub settled_on : (path : Path) {u v : TreeView} → ReadsOn u v → HasSettled path u
    → HasSettled path v
settled_on path {u} {v} reads settled = elim settled as (λ _. HasSettled path v) [
  | inl gone ↦ inl (there_on reads path ∙ gone)
  | inr bytes ↦ inr (λ image now. let b = reads.after.crash image now in
      ap (λ (e : Entry). e.bytes) (b.2 path) ∙ bytes b.0 b.1
      ∙ sym (ap (λ (e : Entry). e.bytes) (reads.same path)))
]

-- the entries of one folder stay settled
entered_on : (folder : Path) {u v : TreeView} → ReadsOn u v → IsEntered folder u
    → IsEntered folder v
entered_on folder {u} {v} reads entered image now path within =
    let b = reads.after.crash image now in
    ap (λ (e : Entry). e.is_there) (b.2 path) ∙ entered b.0 b.1 path within
    ∙ sym (there_on reads path)

-- two paths are one or not
path_cases : (a b : Path) → (a ≡ b) ⊎ (a ≢ b)
path_cases a b =
    by (bytes_eq a b) (λ e. (bytes_eq-Decides a b).0 e) (λ e. (bytes_eq-Decides a b).1 e)
  where
    no : false ≡ true → ⊥
    no e = cc

    by : (t : Bool) → (t ≡ true → a ≡ b) → (a ≡ b → t ≡ true) → (a ≡ b) ⊎ (a ≢ b)
    by true is only = inl (is refl)
    by false is only = inr (λ e. no (only e))

-- both folders were synced, one after the other
pub entered_both : (folders : Folders) {u v w : TreeView} → AreTrusted u folders → ReadsOn u v
    → OthersDoubted (output_folder folders) u v
    → (u.doubted (output_folder folders) ≡ false
    → IsEntered (output_folder folders) v × (v.doubted (output_folder folders) ≡ false))
    → ReadsOn v w → OthersDoubted (checkpoint_folder folders) v w
    → (v.doubted (checkpoint_folder folders) ≡ false
    → IsEntered (checkpoint_folder folders) w × (w.doubted (checkpoint_folder folders) ≡ false))
    → AreEntered w folders Settled
entered_both folders {u} {v} {w} trusted first kept one second kept_too two =
    let out = output_folder folders in
    let chk = checkpoint_folder folders in
    let had = one trusted.0 in
    let chk_trusted : v.doubted chk ≡ false =
    elim (path_cases chk out) as (λ _. v.doubted chk ≡ false) [
      | inl same ↦ subst (λ (p : Path). v.doubted p ≡ false) (sym same) had.1
      | inr ne ↦ kept.folders chk ne ∙ trusted.1
    ] in
    let has = two chk_trusted in
    let out_trusted : w.doubted out ≡ false =
    elim (path_cases out chk) as (λ _. w.doubted out ≡ false) [
      | inl same ↦ subst (λ (p : Path). w.doubted p ≡ false) (sym same) has.1
      | inr ne ↦ kept_too.folders out ne ∙ had.1
    ] in
    ((out_trusted, has.1), entered_on out second had.0, has.0)

-- a sync of a folder, after which the entries are otherwise
pub tended_entries : {T : Type 0} {path_of : T → Path} {u v : TreeView} {folders : Folders}
    {hs : List (Hold T)} {e : Entries} (f : Entries) → ReadsOn u v
    → ((path : Path) → v.care path ≡ u.care path) → AreEntered v folders f
    → IsTended path_of u folders hs e → IsTended path_of v folders hs f
tended_entries {T} {path_of} {u} {v} {folders} {hs} {e} f reads care entered is = record {
  each = λ k lt. kept_on path_of u v (slice_index_or (paths_in folders) k [])
      (slice_index_or hs k Lost) (care (slice_index_or (paths_in folders) k []))
      (there_on reads (slice_index_or (paths_in folders) k [])) (is.each k lt);
  entered = entered;
}

-- what follows from what a call's Ok gives
pub on_then : {A E : Type 0} (P Q : Type 0) (result : Result A E) → (P → Q) → OnOk result P
    → OnOk result Q
on_then P Q (Ok value) law p = law p
on_then P Q (Err fault) law p = tt

-- ---- a call on a file that is open, by the path that it was opened by

pub open_within : {F T : Type 0} {tells : Type 0} {holds : F → Path → Type 0} {path_of : T → Path}
    {view : F → TreeView} {folders : Folders} {f : F} {hs : List (Hold T)} {e : Entries}
    (file n : ℕ) (open_file : T) → IsFile (files_in folders) file
    → slice_index_or hs (place_of (files_in folders) file) Lost ≡ Open open_file
    → IsReady tells holds path_of view folders f hs e
    → (tells → n ≤ length (files_of folders (view f).seen file))
    → tells → n ≤ length ((view f).seen (path_of open_file)).bytes
open_within {F} {T} {tells} {holds} {path_of} {view} {folders} {f} {hs} {e} file n open_file is
    is_open ready within t =
    let kept : IsKept path_of (view f) (path_at folders file) (Open open_file) =
    kept_open file open_file is is_open ready t in
    subst (λ (p : Path). n ≤ length ((view f).seen p).bytes) (sym kept.0)
    (there_within folders file n (view f) kept.2 (within t))

-- a step of a tree at the path of an open file
by_path : {T : Type 0} (P : Path → Type 0) (path_of : T → Path) (u : TreeView) (path : Path)
    (file : T) → IsKept path_of u path (Open file) → P (path_of file) → P path
by_path P path_of u path file kept p = subst P kept.0 p

pub changed_open : {F T A E : Type 0} {tells : Type 0} {holds : F → Path → Type 0}
    {path_of : T → Path} {view : F → TreeView} {folders : Folders} {f : F} {hs : List (Hold T)}
    {e : Entries} (whole step : List ℕ → List ℕ → Type 0) (g : F) (file : ℕ) (open_file : T)
    (result : Result A E) → AreDistinct (paths_in folders) → IsFile (files_in folders) file
    → slice_index_or hs (place_of (files_in folders) file) Lost ≡ Open open_file
    → IsReady tells holds path_of view folders f hs e → StillHeld holds f g
    → (tells → OnOk result (ChangesBytes whole (path_of open_file) (view f).seen (view g).seen))
    → (tells → OnErr result (ChangesBytes step (path_of open_file) (view f).seen (view g).seen))
    → (tells → Passes (ChangesBytes step (path_of open_file)) (view f) (view g))
    → (tells → IsChanged (path_of open_file) (view f) (view g))
    → IsReady tells holds path_of view folders g hs e
changed_open {F} {T} {A} {E} {tells} {holds} {path_of} {view} {folders} {f} {hs} {e} whole step g
    file open_file result distinct is is_open ready still done stopped passes changed =
    let path = path_at folders file in
    let kept : tells → IsKept path_of (view f) path (Open open_file) =
    λ t. kept_open file open_file is is_open ready t in
    ready_changed whole step g file open_file result distinct is is_open ready still
    (λ t. by_path (λ p. OnOk result (ChangesBytes whole p (view f).seen (view g).seen)) path_of
    (view f) path open_file (kept t) (done t))
    (λ t. by_path (λ p. OnErr result (ChangesBytes step p (view f).seen (view g).seen)) path_of
    (view f) path open_file (kept t) (stopped t))
    (λ t. by_path (λ p. Passes (ChangesBytes step p) (view f) (view g)) path_of
    (view f) path open_file (kept t) (passes t))
    (λ t. by_path (λ p. IsChanged p (view f) (view g)) path_of
    (view f) path open_file (kept t) (changed t))

pub alters_open : {F T A E : Type 0} {tells : Type 0} {holds : F → Path → Type 0}
    {path_of : T → Path} {view : F → TreeView} {folders : Folders} {f : F} {hs : List (Hold T)}
    {e : Entries} (whole step : List ℕ → List ℕ → Type 0) (g : F) (file : ℕ) (open_file : T)
    (result : Result A E) → AreDistinct (paths_in folders) → IsFile (files_in folders) file
    → slice_index_or hs (place_of (files_in folders) file) Lost ≡ Open open_file → step [] []
    → IsReady tells holds path_of view folders f hs e
    → (tells → OnOk result (ChangesBytes whole (path_of open_file) (view f).seen (view g).seen))
    → (tells → OnErr result (ChangesBytes step (path_of open_file) (view f).seen (view g).seen))
    → (tells → Passes (ChangesBytes step (path_of open_file)) (view f) (view g))
    → tells → Alters whole step folders file result (view f) (view g)
alters_open {F} {T} {A} {E} {tells} {holds} {path_of} {view} {folders} {f} {hs} {e} whole step g
    file open_file result distinct is is_open none ready done stopped passes t =
    let path = path_at folders file in
    let kept : IsKept path_of (view f) path (Open open_file) =
    kept_open file open_file is is_open ready t in
    alters_call whole step folders file result distinct is kept.2 none
    (by_path (λ p. OnOk result (ChangesBytes whole p (view f).seen (view g).seen)) path_of
    (view f) path open_file kept (done t))
    (by_path (λ p. OnErr result (ChangesBytes step p (view f).seen (view g).seen)) path_of
    (view f) path open_file kept (stopped t))
    (by_path (λ p. Passes (ChangesBytes step p) (view f) (view g)) path_of
    (view f) path open_file kept (passes t))

-- a change that was refused before it began
pub alters_none : {A E : Type 0} (whole step : List ℕ → List ℕ → Type 0) (folders : Folders)
    (file : ℕ) (result : Result A E) (fault : E) {u v : TreeView} → result ≡ Err fault
    → ((xs : List ℕ) → step xs xs) → Stays folders u v
    → Alters whole step folders file result u v
alters_none {A} {E} whole step folders file result fault {u} {v} is still stays =
    subst (λ (r : Result A E). Alters whole step folders file r u v) (sym is)
    (alters_still whole step folders file (Err fault) still stays tt)

-- a cut of a file that isn't there
pub alters_absent : {A E : Type 0} (folders : Folders) (file n : ℕ) (value : A) {u v : TreeView}
    → Stays folders u v → (v.seen (path_at folders file)).is_there ≡ false
    → Alters {A = A} {E = E} (Front n) (CutShort n) folders file (Ok value) u v
alters_absent {A} {E} folders file n value {u} {v} stays gone =
    let now : files_of folders v.seen file ≡ [] = absent_reads v.seen (path_at folders file) gone in
    let before : files_of folders u.seen file ≡ [] = sym (stays.same file) ∙ now in
    alters_still (Front n) (CutShort n) folders file (Ok value) (cut_same n) stays
    (subst (λ (xs : List ℕ). files_of folders v.seen file ≡ take n xs) (sym before)
    (now ∙ sym (take-nil n)))

-- a sync of an open file
pub synced_open : {F T A E : Type 0} {tells : Type 0} {holds : F → Path → Type 0}
    {path_of : T → Path} {view : F → TreeView} {folders : Folders} {f : F} {hs : List (Hold T)}
    {e : Entries} (g : F) (file : ℕ) (open_file : T) (h : Hold T) (result : Result A E)
    → AreDistinct (paths_in folders) → IsFile (files_in folders) file
    → slice_index_or hs (place_of (files_in folders) file) Lost ≡ Open open_file
    → IsReady tells holds path_of view folders f hs e → StillHeld holds f g
    → (tells → ReadsOn (view f) (view g))
    → (tells → OthersTended (path_of open_file) (view f) (view g))
    → (tells → OnOk result ((view f).care (path_of open_file) ≢ Care.Doubtful
    → IsSettled (path_of open_file) (view g)))
    → OnOk result (h ≡ Shut) → OnErr result (h ≡ Lost)
    → IsReady tells holds path_of view folders g
    (set hs (place_of (files_in folders) file) h) e
synced_open {F} {T} {A} {E} {tells} {holds} {path_of} {view} {folders} {f} {hs} {e} g file open_file
    h result distinct is is_open ready still reads others settled shut lost =
    let path = path_at folders file in
    let kept : tells → IsKept path_of (view f) path (Open open_file) =
    λ t. kept_open file open_file is is_open ready t in
    ready_synced g file h distinct is ready still reads
    (λ t. by_path (λ p. OthersTended p (view f) (view g)) path_of (view f) path open_file (kept t)
    (others t))
    (λ t. kept_after path_of (view g) path h result shut lost
    (trusted_sync path_of (view f) (view g) path open_file result (kept t) (settled t)))

pub bytes_open : {F T A E : Type 0} {tells : Type 0} {holds : F → Path → Type 0}
    {path_of : T → Path} {view : F → TreeView} {folders : Folders} {f : F} {hs : List (Hold T)}
    {e : Entries} (g : F) (file : ℕ) (open_file : T) (result : Result A E)
    → IsFile (files_in folders) file
    → slice_index_or hs (place_of (files_in folders) file) Lost ≡ Open open_file
    → IsReady tells holds path_of view folders f hs e
    → (tells → OnOk result ((view f).care (path_of open_file) ≢ Care.Doubtful
    → IsSettled (path_of open_file) (view g)))
    → tells → OnOk result (HasBytes (path_at folders file) (view g))
bytes_open {F} {T} {A} {E} {tells} {holds} {path_of} {view} {folders} {f} {hs} {e} g file open_file
    result is is_open ready settled t =
    let path = path_at folders file in
    let kept : IsKept path_of (view f) path (Open open_file) =
    kept_open file open_file is is_open ready t in
    on_then (IsSettled path (view g)) (HasBytes path (view g)) result (λ s. s.bytes)
    (trusted_sync path_of (view f) (view g) path open_file result kept (settled t))

-- ---- a file that was shut

-- what is kept of one file has been set
set_as : {F T : Type 0} {tells : Type 0} {holds : F → Path → Type 0} {path_of : T → Path}
    {view : F → TreeView} {folders : Folders} {g : F} {e : Entries}
    (hs new : List (Hold T)) (k place : ℕ) (h : Hold T) → k ≡ place → new ≡ set hs k h
    → IsReady tells holds path_of view folders g (set hs place h) e
    → IsReady tells holds path_of view folders g new e
set_as {F} {T} {tells} {holds} {path_of} {view} {folders} {g} {e} hs new k place h at is ready =
    subst (λ (l : List (Hold T)). IsReady tells holds path_of view folders g l e)
    (sym (is ∙ ap (λ (n : ℕ). set hs n h) at)) ready

some_of : {T : Type 0} (P : T → Type 0) (found : Option T) (file : T) → found ≡ Some file
    → IfSome found P → P file
some_of {T} P found file is has = subst (λ (o : Option T). IfSome o P) is has

some_is : {T : Type 0} (found : Option T) (file : T) (b : Bool) → found ≡ Some file
    → is_some found ≡ b → b ≡ true
some_is {T} found file b is same = sym same ∙ ap (λ (o : Option T). is_some o) is

-- it wasn't there
pub looked : {F T : Type 0} {tells : Type 0} {holds : F → Path → Type 0} {path_of : T → Path}
    {view : F → TreeView} {folders : Folders} {f : F} {hs : List (Hold T)} {e : Entries} (g : F)
    (file : ℕ) (path : Path) → AreDistinct (paths_in folders) → IsFile (files_in folders) file
    → path ≡ path_at folders file
    → slice_index_or hs (place_of (files_in folders) file) Lost ≡ Shut
    → IsReady tells holds path_of view folders f hs e → StillHeld holds f g
    → (tells → ReadsOn (view f) (view g)) → (tells → IsOpened path (view f) (view g))
    → IsReady tells holds path_of view folders g hs e
looked {F} {T} {tells} {holds} {path_of} {view} {folders} {f} {hs} {e} g file path distinct is at
    shut ready still reads opened =
    ready_opened g file distinct is shut ready still reads
    (λ t. subst (λ (p : Path). IsOpened p (view f) (view g)) at (opened t))

pub looked_absent : {T : Type 0} (folders : Folders) (file : ℕ) (path : Path) (found : Option T)
    {u v : TreeView} → path ≡ path_at folders file → found ≡ None → ReadsOn u v
    → is_some found ≡ (u.seen path).is_there
    → (v.seen (path_at folders file)).is_there ≡ false
looked_absent {T} folders file path found {u} {v} at none reads same =
    subst (λ (p : Path). (v.seen p).is_there ≡ false) at
    (there_on reads path ∙ sym same ∙ ap (λ (o : Option T). is_some o) none)

-- it was there, and is open from now on
pub looked_open : {F T : Type 0} {tells : Type 0} {holds : F → Path → Type 0} {path_of : T → Path}
    {view : F → TreeView} {folders : Folders} {f : F} {hs : List (Hold T)} {e : Entries} (g : F)
    (file : ℕ) (path : Path) (open_file : T) (found : Option T) (k : ℕ) (new : List (Hold T))
    → AreDistinct (paths_in folders) → IsFile (files_in folders) file → path ≡ path_at folders file
    → slice_index_or hs (place_of (files_in folders) file) Lost ≡ Shut
    → IsReady tells holds path_of view folders f hs e → StillHeld holds f g
    → (tells → ReadsOn (view f) (view g)) → (tells → IsOpened path (view f) (view g))
    → found ≡ Some open_file → (tells → IfSome found (λ it. path_of it ≡ path))
    → (tells → is_some found ≡ ((view f).seen path).is_there)
    → k ≡ place_of (files_in folders) file → new ≡ set hs k (Open open_file)
    → IsReady tells holds path_of view folders g new e
looked_open {F} {T} {tells} {holds} {path_of} {view} {folders} {f} {hs} {e} g file path open_file
    found k new distinct is at shut ready still reads opened some named there place set_is =
    set_as hs new k (place_of (files_in folders) file) (Open open_file) place set_is
    (ready_open file open_file distinct is shut
    (looked g file path distinct is at shut ready still reads opened)
    (λ t. some_of (λ it. path_of it ≡ path) found open_file some (named t) ∙ at)
    (λ t. subst (λ (p : Path). ((view g).seen p).is_there ≡ true) at
    (there_on (reads t) path
    ∙ some_is found open_file ((view f).seen path).is_there some (there t))))

-- it may have been made
pub makes_ready : {F T : Type 0} {tells : Type 0} {holds : F → Path → Type 0} {path_of : T → Path}
    {view : F → TreeView} {folders : Folders} {f : F} {hs : List (Hold T)} {e : Entries} (g : F)
    (next : Entries) (file : ℕ) (path : Path) → AreDistinct (paths_in folders)
    → IsFile (files_in folders) file → path ≡ path_at folders file
    → slice_index_or hs (place_of (files_in folders) file) Lost ≡ Shut
    → (e ≡ Settled → next ≡ Made) → (e ≡ Made → next ≡ Made) → (e ≡ Doubted → next ≡ Doubted)
    → IsReady tells holds path_of view folders f hs e → StillHeld holds f g
    → (tells → Makes path (view f).seen (view g).seen)
    → (tells → IsOpened path (view f) (view g))
    → IsReady tells holds path_of view folders g hs next
makes_ready {F} {T} {tells} {holds} {path_of} {view} {folders} {f} {hs} {e} g next file path
    distinct is at shut one two three ready still makes opened =
    ready_made g next file distinct is shut one two three ready still
    (λ t. subst (λ (p : Path). Makes p (view f).seen (view g).seen) at (makes t))
    (λ t. subst (λ (p : Path). IsOpened p (view f) (view g)) at (opened t))

-- it was made, and is open from now on
pub made_open : {F T : Type 0} {tells : Type 0} {holds : F → Path → Type 0} {path_of : T → Path}
    {view : F → TreeView} {folders : Folders} {g : F} {hs : List (Hold T)} {e : Entries}
    (file : ℕ) (path : Path) (open_file : T) (k : ℕ) (new : List (Hold T))
    → AreDistinct (paths_in folders) → IsFile (files_in folders) file → path ≡ path_at folders file
    → slice_index_or hs (place_of (files_in folders) file) Lost ≡ Shut
    → IsReady tells holds path_of view folders g hs e → (tells → path_of open_file ≡ path)
    → (tells → ((view g).seen path).is_there ≡ true)
    → k ≡ place_of (files_in folders) file → new ≡ set hs k (Open open_file)
    → IsReady tells holds path_of view folders g new e
made_open {F} {T} {tells} {holds} {path_of} {view} {folders} {g} {hs} {e} file path open_file k new
    distinct is at shut ready named there place set_is =
    set_as hs new k (place_of (files_in folders) file) (Open open_file) place set_is
    (ready_open file open_file distinct is shut ready (λ t. named t ∙ at)
    (λ t. subst (λ (p : Path). ((view g).seen p).is_there ≡ true) at (there t)))

pub makes_stay : (folders : Folders) (file : ℕ) (path : Path) {u v : TreeView}
    → path ≡ path_at folders file → Makes path u.seen v.seen → Passes (Makes path) u v
    → Stays folders u v
makes_stay folders file path at makes passes = stays_makes folders path makes passes

-- what is set of a file that was synced
pub synced_as : {F T A E : Type 0} {tells : Type 0} {holds : F → Path → Type 0}
    {path_of : T → Path} {view : F → TreeView} {folders : Folders} {f : F} {hs : List (Hold T)}
    {e : Entries} (g : F) (file : ℕ) (open_file : T) (h : Hold T) (result : Result A E) (k : ℕ)
    (new : List (Hold T)) → AreDistinct (paths_in folders) → IsFile (files_in folders) file
    → slice_index_or hs (place_of (files_in folders) file) Lost ≡ Open open_file
    → IsReady tells holds path_of view folders f hs e → StillHeld holds f g
    → (tells → ReadsOn (view f) (view g))
    → (tells → OthersTended (path_of open_file) (view f) (view g))
    → (tells → OnOk result ((view f).care (path_of open_file) ≢ Care.Doubtful
    → IsSettled (path_of open_file) (view g)))
    → OnOk result (h ≡ Shut) → OnErr result (h ≡ Lost)
    → k ≡ place_of (files_in folders) file → new ≡ set hs k h
    → IsReady tells holds path_of view folders g new e
synced_as {F} {T} {A} {E} {tells} {holds} {path_of} {view} {folders} {f} {hs} {e} g file open_file h
    result k new distinct is is_open ready still reads others settled shut lost place set_is =
    set_as hs new k (place_of (files_in folders) file) h place set_is
    (synced_open g file open_file h result distinct is is_open ready still reads others settled shut
    lost)

-- ---- entries

-- no sync of a folder has failed while entries are only to be settled
pub trusted_of : {F T : Type 0} {tells : Type 0} {holds : F → Path → Type 0} {path_of : T → Path}
    {view : F → TreeView} {folders : Folders} {f : F} {hs : List (Hold T)} {e : Entries}
    → IsReady tells holds path_of view folders f hs e → e ≡ Made → tells
    → AreTrusted (view f) folders
trusted_of {F} {T} {tells} {holds} {path_of} {view} {folders} {f} {hs} {e} ready is t =
    subst (AreEntered (view f) folders) is (ready.tended t).entered

pub entered_of : {F T : Type 0} {tells : Type 0} {holds : F → Path → Type 0} {path_of : T → Path}
    {view : F → TreeView} {folders : Folders} {f : F} {hs : List (Hold T)} {e : Entries}
    → IsReady tells holds path_of view folders f hs e → e ≡ Settled → tells
    → AreEntered (view f) folders Settled
entered_of {F} {T} {tells} {holds} {path_of} {view} {folders} {f} {hs} {e} ready is t =
    subst (AreEntered (view f) folders) is (ready.tended t).entered

-- a folder's sync, of the folder under another name
entered_as : (one other : Path) (u v : TreeView) → one ≡ other
    → (u.doubted one ≡ false → IsEntered one v × (v.doubted one ≡ false))
    → u.doubted other ≡ false → IsEntered other v × (v.doubted other ≡ false)
entered_as one other u v is entered = subst (λ (p : Path).
    u.doubted p ≡ false → IsEntered p v × (v.doubted p ≡ false)) is entered

pub entered_after : (folders : Folders) (output checkpoints : Path) {u v w : TreeView}
    → output ≡ output_folder folders → checkpoints ≡ checkpoint_folder folders
    → AreTrusted u folders → ReadsOn u v → OthersDoubted output u v
    → (u.doubted output ≡ false → IsEntered output v × (v.doubted output ≡ false))
    → ReadsOn v w → OthersDoubted checkpoints v w
    → (v.doubted checkpoints ≡ false
    → IsEntered checkpoints w × (w.doubted checkpoints ≡ false))
    → AreEntered w folders Settled
entered_after folders output checkpoints {u} {v} {w} is also trusted first kept one second kept_too
    two = entered_both folders {u = u} {v = v} {w = w} trusted first
    (subst (λ (p : Path). OthersDoubted p u v) is kept)
    (entered_as output (output_folder folders) u v is one) second
    (subst (λ (p : Path). OthersDoubted p v w) also kept_too)
    (entered_as checkpoints (checkpoint_folder folders) v w also two)

-- a sync of folders, after which the entries are otherwise
pub ready_entries : {F T : Type 0} {tells : Type 0} {holds : F → Path → Type 0} {path_of : T → Path}
    {view : F → TreeView} {folders : Folders} {f : F} {hs : List (Hold T)} {e : Entries} (g : F)
    (next : Entries) → IsReady tells holds path_of view folders f hs e → StillHeld holds f g
    → (tells → ReadsOn (view f) (view g))
    → (tells → (path : Path) → (view g).care path ≡ (view f).care path)
    → (tells → AreEntered (view g) folders next)
    → IsReady tells holds path_of view folders g hs next
ready_entries {F} {T} {tells} {holds} {path_of} {view} {folders} {f} {hs} {e} g next ready still
    reads care entered =
    record {
      held = held_still holds folders f g still ready.held;
      as_many = ready.as_many;
      tended = λ t. tended_entries next (reads t) (care t) (entered t) (ready.tended t);
    }

-- what is settled of a file, once the entries are
pub settled_both : {A E : Type 0} (folders : Folders) (file : ℕ) {v w : TreeView}
    (result : Result A E) → IsFile (files_in folders) file → HasSettled (path_at folders file) v
    → ReadsOn v w → OnOk result (AreEntered w folders Settled)
    → OnOk result (IsDiskSettled (pulled folders w) file)
settled_both folders file {v} {w} result is settled reads entered =
    on_then (AreEntered w folders Settled) (IsDiskSettled (pulled folders w) file) result
    (λ e. settled_of folders file w is (settled_on (path_at folders file) reads settled) e) entered
