-- What a disk over folders knows of its files, over calls.
use Rattle.std.specs.Prelude.{ℕ, ◌≡◌, ◌≢◌, ◌<◌, List, [], length, slice_index_or}
use Rattle.std.proofs.Common.{refl, sym, ◌∙◌, ap, subst, inl, inr, set}
use Rattle.std.proofs.lemmas.List.{get_or-set_same, get_or-set_other}
use Rattle.std.proofs.lemmas.Bool.{cases_eq}
use Rattle.cx_disk.specs.Disk.{Folders}
use Rattle.cx_folder.specs.Tree.{Tree, TreeView, Passes, Makes, ChangesBytes, ReadsOn, OthersTended, AllTended, IsOpened, IsChanged, IsEntered}
use Rattle.cx_folder.specs.Names.{Path, paths_in, AreDistinct, output_folder, checkpoint_folder}
use Rattle.cx_folder.specs.Tended.{IsKept, AreTrusted, AreEntered, IsTended}
use Rattle.cx_folder.specs.declared.kept.Hold.{Hold}
use Rattle.cx_folder.specs.declared.kept.Hold.TheVariants.{Shut, Open, Lost}
use Rattle.cx_folder.specs.declared.kept.Entries.{Entries}
use Rattle.cx_folder.specs.declared.kept.Entries.TheVariants.{Settled, Made, Doubted}

-- one file, where nothing of it has changed
pub kept_on : {T : Type 0} (path_of : T → Path) (u v : TreeView) (path : Path) (h : Hold T)
    → v.care path ≡ u.care path → (v.seen path).is_there ≡ (u.seen path).is_there
    → IsKept path_of u path h → IsKept path_of v path h
kept_on path_of u v path Shut care there kept = care ∙ kept
kept_on path_of u v path (Open file) care there kept =
    (kept.0, (λ bad. kept.1 (sym care ∙ bad)), there ∙ kept.2)
kept_on path_of u v path Lost care there kept = kept

-- a folder whose entries are settled, where no entry has changed
entered_on : (u v : TreeView) (folder : Path)
    → ((path : Path) → (v.seen path).is_there ≡ (u.seen path).is_there)
    → ((t : Tree) → v.images t → (b : Tree) × u.images b
    × ((path : Path) → (t path).is_there ≡ (b path).is_there))
    → IsEntered folder u → IsEntered folder v
entered_on u v folder seen from entered t now path within =
    let b = from t now in b.2 path ∙ entered b.0 b.1 path within ∙ sym (seen path)

trusted_on : (u v : TreeView) (folders : Folders)
    → ((folder : Path) → v.doubted folder ≡ u.doubted folder)
    → AreTrusted u folders → AreTrusted v folders
trusted_on u v folders same trusted = (
  same (output_folder folders) ∙ trusted.0,
  same (checkpoint_folder folders) ∙ trusted.1,
)

all_entered : (u v : TreeView) (folders : Folders) (e : Entries)
    → ((folder : Path) → v.doubted folder ≡ u.doubted folder)
    → ((path : Path) → (v.seen path).is_there ≡ (u.seen path).is_there)
    → ((t : Tree) → v.images t → (b : Tree) × u.images b
    × ((path : Path) → (t path).is_there ≡ (b path).is_there))
    → AreEntered u folders e → AreEntered v folders e
all_entered u v folders Settled same seen from is = (
  trusted_on u v folders same is.0,
  entered_on u v (output_folder folders) seen from is.1,
  entered_on u v (checkpoint_folder folders) seen from is.2,
)
all_entered u v folders Made same seen from is = trusted_on u v folders same is
all_entered u v folders Doubted same seen from is = is

pub there_on : {u v : TreeView} → ReadsOn u v
    → (path : Path) → (v.seen path).is_there ≡ (u.seen path).is_there
there_on {u} {v} reads path = ap (λ e. e.is_there) (reads.same path)

pub images_on : {u v : TreeView} → ReadsOn u v → (t : Tree) → v.images t → (b : Tree) × u.images b
    × ((path : Path) → (t path).is_there ≡ (b path).is_there)
images_on {u} {v} reads t now =
    let b = reads.after.crash t now in (b.0, b.1, λ path. ap (λ e. e.is_there) (b.2 path))

-- a call after which all is as it was
pub tended_on : {T : Type 0} {path_of : T → Path} {u v : TreeView} {folders : Folders}
    {hs : List (Hold T)} {e : Entries} → ReadsOn u v → AllTended u v
    → IsTended path_of u folders hs e → IsTended path_of v folders hs e
tended_on {T} {path_of} {u} {v} {folders} {hs} {e} reads tended is = record {
  each = λ k lt. kept_on path_of u v (slice_index_or (paths_in folders) k [])
      (slice_index_or hs k Lost) (tended.files (slice_index_or (paths_in folders) k []))
      (there_on reads (slice_index_or (paths_in folders) k [])) (is.each k lt);
  entered = all_entered u v folders e tended.folders (there_on reads) (images_on reads) is.entered;
}

-- one place has changed, and all others are as they were
pub each_but : {T : Type 0} (path_of : T → Path) (u v : TreeView) (folders : Folders)
    (old new : List (Hold T)) (place : ℕ) → AreDistinct (paths_in folders)
    → place < length (paths_in folders)
    → ((k : ℕ) → k ≢ place → slice_index_or new k Lost ≡ slice_index_or old k Lost)
    → ((path : Path) → path ≢ slice_index_or (paths_in folders) place []
    → (v.care path ≡ u.care path) × ((v.seen path).is_there ≡ (u.seen path).is_there))
    → IsKept path_of v (slice_index_or (paths_in folders) place []) (slice_index_or new place Lost)
    → ((k : ℕ) → k < length (paths_in folders)
    → IsKept path_of u (slice_index_or (paths_in folders) k []) (slice_index_or old k Lost))
    → (k : ℕ) → k < length (paths_in folders)
    → IsKept path_of v (slice_index_or (paths_in folders) k []) (slice_index_or new k Lost)
each_but {T} path_of u v folders old new place distinct lt same others this each k k_lt =
    elim (cases_eq k place) as (λ _. IsKept path_of v (slice_index_or (paths_in folders) k [])
    (slice_index_or new k Lost)) [
      | inl is ↦ subst (λ (j : ℕ). IsKept path_of v (slice_index_or (paths_in folders) j [])
          (slice_index_or new j Lost)) (sym is) this
      | inr ne ↦ let o = others (slice_index_or (paths_in folders) k [])
          (distinct k place k_lt ne) in
          subst (λ (h : Hold T).
          IsKept path_of v (slice_index_or (paths_in folders) k []) h) (sym (same k ne))
          (kept_on path_of u v (slice_index_or (paths_in folders) k []) (slice_index_or old k Lost)
          o.0 o.1 (each k k_lt))
    ]

-- a look at a file that isn't kept open
pub tended_opened : {T : Type 0} {path_of : T → Path} {u v : TreeView} {folders : Folders}
    {hs : List (Hold T)} {e : Entries} (place : ℕ) → AreDistinct (paths_in folders)
    → place < length (paths_in folders)
    → ((file : T) → slice_index_or hs place Lost ≡ Open file → ⊥) → ReadsOn u v
    → IsOpened (slice_index_or (paths_in folders) place []) u v
    → IsTended path_of u folders hs e → IsTended path_of v folders hs e
tended_opened {T} {path_of} {u} {v} {folders} {hs} {e} place distinct lt not_open reads opened is =
    record {
      each = each_but path_of u v folders hs hs place distinct lt (λ k ne. refl)
          (λ path ne. (opened.others.files path ne, there_on reads path))
          (this (slice_index_or hs place Lost) refl (is.each place lt)) is.each;
      entered = all_entered u v folders e opened.others.folders (there_on reads) (images_on reads)
          is.entered;
    }
  where
    this : (h : Hold T) → slice_index_or hs place Lost ≡ h
        → IsKept path_of u (slice_index_or (paths_in folders) place []) h
        → IsKept path_of v (slice_index_or (paths_in folders) place []) h
    this Shut same kept = opened.whole kept
    this (Open file) same kept = absurd (not_open file same)
    this Lost same kept = kept

-- a change of a file that is open
pub tended_changed : {T : Type 0} {path_of : T → Path} {u v : TreeView} {folders : Folders}
    {hs : List (Hold T)} {e : Entries} (seen_step step : List ℕ → List ℕ → Type 0) (place : ℕ)
    (file : T) → AreDistinct (paths_in folders) → place < length (paths_in folders)
    → slice_index_or hs place Lost ≡ Open file
    → ChangesBytes seen_step (slice_index_or (paths_in folders) place []) u.seen v.seen
    → Passes (ChangesBytes step (slice_index_or (paths_in folders) place [])) u v
    → IsChanged (slice_index_or (paths_in folders) place []) u v
    → IsTended path_of u folders hs e → IsTended path_of v folders hs e
tended_changed {T} {path_of} {u} {v} {folders} {hs} {e} seen_step step place file distinct lt
    is_open changes passes changed is =
    let path = slice_index_or (paths_in folders) place [] in
    let kept : IsKept path_of u path (Open file) =
    subst (λ (h : Hold T). IsKept path_of u path h) is_open (is.each place lt) in
    record {
      each = each_but path_of u v folders hs hs place distinct lt (λ k ne. refl)
          (λ other ne. (changed.others.files other ne, changes.there other))
          (subst (λ (h : Hold T). IsKept path_of v path h) (sym is_open)
          (kept.0, changed.trusted kept.1, changes.there path ∙ kept.2)) is.each;
      entered = all_entered u v folders e changed.others.folders changes.there
          (λ t now. let b = passes.crash t now in (b.0, b.1, b.2.there)) is.entered;
    }

-- what is outstanding of entries, once a file may have been made
entered_made : (u v : TreeView) (folders : Folders) (e next : Entries)
    → (e ≡ Settled → next ≡ Made) → (e ≡ Made → next ≡ Made) → (e ≡ Doubted → next ≡ Doubted)
    → ((folder : Path) → v.doubted folder ≡ u.doubted folder)
    → AreEntered u folders e → AreEntered v folders next
entered_made u v folders Settled next one two three same is =
    subst (AreEntered v folders) (sym (one refl)) (trusted_on u v folders same is.0)
entered_made u v folders Made next one two three same is =
    subst (AreEntered v folders) (sym (two refl)) (trusted_on u v folders same is)
entered_made u v folders Doubted next one two three same is =
    subst (AreEntered v folders) (sym (three refl)) tt

-- a file that was shut is made
pub tended_made : {T : Type 0} {path_of : T → Path} {u v : TreeView} {folders : Folders}
    {hs : List (Hold T)} {e next : Entries} (place : ℕ) → AreDistinct (paths_in folders)
    → place < length (paths_in folders) → slice_index_or hs place Lost ≡ Shut
    → (e ≡ Settled → next ≡ Made) → (e ≡ Made → next ≡ Made) → (e ≡ Doubted → next ≡ Doubted)
    → Makes (slice_index_or (paths_in folders) place []) u.seen v.seen
    → IsOpened (slice_index_or (paths_in folders) place []) u v
    → IsTended path_of u folders hs e → IsTended path_of v folders hs next
tended_made {T} {path_of} {u} {v} {folders} {hs} {e} {next} place distinct lt shut one two three
    makes opened is =
    let path = slice_index_or (paths_in folders) place [] in
    record {
      each = each_but path_of u v folders hs hs place distinct lt (λ k ne. refl)
          (λ other ne. (opened.others.files other ne, ap (λ e. e.is_there) (makes.others other ne)))
          (subst (λ (h : Hold T). IsKept path_of v path h) (sym shut)
          (opened.whole (subst (λ (h : Hold T). IsKept path_of u path h) shut (is.each place lt))))
          is.each;
      entered = entered_made u v folders e next one two three opened.others.folders is.entered;
    }

-- another holding of one file
pub tended_set : {T : Type 0} {path_of : T → Path} {u : TreeView} {folders : Folders}
    {hs : List (Hold T)} {e : Entries} (place : ℕ) (h : Hold T) → AreDistinct (paths_in folders)
    → place < length (paths_in folders) → place < length hs
    → IsKept path_of u (slice_index_or (paths_in folders) place []) h
    → IsTended path_of u folders hs e → IsTended path_of u folders (set hs place h) e
tended_set {T} {path_of} {u} {folders} {hs} {e} place h distinct lt within kept is =
    let path = slice_index_or (paths_in folders) place [] in
    record {
      each = each_but path_of u u folders hs (set hs place h) place distinct lt
          (λ k ne. get_or-set_other hs place k h Lost ne) (λ other ne. (refl, refl))
          (subst (λ (g : Hold T). IsKept path_of u path g)
          (sym (get_or-set_same hs place h Lost within)) kept) is.each;
      entered = is.entered;
    }

-- a sync of a file, after which it is held otherwise
pub tended_synced : {T : Type 0} {path_of : T → Path} {u v : TreeView} {folders : Folders}
    {hs : List (Hold T)} {e : Entries} (place : ℕ) (h : Hold T) → AreDistinct (paths_in folders)
    → place < length (paths_in folders) → place < length hs → ReadsOn u v
    → OthersTended (slice_index_or (paths_in folders) place []) u v
    → IsKept path_of v (slice_index_or (paths_in folders) place []) h
    → IsTended path_of u folders hs e → IsTended path_of v folders (set hs place h) e
tended_synced {T} {path_of} {u} {v} {folders} {hs} {e} place h distinct lt within reads others kept
    is =
    let path = slice_index_or (paths_in folders) place [] in
    record {
      each = each_but path_of u v folders hs (set hs place h) place distinct lt
          (λ k ne. get_or-set_other hs place k h Lost ne)
          (λ other ne. (others.files other ne, there_on reads other))
          (subst (λ (g : Hold T). IsKept path_of v path g)
          (sym (get_or-set_same hs place h Lost within)) kept) is.each;
      entered = all_entered u v folders e others.folders (there_on reads) (images_on reads)
          is.entered;
    }
