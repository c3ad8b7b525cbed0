-- Making an image change by change.
use Rattle.std.specs.Prelude.{ℕ, ◌+◌, ◌≤◌, ◌<◌, ◌≡◌, nat_eq, List, [], ◌∷◌, ◌++◌, length, take, drop, if◌then◌else◌, Bool, true, false, min, IsTrue, ◌↔◌}
use Rattle.std.proofs.Common.{refl, sym, ◌∙◌, ap, subst, arith, inl, inr, length-append, set}
use Rattle.std.proofs.lemmas.List.{drop_all, take_at, drop_at, append_assoc, length-take, length-drop, get_or-set_same, get_or-set_other}
use Rattle.std.proofs.lemmas.Bool.{cases_eq}
use Rattle.std.proofs.lemmas.Bool.Decides.{nat_tests}
use Rattle.cx_disk.specs.Disk.{Files, SameFiles, Changes, Torn, CutShort}
use Rattle.cx_disk.specs.Memory.{History, fresh, file_of, changed, after_note, replay, left_by, images_from, images_at, view_of}
use Rattle.cx_disk.specs.MemoryLaws.{cases_le, holds_torn, front_cut, torn_same, cut_same}
use Rattle.cx_disk.specs.Image.{Leaves, whole, IsPart, HasFile, Redoes, Tears, chosen_by, chosen_from, IsChosen, IsImageAfter, Follows, IsImageOf, IsChosenOf}
use Rattle.cx_disk.specs.declared.note.Change.{Change}
use Rattle.cx_disk.specs.declared.note.Change.TheVariants.{Wrote, Cut, Synced, StoppedWrite, StoppedCut}
use Rattle.cx_disk.specs.declared.note.Note.{Note}
use Rattle.cx_disk.proofs.Memory.{replay_more}

-- any bytes in the range of a write, up to a length between
pub torn_made : (at count : ℕ) (old fill new : List ℕ)
    → min (length old) (at + count) ≤ min at (length old) + length fill
    → min at (length old) + length fill ≤ at + count
    → new ≡ take at old ++ fill ++ drop (at + count) old → Torn at count old new
torn_made at count old fill new low high is =
    let front = length-take at old in
    let back = length-drop (at + count) old in
    let one = length-append (take at old ++ fill) (drop (at + count) old) in
    let two = length-append (take at old) fill in
    let size : length (take at old) ≡ min at (length old) = front in
    subst (λ (l : List ℕ). Torn at count old l) (sym is) (record {
      before = ap (λ (l : List ℕ). take (min at (length old)) l)
          (append_assoc (take at old) fill (drop (at + count) old))
          ∙ take_at (take at old) (fill ++ drop (at + count) old) (min at (length old)) size;
      behind = elim (cases_le (length old) (at + count)) as
          (λ _. drop (at + count) (take at old ++ fill ++ drop (at + count) old)
          ≡ drop (at + count) old) [
            | inl le ↦ drop_all (at + count) (take at old ++ fill ++ drop (at + count) old)
                (omega arith) ∙ sym (drop_all (at + count) old le)
            | inr ge ↦ drop_at (take at old ++ fill) (drop (at + count) old) (at + count)
                (omega arith)
          ];
      no_shorter = omega arith;
      no_longer = omega arith;
    })

-- a front that isn't shorter than the whole cut's
pub cut_made : (to keep : ℕ) (old : List ℕ) → min to (length old) ≤ keep → keep ≤ length old
    → CutShort to old (take keep old)
cut_made to keep old low high =
    let size = length-take keep old in
    let same : length (take keep old) ≡ keep = omega arith in
    record { no_shorter = omega arith; front = ap (λ (k : ℕ). take k old) (sym same) }

-- a file that is set
pub set_file : (files : List (List ℕ)) (file : ℕ) (bytes : List ℕ) → file < length files
    → HasFile file bytes (file_of files) (file_of (set files file bytes))
set_file files file bytes lt g = at_file (nat_eq g file) refl
  where
    at_file : (b : Bool) → nat_eq g file ≡ b
        → file_of (set files file bytes) g ≡ (if b then bytes else file_of files g)
    at_file true e = let same : g ≡ file = grind (arith, nat_tests) in
        ap (file_of (set files file bytes)) same ∙ get_or-set_same files file bytes [] lt
    at_file false e = get_or-set_other files file g bytes []
        (λ (same : g ≡ file). absurd (grind (arith, nat_tests)))

-- nothing and all of a change are what a crash may leave of it
pub nothing_leaves : (change : Change) (old : List ℕ) → Leaves change old old
nothing_leaves (Wrote at bytes) old = torn_same at (length bytes) old
nothing_leaves (Cut to) old = cut_same to old
nothing_leaves Synced old = refl
nothing_leaves (StoppedWrite at bytes) old = torn_same at (length bytes) old
nothing_leaves (StoppedCut to) old = cut_same to old

pub whole_leaves : (change : Change) (old : List ℕ) → Leaves change old (whole change old)
whole_leaves (Wrote at bytes) old = holds_torn at bytes old
whole_leaves (Cut to) old = front_cut to old
whole_leaves Synced old = refl
whole_leaves (StoppedWrite at bytes) old = holds_torn at bytes old
whole_leaves (StoppedCut to) old = front_cut to old

-- ---- one file of all

if_own : {A : Type 0} (file g : ℕ) (x y : A) → g ≡ file → (if nat_eq g file then x else y) ≡ x
if_own {A} file g x y same = at_own (nat_eq g file) (grind (arith, nat_tests))
  where
    at_own : (b : Bool) → b ≡ true → (if b then x else y) ≡ x
    at_own true e = refl
    at_own false e = absurd (cc)

if_other : {A : Type 0} (file g : ℕ) (x y : A) → (g ≡ file → ⊥)
    → (if nat_eq g file then x else y) ≡ y
if_other {A} file g x y ne = at_other (nat_eq g file) refl
  where
    at_other : (b : Bool) → nat_eq g file ≡ b → (if b then x else y) ≡ y
    at_other true e = absurd (ne (grind (arith, nat_tests)))
    at_other false e = refl

-- a file that is set to what a step of it leaves
pub set_changes : (step : List ℕ → List ℕ → Type 0) (file : ℕ) (bytes : List ℕ) (old new : Files)
    → HasFile file bytes old new → step (old file) bytes → Changes step file old new
set_changes step file bytes old new has leaves = record {
  this = subst (λ (l : List ℕ). step (old file) l)
      (sym (has file ∙ if_own file file bytes (old file) refl)) leaves;
  others = λ g ne. has g ∙ if_other file g bytes (old g) ne;
}

-- ---- each file by itself

-- in an image each file may be as it reads, whatever the others are
abbrev pub Mixes : Files → (Files → Type 0) → Type 0
Mixes seen images = (file : ℕ) (image new : Files) → images image
    → HasFile file (seen file) image new → images new

mixes_first : (first : Files) → Mixes first (SameFiles first)
mixes_first first file image new same has g = elim (cases_eq g file) as (λ _. new g ≡ first g) [
  | inl own ↦ has g ∙ if_own file g (first file) (image g) own ∙ ap first (sym own)
  | inr ne ↦ has g ∙ if_other file g (first file) (image g) ne ∙ same g
]

-- a change that isn't settled
mixes_step : (step : List ℕ → List ℕ → Type 0) (n : Note) (seen : Files) (images : Files → Type 0)
    → ((old : List ℕ) → step old (changed n.change old)) → Mixes seen images
    → Mixes (after_note n seen)
    (λ image. (before : Files) × images before × Changes step n.file before image)
mixes_step step n seen images has mixes file image new (before, was, changes) sets =
    (mid, mixes file before mid was (λ g. refl), record { this = this; others = others })
  where
    mid : Files
    mid g = if nat_eq g file then seen file else before g

    this : step (mid n.file) (new n.file)
    this = elim (cases_eq n.file file) as (λ _. step (mid n.file) (new n.file)) [
      | inl own ↦
          let was_so : mid n.file ≡ seen n.file =
          if_own file n.file (seen file) (before n.file) own ∙ ap seen (sym own) in
          let is_so : new n.file ≡ changed n.change (seen n.file) =
          sets n.file ∙ if_own file n.file (after_note n seen file) (image n.file) own
          ∙ ap (after_note n seen) (sym own)
          ∙ if_own n.file n.file (changed n.change (seen n.file)) (seen n.file) refl in
          subst (λ (l : List ℕ). step l (new n.file)) (sym was_so)
          (subst (λ (l : List ℕ). step (seen n.file) l) (sym is_so) (has (seen n.file)))
      | inr ne ↦
          let was_so : mid n.file ≡ before n.file =
          if_other file n.file (seen file) (before n.file) ne in
          let is_so : new n.file ≡ image n.file =
          sets n.file ∙ if_other file n.file (after_note n seen file) (image n.file) ne in
          subst (λ (l : List ℕ). step l (new n.file)) (sym was_so)
          (subst (λ (l : List ℕ). step (before n.file) l) (sym is_so) changes.this)
    ]

    others : (g : ℕ) → (g ≡ n.file → ⊥) → new g ≡ mid g
    others g off = elim (cases_eq g file) as (λ _. new g ≡ mid g) [
      | inl own ↦
          sets g ∙ if_own file g (after_note n seen file) (image g) own
          ∙ ap (after_note n seen) (sym own)
          ∙ if_other n.file g (changed n.change (seen g)) (seen g) off ∙ ap seen own
          ∙ sym (if_own file g (seen file) (before g) own)
      | inr ne ↦
          sets g ∙ if_other file g (after_note n seen file) (image g) ne ∙ changes.others g off
          ∙ sym (if_other file g (seen file) (before g) ne)
    ]

-- a sync changes no file
sync_same : (n : Note) (seen : Files) → n.change ≡ Synced → (g : ℕ) → after_note n seen g ≡ seen g
sync_same n seen is g = by_case (nat_eq g n.file)
  where
    by_case : (b : Bool) → (if b then changed n.change (seen g) else seen g) ≡ seen g
    by_case true = ap (λ (ch : Change). changed ch (seen g)) is
    by_case false = refl

mixes_sync : (n : Note) (seen : Files) (images : Files → Type 0) → n.change ≡ Synced
    → Mixes seen images → Mixes (after_note n seen) (left_by Synced n.file seen images)
mixes_sync n seen images is mixes file image new left sets =
    let exact : HasFile file (seen file) image new =
    λ g. sets g ∙ ap (λ (l : List ℕ). if nat_eq g file then l else image g)
    (sync_same n seen is file) in (
      mixes file image new left.0 exact,
      elim (cases_eq n.file file) as (λ _. new n.file ≡ seen n.file) [
        | inl own ↦ exact n.file ∙ if_own file n.file (seen file) (image n.file) own
            ∙ ap seen (sym own)
        | inr ne ↦ exact n.file ∙ if_other file n.file (seen file) (image n.file) ne ∙ left.1
      ],
    )

mixes_note : (n : Note) (change : Change) → n.change ≡ change
    → (seen : Files) (images : Files → Type 0) → Mixes seen images
    → Mixes (after_note n seen) (left_by change n.file seen images)
mixes_note n (Wrote at bytes) is seen images mixes =
    mixes_step (Torn at (length bytes)) n seen images
    (λ old. subst (λ (ch : Change). Torn at (length bytes) old (changed ch old)) (sym is)
    (holds_torn at bytes old)) mixes
mixes_note n (Cut to) is seen images mixes =
    mixes_step (CutShort to) n seen images
    (λ old. subst (λ (ch : Change). CutShort to old (changed ch old)) (sym is) (front_cut to old))
    mixes
mixes_note n Synced is seen images mixes = mixes_sync n seen images is mixes
mixes_note n (StoppedWrite at bytes) is seen images mixes =
    mixes_step (Torn at (length bytes)) n seen images
    (λ old. subst (λ (ch : Change). Torn at (length bytes) old (changed ch old)) (sym is)
    (torn_same at (length bytes) old)) mixes
mixes_note n (StoppedCut to) is seen images mixes =
    mixes_step (CutShort to) n seen images
    (λ old. subst (λ (ch : Change). CutShort to old (changed ch old)) (sym is) (cut_same to old))
    mixes

-- ---- what a choice leaves is one of the images

some_changes : (choice : ℕ) (change : Change) (file : ℕ) (before image : Files)
    → Changes (IsPart choice change) file before image → Changes (Leaves change) file before image
some_changes choice change file before image changes =
    record { this = changes.this.some; others = changes.others }

chosen_note : (choice : ℕ) (change : Change) (file : ℕ) (seen : Files)
    (chosen images : Files → Type 0) → ((image : Files) → chosen image → images image)
    → Mixes seen images
    → (image : Files) → chosen_by choice change file seen chosen image
    → left_by change file seen images image
chosen_note choice (Wrote at bytes) file seen chosen images within mixes image left =
    (left.0, within left.0 left.1, some_changes choice (Wrote at bytes) file left.0 image left.2)
chosen_note choice (Cut to) file seen chosen images within mixes image left =
    (left.0, within left.0 left.1, some_changes choice (Cut to) file left.0 image left.2)
chosen_note choice Synced file seen chosen images within mixes image left = (
  mixes file left.0 image (within left.0 left.1) left.2,
  left.2 file ∙ if_own file file (seen file) (left.0 file) refl,
)
chosen_note choice (StoppedWrite at bytes) file seen chosen images within mixes image left = (
  left.0,
  within left.0 left.1,
  some_changes choice (StoppedWrite at bytes) file left.0 image left.2,
)
chosen_note choice (StoppedCut to) file seen chosen images within mixes image left =
    (left.0, within left.0 left.1, some_changes choice (StoppedCut to) file left.0 image left.2)

chosen_within : (choice : ℕ) (seen : Files) (chosen images : Files → Type 0) (notes : List Note)
    → ((image : Files) → chosen image → images image) → Mixes seen images
    → (image : Files) → chosen_from choice seen chosen notes image
    → images_from seen images notes image
chosen_within choice seen chosen images [] within mixes image left = within image left
chosen_within choice seen chosen images (n ∷ notes) within mixes image left =
    chosen_within choice (after_note n seen) (chosen_by choice n.change n.file seen chosen)
    (left_by n.change n.file seen images) notes
    (chosen_note choice n.change n.file seen chosen images within mixes)
    (mixes_note n n.change refl seen images mixes) image left

pub chosen_left : (choice : ℕ) (first : Files) (notes : List Note) (image : Files)
    → IsChosen choice first notes image → images_at first notes image
chosen_left choice first notes image chosen =
    chosen_within choice first (SameFiles first) (SameFiles first) notes (λ _ same. same)
    (mixes_first first) image chosen

-- a disk of files that a choice leaves
pub chosen_image : (choice : ℕ) (old new : History) (files : List (List ℕ)) → new ≡ fresh files
    → IsChosenOf choice old new → IsImageOf (view_of old) new
chosen_image choice old new files is chosen = record {
  unmounted = is ∙ ap (λ (d : History). fresh d.first) (sym is);
  left = chosen_left choice (file_of old.first) old.notes (view_of new).seen chosen;
}

-- ---- one change more

-- the files as they read, after one change more
pub exact_more : (first : Files) (notes : List Note) (note : Note) (old new : Files)
    → SameFiles (replay first notes) old → Redoes note old new
    → SameFiles (replay first (notes ++ note ∷ [])) new
exact_more first notes note old new exact has g =
    let reads : old ≡ replay first notes = λ i g. exact g i in
    has g ∙ at_file (nat_eq g note.file) refl ∙ ap (λ (f : Files). after_note note f g) reads
    ∙ sym (ap (λ (f : Files). f g) (replay_more first notes note))
  where
    at_file : (b : Bool) → nat_eq g note.file ≡ b
        → (if b then changed note.change (old note.file) else old g)
        ≡ (if b then changed note.change (old g) else old g)
    at_file true e = let same : g ≡ note.file = grind (arith, nat_tests) in
        ap (λ (k : ℕ). changed note.change (old k)) (sym same)
    at_file false e = refl

chosen_more : (choice : ℕ) (seen : Files) (images : Files → Type 0) (notes : List Note) (n : Note)
    (image : Files) → chosen_by choice n.change n.file (replay seen notes)
    (chosen_from choice seen images notes) image
    → chosen_from choice seen images (notes ++ n ∷ []) image
chosen_more choice seen images [] n image left = left
chosen_more choice seen images (m ∷ notes) n image left =
    chosen_more choice (after_note m seen) (chosen_by choice m.change m.file seen images)
    notes n image left

torn_by : (choice : ℕ) (change : Change) (file : ℕ) (seen : Files) (images : Files → Type 0)
    (old new : Files) → (change ≡ Synced → ⊥) → images old
    → Changes (IsPart choice change) file old new → chosen_by choice change file seen images new
torn_by choice (Wrote at bytes) file seen images old new ne was changes = (old, was, changes)
torn_by choice (Cut to) file seen images old new ne was changes = (old, was, changes)
torn_by choice Synced file seen images old new ne was changes = absurd (ne refl)
torn_by choice (StoppedWrite at bytes) file seen images old new ne was changes = (old, was, changes)
torn_by choice (StoppedCut to) file seen images old new ne was changes = (old, was, changes)

-- a change that isn't settled: its file is torn in the image
pub torn_follows : (choice : ℕ) (note : Note) (old_files old_image files image : Files)
    → (note.change ≡ Synced → ⊥)
    → Redoes note old_files files → Tears choice note old_image image
    → Follows choice note old_files old_image files image
torn_follows choice note old_files old_image files image ne has changes first notes so_far =
    record {
      exact = exact_more first notes note old_files files so_far.exact has;
      chosen = chosen_more choice first (SameFiles first) notes note image
          (torn_by choice note.change note.file (replay first notes) (IsChosen choice first notes)
          old_image image ne so_far.chosen changes);
    }

-- a sync: its file is in the image as it reads
pub synced_follows : (choice : ℕ) (note : Note) (old_files old_image files image : Files)
    → note.change ≡ Synced
    → Redoes note old_files files → HasFile note.file (files note.file) old_image image
    → Follows choice note old_files old_image files image
synced_follows choice note old_files old_image files image is has settled first notes so_far =
    let reads : files note.file ≡ replay first notes note.file =
    has note.file ∙ if_own note.file note.file (changed note.change (old_files note.file))
    (old_files note.file) refl ∙ ap (λ (ch : Change). changed ch (old_files note.file)) is
    ∙ so_far.exact note.file in
    let left : chosen_by choice Synced note.file (replay first notes) (IsChosen choice first notes)
    image = (
      old_image,
      so_far.chosen,
      λ g. settled g ∙ ap (λ (l : List ℕ). if nat_eq g note.file then l else old_image g) reads,
    )
    in
    record {
      exact = exact_more first notes note old_files files so_far.exact has;
      chosen = chosen_more choice first (SameFiles first) notes note image
          (subst (λ (ch : Change).
          chosen_by choice ch note.file (replay first notes) (IsChosen choice first notes) image)
          (sym is) left);
    }

-- before any change
pub starts_after : (choice : ℕ) (first files image : Files) → SameFiles first files
    → SameFiles first image → IsImageAfter choice first [] files image
starts_after choice first files image exact left = record { exact = exact; chosen = left }

-- a test that holds, and one that fails
pub is_so : {P : Type 0} (b : Bool) → (IsTrue b ↔ P) → b ≡ true → P
is_so b iff e = iff.0 e

pub not_so : {P : Type 0} (b : Bool) → (IsTrue b ↔ P) → b ≡ false → P → ⊥
not_so false iff e p = let t : false ≡ true = iff.1 p in absurd (cc)
not_so true iff e p = absurd (cc)
