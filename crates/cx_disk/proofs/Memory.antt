-- The disk in memory: each change leaves what its note says.
use Rattle.std.specs.Prelude.{ℕ, ◌≤◌, ◌<◌, ◌≡◌, ◌⊎◌, nat_eq, List, [], ◌∷◌, ◌++◌, length, take, if◌then◌else◌, Bool, true, false}
use Rattle.std.proofs.Common.{refl, sym, ◌∙◌, ap, subst, arith, inl, inr, length-append, set}
use Rattle.std.proofs.lemmas.List.{get_or-set_same, get_or-set_other, take_all, take-append-le}
use Rattle.std.proofs.lemmas.Bool.{cases_eq}
use Rattle.std.proofs.lemmas.Bool.Decides.{nat_tests}
use Rattle.cx_disk.specs.Disk.{no_folders, Files, SameFiles, View, Passes, IsSettled}
use Rattle.cx_disk.specs.MemoryLaws.{cases_le}
use Rattle.cx_disk.specs.Memory.{History, noted, file_of, changed, after_note, replay, reading, left_by, images_from, images_at, view_at, view_of, IsKept}
use Rattle.cx_disk.specs.declared.note.Change.{Change}
use Rattle.cx_disk.specs.declared.note.Change.TheVariants.{Synced}
use Rattle.cx_disk.specs.declared.note.Note.{Note}

pub replay_more : (base : Files) (notes : List Note) (n : Note)
    → replay base (notes ++ n ∷ []) ≡ after_note n (replay base notes)
replay_more base [] n = refl
replay_more base (m ∷ notes) n = replay_more (after_note m base) notes n

images_more : (seen : Files) (images : Files → Type 0) (notes : List Note) (n : Note) (c : Files)
    → images_from seen images (notes ++ n ∷ []) c
    → left_by n.change n.file (replay seen notes) (images_from seen images notes) c
images_more seen images [] n c h = h
images_more seen images (m ∷ notes) n c h =
    images_more (after_note m seen) (left_by m.change m.file seen images) notes n c h

pub more_images : (seen : Files) (images : Files → Type 0) (notes : List Note) (n : Note)
    (c : Files) → left_by n.change n.file (replay seen notes) (images_from seen images notes) c
    → images_from seen images (notes ++ n ∷ []) c
more_images seen images [] n c h = h
more_images seen images (m ∷ notes) n c h =
    more_images (after_note m seen) (left_by m.change m.file seen images) notes n c h

-- one note more
passes_note : (step : Files → Files → Type 0) (first : Files) (notes : List Note) (n : Note)
    → ((c : Files) → left_by n.change n.file (replay first notes) (images_at first notes) c
    → (d : Files) × images_at first notes d × step d c)
    → Passes step (view_at first notes) (view_at first (notes ++ n ∷ []))
passes_note step first notes n has =
    let size = length-append notes (n ∷ []) in
    record {
      crash = λ c now. has c (images_more first (SameFiles first) notes n c now);
      later = omega arith;
      nothing_else = λ t c le left.
          elim (cases_le left.0 (length notes)) as
          (λ _. ((k : ℕ) × (t ≤ k) × (k ≤ length notes) × images_at first (take k notes) c)
          ⊎ images_at first (notes ++ n ∷ []) c) [
            | inl old ↦ inl (
              left.0,
              left.1,
              old,
              subst (λ (l : List Note). images_at first l c)
                  (take-append-le left.0 notes (n ∷ []) old) left.3,
            )
            | inr all ↦ elim (cases_eq left.0 (length notes)) as
                (λ _. ((k : ℕ) × (t ≤ k) × (k ≤ length notes) × images_at first (take k notes) c)
                ⊎ images_at first (notes ++ n ∷ []) c) [
                  | inl same ↦ let le2 : left.0 ≤ length notes =
                      (let e : left.0 ≡ length notes = same in omega arith) in
                      inl (
                        left.0,
                        left.1,
                        le2,
                        subst (λ (l : List Note). images_at first l c)
                            (take-append-le left.0 notes (n ∷ []) le2) left.3,
                      )
                  | inr ne
                      ↦ inr (subst (λ (l : List Note). images_at first l c)
                      (take_all left.0 (notes ++ n ∷ []) (omega arith)) left.3)
                ]
          ];
      keeps = λ t c le left. (
        left.0,
        left.1,
        (let l = left.2 in omega arith),
        subst (λ (l : List Note). images_at first l c)
            (sym (take-append-le left.0 notes (n ∷ []) left.2)) left.3,
      );
    }

-- a call that adds a note
pub passes_noted : (step : Files → Files → Type 0) (disk new : History) (note : Note)
    → new ≡ noted disk note
    → ((seen : Files) (images : Files → Type 0) (c : Files)
    → left_by note.change note.file seen images c → (d : Files) × images d × step d c)
    → Passes step (view_of disk) (view_of new)
passes_noted step disk new note same has =
    subst (λ (d : History). Passes step (view_of disk) (view_of d)) (sym same)
    (passes_note step (file_of disk.first) disk.notes note
    (λ c h. has (reading disk) (images_at (file_of disk.first) disk.notes) c h))

-- a call that adds none
pub passes_alone : (step : Files → Files → Type 0) (v : View) → ((files : Files) → step files files)
    → Passes step v v
passes_alone step v none = record {
  crash = λ c now. (c, now, none c);
  later = omega arith;
  nothing_else = λ t c le left. inl left;
  keeps = λ t c le left. left;
}

pub passes_still : (disk : History) → Passes SameFiles (view_of disk) (view_of disk)
passes_still disk = passes_alone SameFiles (view_of disk) (λ files g. refl)

-- the file of a note reads as the change has it
pub reading_own : (disk new : History) (note : Note) → new ≡ noted disk note
    → reading new note.file ≡ changed note.change (reading disk note.file)
reading_own disk new note same =
    ap (λ (d : History). reading d note.file) same
    ∙ ap (λ (f : Files). f note.file) (replay_more (file_of disk.first) disk.notes note)
    ∙ at_own (nat_eq note.file note.file) (grind (arith, nat_tests))
  where
    at_own : (b : Bool) → b ≡ true
        → (if b then changed note.change (reading disk note.file) else reading disk note.file)
        ≡ changed note.change (reading disk note.file)
    at_own true right = refl
    at_own false wrong = absurd (cc)

-- the other files read as before
pub reading_others : (disk new : History) (note : Note) (g : ℕ) → new ≡ noted disk note
    → (g ≡ note.file → ⊥) → reading new g ≡ reading disk g
reading_others disk new note g same ne =
    ap (λ (d : History). reading d g) same
    ∙ ap (λ (f : Files). f g) (replay_more (file_of disk.first) disk.notes note)
    ∙ at_other (nat_eq g note.file) refl
  where
    at_other : (b : Bool) → nat_eq g note.file ≡ b
        → (if b then changed note.change (reading disk g) else reading disk g) ≡ reading disk g
    at_other true e = absurd (ne (grind (arith, nat_tests)))
    at_other false e = refl

-- after a sync all files read as before
pub reading_synced : (disk new : History) (note : Note) → new ≡ noted disk note
    → note.change ≡ Synced → SameFiles (reading disk) (reading new)
reading_synced disk new note same sync g =
    elim (cases_eq g note.file) as (λ _. reading new g ≡ reading disk g) [
      | inl own ↦ ap (reading new) own ∙ reading_own disk new note same
          ∙ ap (λ (ch : Change). changed ch (reading disk note.file)) sync
          ∙ ap (reading disk) (sym own)
      | inr ne ↦ reading_others disk new note g same ne
    ]

-- a file that is synced is the same in all images
pub settled_by_sync : (disk new : History) (note : Note) → new ≡ noted disk note
    → note.change ≡ Synced → IsSettled (view_of new) note.file
settled_by_sync disk new note same sync =
    subst (λ (d : History). IsSettled (view_of d) note.file) (sym same) (λ c now.
    let left : left_by Synced note.file (reading disk) (images_at (file_of disk.first) disk.notes)
    c = subst (λ (ch : Change).
    left_by ch note.file (reading disk) (images_at (file_of disk.first) disk.notes) c) sync
    (images_more (file_of disk.first) (SameFiles (file_of disk.first)) disk.notes note c now) in
    left.1 ∙ sym (ap (λ (ch : Change). changed ch (reading disk note.file)) sync)
    ∙ sym (reading_own disk (noted disk note) note refl))

-- the files that are kept, once one has been set
pub kept_more : (mounted : Bool) (first files : List (List ℕ)) (notes more : List Note)
    (note : Note) (next : List ℕ) → mounted ≡ true → IsKept mounted first files notes
    → note.file < length files → more ≡ notes ++ note ∷ []
    → next ≡ changed note.change (replay (file_of first) notes note.file)
    → IsKept mounted first (set files note.file next) more
kept_more mounted first files notes more note next is_mounted is_kept lt pushed is =
    record {
      unchanged = λ not_mounted. absurd (cc);
      kept = λ _ g. elim (cases_eq g note.file) as
          (λ _. file_of (set files note.file next) g ≡ replay (file_of first) more g) [
            | inl same ↦ ap (file_of (set files note.file next)) same
                ∙ get_or-set_same files note.file next [] lt ∙ is
                ∙ sym (reading_own disk new note grows)
                ∙ ap (replay (file_of first) more) (sym same)
            | inr ne ↦ get_or-set_other files note.file g next [] ne ∙ is_kept.kept is_mounted g
                ∙ sym (reading_others disk new note g grows ne)
          ];
    }
  where
    disk : History
    disk = record { mounted = mounted; folders = no_folders; first = first; notes = notes }

    new : History
    new = record { mounted = mounted; folders = no_folders; first = first; notes = more }

    grows : new ≡ noted disk note
    grows =
        ap (λ (l : List Note).
        record { mounted = mounted; folders = no_folders; first = first; notes = l }) pushed
