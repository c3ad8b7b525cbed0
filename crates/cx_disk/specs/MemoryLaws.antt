-- A disk in memory as it reads is one of the images that a crash may leave.
use Rattle.std.specs.Prelude.{ℕ, zero, suc, ◌+◌, ◌≤◌, ◌≡◌, ◌⊎◌, nat_eq, List, [], ◌∷◌, ◌++◌, length, take, drop, if◌then◌else◌, Bool, true, false, min}
use Rattle.std.proofs.Common.{refl, sym, ◌∙◌, ap, subst, arith, inl, inr, length-append}
use Rattle.std.proofs.lemmas.List.{take_all, drop_all, take_at, drop_at, append_assoc, length-take, length-drop, take_min}
use Rattle.std.proofs.lemmas.Bool.Decides.{nat_tests}
use Rattle.cx_disk.specs.Disk.{Files, SameFiles, Changes, Torn, CutShort, IsView}
use Rattle.cx_disk.specs.Memory.{History, file_of, changed, after_note, replay, left_by, images_from, images_at, view_of}
use Rattle.cx_disk.specs.declared.note.Change.{Change}
use Rattle.cx_disk.specs.declared.note.Change.TheVariants.{Wrote, Cut, Synced, StoppedWrite, StoppedCut}
use Rattle.cx_disk.specs.declared.note.Note.{Note}

pub cases_le : (a b : ℕ) → (a ≤ b) ⊎ (b ≤ a)
cases_le zero b = inl (omega arith)
cases_le (suc a) zero = inr (omega arith)
cases_le (suc a) (suc b) =
    elim (cases_le a b) as (λ _. (suc a ≤ suc b) ⊎ (suc b ≤ suc a))
    [ inl le ↦ inl (omega arith) | inr le ↦ inr (omega arith) ]

-- a write that is whole is one that is torn
pub holds_torn : (at : ℕ) (bytes old : List ℕ)
    → Torn at (length bytes) old (take at old ++ bytes ++ drop (at + length bytes) old)
holds_torn at bytes old =
    let front = length-take at old in
    let back = length-drop (at + length bytes) old in
    let one = length-append (take at old ++ bytes) (drop (at + length bytes) old) in
    let two = length-append (take at old) bytes in
    let size : length (take at old) ≡ min at (length old) = front in
    record {
      before = ap (λ (l : List ℕ). take (min at (length old)) l)
          (append_assoc (take at old) bytes (drop (at + length bytes) old))
          ∙ take_at (take at old) (bytes ++ drop (at + length bytes) old) (min at (length old))
          size;
      behind = elim (cases_le at (length old)) as
          (λ _. drop (at + length bytes) (take at old ++ bytes ++ drop (at + length bytes) old)
          ≡ drop (at + length bytes) old) [
            | inl le ↦ drop_at (take at old ++ bytes) (drop (at + length bytes) old)
                (at + length bytes)
                (omega arith)
            | inr gt ↦ drop_all (at + length bytes)
                (take at old ++ bytes ++ drop (at + length bytes) old) (omega arith)
                ∙ sym (drop_all (at + length bytes) old (omega arith))
          ];
      no_shorter = omega arith;
      no_longer = omega arith;
    }

pub front_cut : (to : ℕ) (old : List ℕ) → CutShort to old (take to old)
front_cut to old = record {
  no_shorter = omega (arith, length-take to old);
  front = sym (ap (λ (k : ℕ). take k old) (length-take to old) ∙ take_min to old);
}

pub torn_same : (at count : ℕ) (x : List ℕ) → Torn at count x x
torn_same at count x = record {
  before = take_min at x;
  behind = refl;
  no_shorter = omega arith;
  no_longer = omega arith;
}

pub cut_same : (count : ℕ) (x : List ℕ) → CutShort count x x
cut_same count x = record {
  no_shorter = omega arith;
  front = sym (take_all (length x) x (omega arith));
}

-- one change of a file
done_changes : (step : List ℕ → List ℕ → Type 0) (n : Note) (files : Files)
    → ((old : List ℕ) → step old (changed n.change old))
    → Changes step n.file files (after_note n files)
done_changes step n files has = record {
  this =
      subst (λ (b : Bool). step (files n.file)
      (if b then changed n.change (files n.file) else files n.file)) (sym (same n.file))
      (has (files n.file));
  others = λ g ne. other g ne (nat_eq g n.file) refl;
}
  where
    same : (k : ℕ) → nat_eq k k ≡ true
    same k = grind (arith, nat_tests)

    other : (g : ℕ) → (g ≡ n.file → ⊥) → (b : Bool) → nat_eq g n.file ≡ b
        → (if b then changed n.change (files g) else files g) ≡ files g
    other g ne true e = absurd (ne (grind (arith, nat_tests)))
    other g ne false e = refl

-- how the files read after a change is an outcome of it
done_left : (n : Note) (change : Change) → n.change ≡ change
    → (seen : Files) (images : Files → Type 0) → images seen
    → left_by change n.file seen images (after_note n seen)
done_left n (Wrote at bytes) is seen images now = (
  seen,
  now,
  done_changes (Torn at (length bytes)) n seen
      (λ old. subst (λ (ch : Change). Torn at (length bytes) old (changed ch old)) (sym is)
      (holds_torn at bytes old)),
)
done_left n (Cut to) is seen images now = (
  seen,
  now,
  done_changes (CutShort to) n seen
      (λ old. subst (λ (ch : Change). CutShort to old (changed ch old)) (sym is)
      (front_cut to old)),
)
done_left n (StoppedWrite at bytes) is seen images now = (
  seen,
  now,
  done_changes (Torn at (length bytes)) n seen
      (λ old. subst (λ (ch : Change). Torn at (length bytes) old (changed ch old)) (sym is)
      (torn_same at (length bytes) old)),
)
done_left n (StoppedCut to) is seen images now = (
  seen,
  now,
  done_changes (CutShort to) n seen
      (λ old. subst (λ (ch : Change). CutShort to old (changed ch old)) (sym is) (cut_same to old)),
)
done_left n Synced is seen images now =
    let same : (g : ℕ) → after_note n seen g ≡ seen g = λ g. by_case g (nat_eq g n.file) in
    (subst images (λ i g. sym (same g) i) now, same n.file)
  where
    by_case : (g : ℕ) (b : Bool) → (if b then changed n.change (seen g) else seen g) ≡ seen g
    by_case g true = ap (λ (ch : Change). changed ch (seen g)) is
    by_case g false = refl

pub reads_from : (seen : Files) (images : Files → Type 0) (notes : List Note) → images seen
    → images_from seen images notes (replay seen notes)
reads_from seen images [] now = now
reads_from seen images (n ∷ notes) now =
    reads_from (after_note n seen) (left_by n.change n.file seen images) notes
    (done_left n n.change refl seen images now)

-- a disk in memory is a view
pub sound_of : (disk : History) → IsView (view_of disk)
sound_of disk =
    record {
      reads = reads_from (file_of disk.first) (SameFiles (file_of disk.first)) disk.notes
          (λ g. refl);
      counts_now = λ t c le now. (
        length disk.notes,
        le,
        omega arith,
        subst (λ (l : List Note). images_at (file_of disk.first) l c)
            (sym (take_all (length disk.notes) disk.notes (omega arith))) now,
      );
      only_now = λ c left. subst (λ (l : List Note). images_at (file_of disk.first) l c)
          (take_all left.0 disk.notes left.1) left.3;
    }
