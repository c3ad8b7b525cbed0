-- What was done to folders in memory, as calls of folders.
use Rattle.std.specs.Prelude.{ℕ, ◌≡◌, ◌≢◌, ◌⊎◌, List, [], ◌∷◌, Bool, true, false, Result, Ok, Err, OnOk, OnErr, if◌then◌else◌}
use Rattle.std.proofs.Common.{refl, sym, ◌∙◌, ap, subst, arith, inl, inr}
use Rattle.std.specs.Str.{bytes_eq}
use Rattle.std.proofs.lemmas.Slice.Eq.{bytes_eq-Decides}
use Rattle.cx_folder.specs.Names.{Path}
use Rattle.cx_folder.specs.Tree.{Entry, Tree, TreeView, SameTree, Makes, ChangesBytes, Passes, ReadsOn, OthersTended, AllTended, IsOpened, IsChanged, IsSettled, IsEntered, OthersDoubted, bytes_in}
use Rattle.cx_folder.specs.Memory.{is_of, seen_in, Leaves, images_in, left_in, care_in, care_after, view_in, made, synced, synced_folder, IsNoted, IsMade}
use Rattle.cx_disk.specs.declared.disk.DiskFault.{DiskFault}
use Rattle.cx_folder.specs.MemoryLaws.{reads_in}
use Rattle.cx_folder.specs.declared.care.Care.{Care}
use Rattle.cx_folder.specs.declared.memory_folder.Event.{Event}

-- one event more
pub passes_in : (event : Event) (before : List Event) (step : Tree → Tree → Type 0)
    → ((old image : Tree) → Leaves event event.deed (seen_in before) old image → step old image)
    → step (seen_in before) (seen_in (event ∷ before))
    → Passes step (view_in before) (view_in (event ∷ before))
passes_in event before step has whole = record {
  crash = λ image now. elim now as (λ _. (old : Tree) × images_in before old × step old image) [
    | inl is ↦ (seen_in before, reads_in before, subst (step (seen_in before)) is whole)
    | inr left ↦ (left.0, left.1, has left.0 image left.2)
  ];
  later = omega arith;
  nothing_else = λ since image le left.
      elim left as (λ _. left_in before since image ⊎ images_in (event ∷ before) image)
      [ inl now ↦ inr now | inr past ↦ inl past.1 ];
  keeps = λ since image le left. inr (le, left);
}

-- no event
pub passes_still : (step : Tree → Tree → Type 0) (v : TreeView) → ((t : Tree) → step t t)
    → Passes step v v
passes_still step v still = record {
  crash = λ image now. (image, now, still image);
  later = omega arith;
  nothing_else = λ since image le left. inl left;
  keeps = λ since image le left. left;
}

-- ---- one file among the others

pub same_path : (path : Path) → bytes_eq path path ≡ true
same_path path = (bytes_eq-Decides path path).1 refl

pub other_path : (path other : Path) → other ≢ path → bytes_eq path other ≡ false
other_path path other ne = by (bytes_eq path other) refl
  where
    by : (b : Bool) → bytes_eq path other ≡ b → bytes_eq path other ≡ false
    by true is = absurd (ne (sym ((bytes_eq-Decides path other).0 is)))
    by false is = is

-- an event of a file
abbrev IsFile : Event → Type 0
IsFile event = (path : Path) → is_of event path ≡ bytes_eq event.path path

this_seen : (event : Event) (before : List Event) → IsFile event
    → seen_in (event ∷ before) event.path
    ≡ record { is_there = event.is_there; bytes = event.bytes }
this_seen event before is = by (is_of event event.path) (is event.path ∙ same_path event.path)
  where
    by : (b : Bool) → b ≡ true
        → (if b then record { is_there = event.is_there; bytes = event.bytes }
        else seen_in before event.path) ≡ record { is_there = event.is_there; bytes = event.bytes }
    by true shown = refl
    by false shown = absurd (cc)

other_seen : (event : Event) (before : List Event) (other : Path) → is_of event other ≡ false
    → seen_in (event ∷ before) other ≡ seen_in before other
other_seen event before other fails = by (is_of event other) fails
  where
    by : (b : Bool) → b ≡ false
        → (if b then record { is_there = event.is_there; bytes = event.bytes }
        else seen_in before other) ≡ seen_in before other
    by true is = absurd (cc)
    by false is = refl

other_care : (event : Event) (before : List Event) (other : Path) → is_of event other ≡ false
    → care_in (event ∷ before) other ≡ care_in before other
other_care event before other fails = by (is_of event other) fails
  where
    by : (b : Bool) → b ≡ false
        → (if b then care_after event.deed (care_in before other)
        else care_in before other) ≡ care_in before other
    by true is = absurd (cc)
    by false is = refl

this_care : (event : Event) (before : List Event) → IsFile event
    → care_in (event ∷ before) event.path ≡ care_after event.deed (care_in before event.path)
this_care event before is = by (is_of event event.path) (is event.path ∙ same_path event.path)
  where
    by : (b : Bool) → b ≡ true
        → (if b then care_after event.deed (care_in before event.path)
        else care_in before event.path) ≡ care_after event.deed (care_in before event.path)
    by true shown = refl
    by false shown = absurd (cc)

not_of : (event : Event) (other : Path) → IsFile event → other ≢ event.path
    → is_of event other ≡ false
not_of event other is ne = is other ∙ other_path event.path other ne

-- whether a property holds at each path: at the event's own, and at the others
at_each : (P : Path → Type 0) (path each : Path) → P path
    → ((other : Path) → other ≢ path → P other) → P each
at_each P path each this others = by (bytes_eq path each) refl
  where
    differ : bytes_eq path each ≡ false → each ≡ path → ⊥
    differ fails same = let shown : bytes_eq path each ≡ true =
        (bytes_eq-Decides path each).1 (sym same) in cc

    by : (b : Bool) → bytes_eq path each ≡ b → P each
    by true is = subst P ((bytes_eq-Decides path each).0 is) this
    by false is = others each (λ same. differ is same)

others_tended : (event : Event) (before : List Event) → IsFile event
    → OthersTended event.path (view_in before) (view_in (event ∷ before))
others_tended event before is = record {
  files = λ other ne. other_care event before other (not_of event other is ne);
  folders = λ folder. refl;
}

-- ---- events

-- a change of a file's bytes
pub changes_in : (event : Event) (before : List Event) (step : List ℕ → List ℕ → Type 0)
    → IsFile event → event.is_there ≡ (seen_in before event.path).is_there
    → step (seen_in before event.path).bytes event.bytes
    → ChangesBytes step event.path (seen_in before) (seen_in (event ∷ before))
changes_in event before step is there does = record {
  this = subst (λ (e : Entry). step (seen_in before event.path).bytes e.bytes)
      (sym (this_seen event before is)) does;
  there = λ each. at_each
      (λ p. (seen_in (event ∷ before) p).is_there ≡ (seen_in before p).is_there) event.path each
      (ap (λ (e : Entry). e.is_there) (this_seen event before is) ∙ there)
      (λ other ne. ap (λ (e : Entry). e.is_there)
      (other_seen event before other (not_of event other is ne)));
  others = λ other ne. other_seen event before other (not_of event other is ne);
}

pending : (c : Care) → c ≡ Care.Pending → c ≢ Care.Doubtful
pending c is doubtful = cc

pub changed_in : (event : Event) (before : List Event) → IsFile event
    → care_after event.deed (care_in before event.path) ≡ Care.Pending
    → IsChanged event.path (view_in before) (view_in (event ∷ before))
changed_in event before is after = record {
  trusted = λ old. pending (care_in (event ∷ before) event.path)
      (this_care event before is ∙ after);
  others = others_tended event before is;
}

-- no change of them
pub changes_still : (step : List ℕ → List ℕ → Type 0) (path : Path) (t : Tree)
    → ((xs : List ℕ) → step xs xs) → ChangesBytes step path t t
changes_still step path t still = record {
  this = still (t path).bytes;
  there = λ each. refl;
  others = λ other ne. refl;
}

pub changed_still : (path : Path) (v : TreeView) → IsChanged path v v
changed_still path v = record {
  trusted = λ old. old;
  others = record { files = λ other ne. refl; folders = λ folder. refl };
}

-- a file is made, empty
absent_empty : (e : Entry) → e.is_there ≡ false → [] ≡ (if e.is_there then e.bytes else [])
absent_empty e gone = by e.is_there gone
  where
    by : (b : Bool) → b ≡ false → [] ≡ (if b then e.bytes else [])
    by true is = absurd (cc)
    by false is = refl

abbrev bytes_of : Entry → List ℕ
bytes_of e = if e.is_there then e.bytes else []

pub makes_in : (event : Event) (before : List Event) → IsFile event → event.bytes ≡ []
    → event.is_there ≡ true → (seen_in before event.path).is_there ≡ false
    → Makes event.path (seen_in before) (seen_in (event ∷ before))
makes_in event before is empty there gone = record {
  reads = λ each. at_each (λ p. bytes_in (seen_in (event ∷ before)) p ≡ bytes_in (seen_in before) p)
      event.path each
      (ap bytes_of (this_seen event before is) ∙ empties event.is_there there
      ∙ absent_empty (seen_in before event.path) gone)
      (λ other ne. ap bytes_of (other_seen event before other (not_of event other is ne)));
  others = λ other ne. other_seen event before other (not_of event other is ne);
}
  where
    empties : (b : Bool) → b ≡ true → (if b then event.bytes else []) ≡ []
    empties true shown = empty
    empties false shown = absurd (cc)

pub there_in : (event : Event) (before : List Event) → IsFile event → event.is_there ≡ true
    → (seen_in (event ∷ before) event.path).is_there ≡ true
there_in event before is there =
    ap (λ (e : Entry). e.is_there) (this_seen event before is) ∙ there

pub makes_still : (path : Path) (t : Tree) → Makes path t t
makes_still path t = record { reads = λ each. refl; others = λ other ne. refl }

pub opened_in : (event : Event) (before : List Event) → IsFile event
    → care_after event.deed (care_in before event.path) ≡ care_in before event.path
    → IsOpened event.path (view_in before) (view_in (event ∷ before))
opened_in event before is same = record {
  whole = λ old. this_care event before is ∙ same ∙ old;
  others = others_tended event before is;
}

pub tended_still : (v : TreeView) → AllTended v v
tended_still v = record { files = λ path. refl; folders = λ folder. refl }

pub opened_still : (path : Path) (v : TreeView) → IsOpened path v v
opened_still path v = record {
  whole = λ old. old;
  others = record { files = λ other ne. refl; folders = λ folder. refl };
}

-- a file is synced
pub same_in : (event : Event) (before : List Event) → IsFile event
    → record { is_there = event.is_there; bytes = event.bytes } ≡ seen_in before event.path
    → SameTree (seen_in before) (seen_in (event ∷ before))
same_in event before is same path = at_each
    (λ p. seen_in (event ∷ before) p ≡ seen_in before p) event.path path
    (this_seen event before is ∙ same)
    (λ other ne. other_seen event before other (not_of event other is ne))

pub settled_in : (path : Path) (before : List Event)
    → IsSettled path (view_in (synced path before ∷ before))
settled_in path before =
    let event = synced path before in
    let this : seen_in (event ∷ before) path ≡ seen_in before path =
    this_seen event before (λ p. refl) in
    record {
      bytes = λ image now. elim now as
          (λ _. (image path).bytes ≡ (seen_in (event ∷ before) path).bytes) [
            | inl is ↦ ap (λ (t : Tree). (t path).bytes) (sym is)
            | inr left ↦ left.2.1 ∙ sym (ap (λ (e : Entry). e.bytes) this)
          ];
      whole = this_care event before (λ p. refl);
    }

pub reads_synced : (path : Path) (before : List Event)
    → ReadsOn (view_in before) (view_in (synced path before ∷ before))
reads_synced path before = record {
  same = same_in (synced path before) before (λ p. refl) refl;
  after = passes_in (synced path before) before SameTree (λ old image left. left.0)
      (same_in (synced path before) before (λ p. refl) refl);
}

pub others_in : (event : Event) (before : List Event) → IsFile event
    → OthersTended event.path (view_in before) (view_in (event ∷ before))
others_in event before is = others_tended event before is

pub others_still : (path : Path) (v : TreeView) → OthersTended path v v
others_still path v = record { files = λ other ne. refl; folders = λ folder. refl }

-- a folder is synced
pub entered_in : (folder : Path) (before : List Event)
    → IsEntered folder (view_in (synced_folder folder ∷ before))
entered_in folder before image now path within = elim now as
    (λ _. (image path).is_there ≡ (seen_in before path).is_there) [
      | inl is ↦ ap (λ (t : Tree). (t path).is_there) (sym is)
      | inr left ↦ left.2.1 path within
    ]

pub reads_in_folder : (folder : Path) (before : List Event)
    → ReadsOn (view_in before) (view_in (synced_folder folder ∷ before))
reads_in_folder folder before = record {
  same = λ path. refl;
  after = passes_in (synced_folder folder) before SameTree (λ old image left. left.0)
      (λ path. refl);
}

pub doubted_in : (folder : Path) (before : List Event)
    → OthersDoubted folder (view_in before) (view_in (synced_folder folder ∷ before))
doubted_in folder before = record { files = λ path. refl; folders = λ other ne. refl }

pub doubted_still : (folder : Path) (v : TreeView) → OthersDoubted folder v v
doubted_still folder v = record { files = λ path. refl; folders = λ other ne. refl }

-- ---- calls that were noted, or found no memory

pub on_noted : {A : Type 0} (P : List Event → Type 0) (event : Event) (old new : List Event)
    (result : Result A DiskFault) → IsNoted event old new result → P (event ∷ old)
    → OnOk result (P new)
on_noted P event old new (Ok value) noted p = subst P (sym noted.done) p
on_noted P event old new (Err fault) noted p = tt

pub on_wanting : {A : Type 0} (P : List Event → Type 0) (event : Event) (old new : List Event)
    (result : Result A DiskFault) → IsNoted event old new result → P old → OnErr result (P new)
on_wanting P event old new (Ok value) noted p = tt
on_wanting P event old new (Err fault) noted p = subst P (sym noted.wanting) p

pub on_either : {A : Type 0} (P : List Event → Type 0) (event : Event) (old new : List Event)
    (result : Result A DiskFault) → IsNoted event old new result → P (event ∷ old) → P old → P new
on_either P event old new (Ok value) noted p q = subst P (sym noted.done) p
on_either P event old new (Err fault) noted p q = subst P (sym noted.wanting) q

-- ---- a file that is made if it wasn't there

-- what holds of both ways
pub on_made : {A : Type 0} (P : List Event → Type 0) (path : Path) (old new : List Event)
    (result : Result A DiskFault) → IsMade path old new result → P old
    → ((seen_in old path).is_there ≡ false → P (made path ∷ old)) → P new
on_made {A} P path old new result is still whole =
    by (seen_in old path).is_there refl result is.done is.wanting
  where
    by : (b : Bool) → (seen_in old path).is_there ≡ b → (r : Result A DiskFault)
        → ((seen_in old path).is_there ≡ false → OnOk r (new ≡ made path ∷ old))
        → OnErr r (new ≡ old) → P new
    by true there r done wanting = subst P (sym (is.once there)) still
    by false gone (Ok value) done wanting = subst P (sym (done gone)) (whole gone)
    by false gone (Err fault) done wanting = subst P (sym wanting) still

pub made_there : {A : Type 0} (path : Path) (old new : List Event) (result : Result A DiskFault)
    → IsMade path old new result → OnOk result ((seen_in new path).is_there ≡ true)
made_there {A} path old new result is = by (seen_in old path).is_there refl result is.done
  where
    by : (b : Bool) → (seen_in old path).is_there ≡ b → (r : Result A DiskFault)
        → ((seen_in old path).is_there ≡ false → OnOk r (new ≡ made path ∷ old))
        → OnOk r ((seen_in new path).is_there ≡ true)
    by true there (Ok value) done =
        subst (λ (es : List Event). (seen_in es path).is_there ≡ true) (sym (is.once there)) there
    by false gone (Ok value) done =
        subst (λ (es : List Event). (seen_in es path).is_there ≡ true) (sym (done gone))
        (there_in (made path) old (λ p. refl) refl)
    by b same (Err fault) done = tt

pub made_reads : {A : Type 0} (path : Path) (old new : List Event) (result : Result A DiskFault)
    → IsMade path old new result → Makes path (seen_in old) (seen_in new)
made_reads path old new result is = on_made (λ es. Makes path (seen_in old) (seen_in es)) path old
    new result is (makes_still path (seen_in old))
    (λ gone. makes_in (made path) old (λ p. refl) refl refl gone)

pub made_passes : {A : Type 0} (path : Path) (old new : List Event) (result : Result A DiskFault)
    → IsMade path old new result → Passes (Makes path) (view_in old) (view_in new)
made_passes path old new result is = on_made (λ es. Passes (Makes path) (view_in old) (view_in es))
    path old new result is
    (passes_still (Makes path) (view_in old) (λ t. makes_still path t))
    (λ gone. passes_in (made path) old (Makes path) (λ b t left. left)
    (makes_in (made path) old (λ p. refl) refl refl gone))

pub made_opened : {A : Type 0} (path : Path) (old new : List Event) (result : Result A DiskFault)
    → IsMade path old new result → IsOpened path (view_in old) (view_in new)
made_opened path old new result is = on_made (λ es. IsOpened path (view_in old) (view_in es)) path
    old new result is (opened_still path (view_in old))
    (λ gone. opened_in (made path) old (λ p. refl) refl)
