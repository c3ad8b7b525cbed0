-- Calls one after another over folders, and what they are over the disk that the folders keep.
use Rattle.std.specs.Prelude.{ℕ, ◌≡◌, ◌≢◌, ◌≤◌, ◌⊎◌, List, [], Bool, true, false, if◌then◌else◌}
use Rattle.std.proofs.Common.{refl, sym, ◌∙◌, ap, subst, arith, inl, inr}
use Rattle.cx_disk.specs.Disk.{Folders, Files, SameFiles, Changes, View, IsView, Passes as DiskPasses}
use Rattle.cx_folder.specs.Tree.{Entry, Tree, TreeView, IsTreeView, SameTree, Makes, ChangesBytes, Passes, ReadsOn}
use Rattle.cx_folder.specs.Names.{Path, path_at}
use Rattle.cx_folder.specs.Pulled.{files_of, pulled, Stays}

-- two calls that change nothing
pub reads_more : {u v w : TreeView} → IsTreeView u → ReadsOn u v → ReadsOn v w → ReadsOn u w
reads_more {u} {v} {w} sound first second =
    let one : u.moment ≤ v.moment = first.after.later in
    let two : v.moment ≤ w.moment = second.after.later in
    let back : (t : Tree) → v.images t → u.images t = λ t now.
    let b = first.after.crash t now in subst u.images (λ i path. sym (b.2 path) i) b.1 in
    record {
      same = λ path. second.same path ∙ first.same path;
      after = record {
        crash = λ t now. let m = second.after.crash t now in (m.0, back m.0 m.1, m.2);
        later = omega arith;
        nothing_else = λ since t le left.
            let le_mid : since ≤ v.moment = omega arith in
            elim (second.after.nothing_else since t le_mid left) as
            (λ _. u.left_since since t ⊎ w.images t) [
              | inl past ↦ elim (first.after.nothing_else since t le past) as
                  (λ _. u.left_since since t ⊎ w.images t)
                  [ inl old ↦ inl old | inr mid ↦ inl (sound.counts_now since t le (back t mid)) ]
              | inr now ↦ inr now
            ];
        keeps = λ since t le left.
            let le_mid : since ≤ v.moment = omega arith in
            second.after.keeps since t le_mid (first.after.keeps since t le left);
      };
    }

-- a call over folders, as one over the disk
pub pulled_passes : (folders : Folders) (step : Tree → Tree → Type 0)
    (does : Files → Files → Type 0) {u v : TreeView}
    → ((t s : Tree) → step t s → does (files_of folders t) (files_of folders s))
    → Passes step u v → DiskPasses does (pulled folders u) (pulled folders v)
pulled_passes folders step does {u} {v} has passes = record {
  crash = λ image now. let b = passes.crash now.0 now.1 in (
    files_of folders b.0,
    (b.0, b.1, refl),
    subst (does (files_of folders b.0)) now.2 (has b.0 now.0 b.2),
  );
  later = passes.later;
  nothing_else = λ since image le left.
      elim (passes.nothing_else since left.0 le left.1) as
      (λ _. (pulled folders u).left_since since image ⊎ (pulled folders v).images image)
      [ inl past ↦ inl (left.0, past, left.2) | inr now ↦ inr (left.0, now, left.2) ];
  keeps = λ since image le left. (left.0, passes.keeps since left.0 le left.1, left.2);
}

abbrev pub bytes_of : Entry → List ℕ
bytes_of e = if e.is_there then e.bytes else []

-- a call that changes nothing
pub stays_reads : (folders : Folders) {u v : TreeView} → ReadsOn u v → Stays folders u v
stays_reads folders {u} {v} reads = record {
  same = λ file. ap bytes_of (reads.same (path_at folders file));
  after = pulled_passes folders SameTree SameFiles
      (λ t s same file. ap bytes_of (same (path_at folders file))) reads.after;
}

-- a call that makes a file
pub stays_makes : (folders : Folders) (path : Path) {u v : TreeView} → Makes path u.seen v.seen
    → Passes (Makes path) u v → Stays folders u v
stays_makes folders path {u} {v} makes passes = record {
  same = λ file. makes.reads (path_at folders file);
  after = pulled_passes folders (Makes path) SameFiles
      (λ t s made file. made.reads (path_at folders file)) passes;
}

-- a call that changes nothing of a disk, and another call
pub stays_then : (does : Files → Files → Type 0) {u v w : View} → IsView u
    → DiskPasses SameFiles u v → DiskPasses does v w → DiskPasses does u w
stays_then does {u} {v} {w} sound first second =
    let one : u.moment ≤ v.moment = first.later in
    let two : v.moment ≤ w.moment = second.later in
    let back : (c : Files) → v.images c → u.images c = λ c now.
    let b = first.crash c now in subst u.images (λ i file. sym (b.2 file) i) b.1 in
    record {
      crash = λ c now. let m = second.crash c now in (m.0, back m.0 m.1, m.2);
      later = omega arith;
      nothing_else = λ since c le left.
          let le_mid : since ≤ v.moment = omega arith in
          elim (second.nothing_else since c le_mid left) as
          (λ _. u.left_since since c ⊎ w.images c) [
            | inl past ↦ elim (first.nothing_else since c le past) as
                (λ _. u.left_since since c ⊎ w.images c)
                [ inl old ↦ inl old | inr mid ↦ inl (sound.counts_now since c le (back c mid)) ]
            | inr now ↦ inr now
          ];
      keeps = λ since c le left.
          let le_mid : since ≤ v.moment = omega arith in
          second.keeps since c le_mid (first.keeps since c le left);
    }

-- two calls that change nothing of a disk
pub stays_more : (folders : Folders) {u v w : TreeView} → IsView (pulled folders u)
    → Stays folders u v → Stays folders v w → Stays folders u w
stays_more folders {u} {v} {w} sound first second = record {
  same = λ file. second.same file ∙ first.same file;
  after = stays_then SameFiles {u = pulled folders u} {v = pulled folders v}
      {w = pulled folders w} sound first.after second.after;
}

-- no call
pub stays_still : (folders : Folders) (u : TreeView) → Stays folders u u
stays_still folders u = record {
  same = λ file. refl;
  after = record {
    crash = λ c now. (c, now, λ file. refl);
    later = omega arith;
    nothing_else = λ since c le left. inl left;
    keeps = λ since c le left. left;
  };
}

pub reads_still : (u : TreeView) → ReadsOn u u
reads_still u = record {
  same = λ path. refl;
  after = record {
    crash = λ t now. (t, now, λ path. refl);
    later = omega arith;
    nothing_else = λ since t le left. inl left;
    keeps = λ since t le left. left;
  };
}

-- a step of a file's bytes, as one of how it reads
step_reads : (step : List ℕ → List ℕ → Type 0) → step [] [] → (a b : Bool) (x y : List ℕ) → b ≡ a
    → step x y → step (if a then x else []) (if b then y else [])
step_reads step none true true x y same does = does
step_reads step none true false x y same does = absurd (cc)
step_reads step none false true x y same does = absurd (cc)
step_reads step none false false x y same does = none

-- one file's change, as one of the disk's
pub changes_pulled : (folders : Folders) (file : ℕ) (step : List ℕ → List ℕ → Type 0) → step [] []
    → ((other : ℕ) → other ≢ file → path_at folders other ≢ path_at folders file)
    → (t s : Tree) → ChangesBytes step (path_at folders file) t s
    → Changes step file (files_of folders t) (files_of folders s)
changes_pulled folders file step none apart t s changes =
    let path = path_at folders file in
    record {
      this = step_reads step none (t path).is_there (s path).is_there (t path).bytes (s path).bytes
          (changes.there path) changes.this;
      others = λ other ne. ap bytes_of (changes.others (path_at folders other) (apart other ne));
    }
