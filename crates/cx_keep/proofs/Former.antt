-- What the newest slot of a trail is, in each version; and that a checkpoint of version 1, made
-- anew, is the run's.
use Rattle.std.proofs.Common.{◌≡◌, ℕ, zero, suc, ◌≤◌, ◌<◌, Bool, true, false, List, [], ◌∷◌, length, map, take, refl, sym, ◌∙◌, ap, subst, arith}
use Rattle.std.specs.Prelude.{Option, Some, slice_index, slice_index_or, ◌==◌}
use Rattle.std.proofs.lemmas.List.{length-take}
use Rattle.cx_disk.specs.Disk.{Files, View, IsView}
use Rattle.cx_disk.specs.Files.{old_output_file}
use Rattle.cx_chk.specs.declared.checkpoint.Checkpoint.{Checkpoint}
use Rattle.cx_chk.specs.Encoding.{SpellsSlot}
use Rattle.cx_chk.specs.Reading.{decoded}
use Rattle.cx_chk.specs.Slots.{is_second, newest_below, IsNewest, NewestBelow}
use Rattle.cx_chk.proofs.Choosing.{newest_law}
use Rattle.cx_chk.proofs.Decoding.{decoded_again}
use Rattle.cx_keep.specs.Trails.{Course, Has, IsOfRun, Reaches, GoesAsFar, OutputsReach, with_key, in_version, former_of, former_length}
use Rattle.cx_keep.specs.Resuming.{AreTrails, RecordsFronts, IsResumed}
use Rattle.cx_keep.specs.Renewing.{CanRenew, fronts_in, fronts_at, renewed_by, Splits}
use Rattle.cx_keep.proofs.Saves.{header_of_run}

some_is : {A : Type 0} (x y : A) → Some x ≡ Some y → x ≡ y
some_is x y e = cc

-- ---- fronts

fronts_long : (ns : List ℕ) (ts : List (List ℕ)) → length ns ≡ length ts
    → length (fronts_in ns ts) ≡ length ts
fronts_long [] [] e = refl
fronts_long [] (t ∷ ts) e = absurd (omega arith)
fronts_long (n ∷ ns) [] e = absurd (omega arith)
fronts_long (n ∷ ns) (t ∷ ts) e = ap suc (fronts_long ns ts (omega arith))

front_in : (ns : List ℕ) (ts : List (List ℕ)) (j : ℕ) → j < length ns → j < length ts
    → slice_index_or (fronts_in ns ts) j [] ≡ take (slice_index ns j) (slice_index_or ts j [])
front_in [] ts j lt many = absurd (omega arith)
front_in (n ∷ ns) [] j lt many = absurd (omega arith)
front_in (n ∷ ns) (t ∷ ts) zero lt many = refl
front_in (n ∷ ns) (t ∷ ts) (suc j) lt many = front_in ns ts j (omega arith) (omega arith)

size_of : List ℕ → ℕ
size_of t = length t

fronts_sizes : (ns : List ℕ) (ts : List (List ℕ)) → length ns ≡ length ts
    → ((j : ℕ) → j < length ts → slice_index ns j ≤ length (slice_index_or ts j []))
    → map (λ (t : List ℕ). length t) (fronts_in ns ts) ≡ ns
fronts_sizes [] [] e within = refl
fronts_sizes [] (t ∷ ts) e within = absurd (omega arith)
fronts_sizes (n ∷ ns) [] e within = absurd (omega arith)
fronts_sizes (n ∷ ns) (t ∷ ts) e within =
    let first : length (take n t) ≡ n =
    (let le = within 0 (omega arith) in let s = length-take n t in omega arith) in
    let rest : map (λ (u : List ℕ). length u) (fronts_in ns ts) ≡ ns =
    fronts_sizes ns ts (omega arith) (λ j lt. within (suc j) (omega arith)) in
    (λ i. first i ∷ rest i)

-- ---- versions

-- the version byte is the version
pub second_is : (bytes : List ℕ) (c : Checkpoint) → SpellsSlot bytes c
    → is_second bytes ≡ (c.version == 2)
second_is bytes c spells = ap is_second spells.spelled

-- the newest, as the look finds it
newest_at : (files : Files) (slot n : ℕ) → newest_below 8 files ≡ Some (slot, n)
    → IsNewest 8 files slot n
newest_at files slot n is =
    subst (λ (o : Option (ℕ × ℕ)). NewestBelow 8 files o) is (newest_law 8 files)

module _ (course : Course) (v : View) (sound : IsView v) (trails : AreTrails course v) (slot n : ℕ)
    (newest : newest_below 8 v.seen ≡ Some (slot, n)) (d : Checkpoint) (kept : List ℕ)
    (spelled : decoded (v.seen slot) ≡ Some (with_key kept d)) where
  top : IsNewest 8 v.seen slot n
  top = newest_at v.seen slot n newest

  at : (s : IsOfRun course (v.seen slot))
      × Reaches course (is_second (v.seen slot)) s.checkpoint v.seen
  at = trails v.seen sound.reads slot n top.known top.header

  -- the run's checkpoint that it is
  pub place : Checkpoint
  place = at.0.checkpoint

  pub place_of_run : Has course.checkpoints place
  unfolding place
  place_of_run = at.0.of_run

  place_is : with_key at.0.key (in_version (is_second (v.seen slot)) at.0.checkpoint)
      ≡ with_key kept d
  place_is = some_is (with_key at.0.key (in_version (is_second (v.seen slot)) at.0.checkpoint))
      (with_key kept d)
      (sym (decoded_again (v.seen slot)
      (with_key at.0.key (in_version (is_second (v.seen slot)) at.0.checkpoint)) at.0.spelled)
      ∙ spelled)

  place_newest : n ≡ at.0.checkpoint.iteration
  place_newest = some_is n at.0.checkpoint.iteration
      (sym top.header ∙ header_of_run course (v.seen slot) at.0)

  -- version 2: under the run's key it is that checkpoint, and the outputs reach it
  pub resumed : is_second (v.seen slot) ≡ true → IsResumed course d v
  resumed second =
      let one : with_key at.0.key at.0.checkpoint ≡ with_key kept d =
      ap (λ (b : Bool). with_key at.0.key (in_version b at.0.checkpoint)) (sym second)
      ∙ place_is in
      let same : at.0.checkpoint ≡ with_key at.0.checkpoint.key d =
      ap (with_key at.0.checkpoint.key) one in
      let reach : OutputsReach course at.0.checkpoint v.seen =
      subst (λ (b : Bool). Reaches course b at.0.checkpoint v.seen) second at.1 in
      let is : n ≡ d.iteration =
      place_newest ∙ ap (λ (x : Checkpoint). x.iteration) same in
      record {
        key = at.0.checkpoint.key;
        of_run = subst (Has course.checkpoints) same at.0.of_run;
        newest = record {
          slot = slot;
          known = top.known;
          header = top.header ∙ ap (λ (k : ℕ). Some k) is;
          greatest = λ o m lt head. let le = top.greatest o m lt head in omega arith;
        };
        reach = subst (λ (x : Checkpoint). OutputsReach course x v.seen) same reach;
      }

  -- version 1
  module _ (split : List ℕ → Option (List (List ℕ))) (names : List (List ℕ))
      (splits : Splits split names course) (fronts : RecordsFronts course)
      (first : is_second (v.seen slot) ≡ false) where
    former_is : with_key at.0.key (former_of at.0.checkpoint) ≡ with_key kept d
    former_is = ap (λ (b : Bool). with_key at.0.key (in_version b at.0.checkpoint)) (sym first)
        ∙ place_is

    count_is : former_length at.0.checkpoint ≡ slice_index d.lengths 0
    count_is = ap (λ (c : Checkpoint). slice_index c.lengths 0) former_is

    reach : GoesAsFar (former_length at.0.checkpoint) course.former (v.seen old_output_file)
    reach = subst (λ (b : Bool). Reaches course b at.0.checkpoint v.seen) first at.1

    -- the former output is long enough
    pub former_long : slice_index d.lengths 0 ≤ length (v.seen old_output_file)
    former_long = let e = count_is in let l = reach.long_enough in omega arith

    -- so much of it splits into the fronts of the outputs
    pub former_splits : split (take (slice_index d.lengths 0) (v.seen old_output_file))
        ≡ Some (fronts_at course place)
    unfolding place
    former_splits =
        ap split (ap (λ (k : ℕ). take k (v.seen old_output_file)) (sym count_is) ∙ reach.front)
        ∙ splits.split_is at.0.checkpoint at.0.of_run

    -- and it can be gone on from
    pub can_renew : CanRenew course place (fronts_at course place) v
    unfolding place
    can_renew =
        let chk = at.0.checkpoint in
        let has = at.0.of_run in
        let many = fronts.counts chk has in
        let is = place_newest in
        record {
          of_run = has;
          slot = slot;
          known = top.known;
          header = top.header ∙ ap (λ (k : ℕ). Some k) is;
          first = first;
          greatest = λ o m lt head. let le = top.greatest o m lt head in omega arith;
          counts = fronts_long chk.lengths course.outputs many;
          texts_are = λ j lt. front_in chk.lengths course.outputs j (let e = many in omega arith)
              lt;
          long = λ j lt. fronts.within chk j has lt;
        }

    -- what is answered is, under the run's key, the run's own checkpoint
    pub renewed_is : with_key place.key (renewed_by names d (fronts_at course place)) ≡ place
    unfolding place
    renewed_is =
        let chk = at.0.checkpoint in
        let sizes : map (λ (t : List ℕ). length t) (fronts_at course chk) ≡ chk.lengths =
        fronts_sizes chk.lengths course.outputs (fronts.counts chk at.0.of_run)
        (λ j lt. fronts.within chk j at.0.of_run lt) in
        ap (λ (c : Checkpoint). with_key chk.key (renewed_by names c (fronts_at course chk)))
        (sym former_is)
        ∙ ap (λ (l : List ℕ). record chk { version = 2; names = names; lengths = l }) sizes
        ∙ ap (λ (ns : List (List ℕ)). record chk { version = 2; names = ns })
        (sym (splits.named chk at.0.of_run))
        ∙ ap (λ (m : ℕ). record chk { version = m }) (sym (fronts.version chk at.0.of_run))
