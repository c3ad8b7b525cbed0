-- The outputs cut to what the newest checkpoint records.
use Rattle.std.proofs.Common.{◌≡◌, ◌⊎◌, inl, inr, ℕ, zero, suc, ◌+◌, ◌≤◌, ◌<◌, List, length, take, refl, sym, ◌∙◌, ap, subst, arith}
use Rattle.std.specs.Prelude.{Bool, true, false, Option, Some, IfSome, slice_index, replicate}
use Rattle.std.proofs.lemmas.Bool.{cases_eq}
use Rattle.std.proofs.lemmas.List.{take-take, length-take}
use Rattle.cx_plan.specs.declared.job.Job.{Job}
use Rattle.cx_plan.specs.Setups.{setup_of}
use Rattle.cx_outputs.specs.Names.{full_names}
use Rattle.cx_ascii_read.specs.Splitting.{split_of}
use Rattle.cx_disk.specs.Disk.{Files, View, IsView, CutShort, Front, SameFiles, LeavesOnly}
use Rattle.cx_disk.specs.Files.{slot_count, old_output_file}
use Rattle.cx_disk.specs.Moments.{After, IsDone, IsQuiet, Stepped}
use Rattle.cx_disk.proofs.Moments.{joins, weaker}
use Rattle.cx_chk.specs.declared.checkpoint.Checkpoint.{Checkpoint}
use Rattle.cx_chk.proofs.Decoding.{spells_one}
use Rattle.cx_chk.specs.Slots.{header_of, is_second, SlotsSettled}
use Rattle.cx_keep.specs.Trails.{Course, Has, IsOfRun, OutputsReach, Reaches, GoesAsFar, with_key, in_version, former_length, total, IsTrail, NewestIs, Stands, IsFrontOf, text_of, length_in, file_of_output}
use Rattle.cx_keep.specs.Resuming.{IsCutTo, IsTrimmed, AreLong, CutsOutputs, LeavesCut, EarlierSame, AreCut, SlotsSame, AreTrails, IsMonotone, IsTrailFrom, IsResumed}
use Rattle.cx_keep.specs.Beginning.{AreFronts, AreSplit, IsLeft}
use Rattle.cx_keep.proofs.Stays.{of_run_at, reach_at, newest_same, within_more, reach_same}
use Rattle.cx_keep.proofs.Saves.{header_of_run}

some_is : {a b : ℕ} → Some a ≡ Some b → a ≡ b
some_is e = cc

cut_far : (n count : ℕ) (text d c : List ℕ) → CutShort count d c → n ≤ count → GoesAsFar n text d
    → GoesAsFar n text c
cut_far n count text d c cut le far =
    let long = far.long_enough in
    let more = cut.no_shorter in
    let m : n ≤ length c = omega arith in
    record {
      long_enough = m;
      front = ap (λ (l : List ℕ). take n l) cut.front ∙ take-take n (length c) d m ∙ far.front;
    }

whole_cut : (count : ℕ) (d : List ℕ) → count ≤ length d → CutShort count d (take count d)
whole_cut count d le =
    let size : length (take count d) ≡ count = (let s = length-take count d in omega arith) in
    record { no_shorter = omega arith; front = ap (λ (k : ℕ). take k d) (sym size) }

pub cut_shorter : (count : ℕ) (old new : List ℕ) → CutShort count old new → length new ≤ length old
cut_shorter count old new cut = let e = ap length cut.front in
    let s = length-take (length new) old in omega arith

-- the same bytes reach the same files, whichever way they are of the run
pub one_reach : (course : Course) (bytes : List ℕ) (s t : IsOfRun course bytes) (f : Files)
    → Reaches course (is_second bytes) s.checkpoint f
    → Reaches course (is_second bytes) t.checkpoint f
one_reach course bytes s t f r =
    by (is_second bytes) (spells_one bytes
    (with_key s.key (in_version (is_second bytes) s.checkpoint))
    (with_key t.key (in_version (is_second bytes) t.checkpoint)) s.spelled t.spelled) r
  where
    by : (b : Bool) → with_key s.key (in_version b s.checkpoint)
        ≡ with_key t.key (in_version b t.checkpoint) → Reaches course b s.checkpoint f
        → Reaches course b t.checkpoint f
    by true same r = subst (λ (ls : List ℕ). (j : ℕ) → j < length course.outputs
        → GoesAsFar (slice_index ls j) (text_of course j) (f (file_of_output j)))
        (ap (λ (k : Checkpoint). k.lengths) same) r
    by false same r =
        let one : former_length s.checkpoint ≡ former_length t.checkpoint =
        ap (λ (k : Checkpoint). slice_index k.lengths 0) same in
        subst (λ (n : ℕ). GoesAsFar n course.former (f old_output_file)) one r

module _ (course : Course) (monotone : IsMonotone course) (chk : Checkpoint)
    (has : Has course.checkpoints chk) (lengths : List ℕ) (count : ℕ)
    (all : count ≡ length course.outputs)
    (records : (j : ℕ) → j < length course.outputs → slice_index lengths j ≡ length_in chk j)
    (old : View) (sound : IsView old) (trails : AreTrails course old)
    (settled : SlotsSettled old) (newest : NewestIs old.seen (Some chk.iteration)) where
  -- no open slot records longer outputs
  no_longer : (bytes : List ℕ) (slot n : ℕ) → slot < slot_count → bytes ≡ old.seen slot
      → header_of bytes ≡ Some n → (s : IsOfRun course bytes) → (j : ℕ) → j < length course.outputs
      → length_in s.checkpoint j ≤ slice_index lengths j
  no_longer bytes slot n lt same head s j out =
      let is : n ≡ s.checkpoint.iteration = some_is (sym head ∙ header_of_run course bytes s) in
      let top : n ≤ chk.iteration = newest.greatest slot n lt (sym (ap header_of same) ∙ head) in
      let le = monotone s.checkpoint chk s.of_run has (omega arith) j out in
      let r = records j out in omega arith

  -- a checkpoint with no longer outputs is still reached
  cut_reach : (c : Files) (cut : IsCutTo lengths count old c) (k : Checkpoint) (b : Bool)
      → Reaches course b k cut.image
      → ((j : ℕ) → j < length course.outputs → length_in k j ≤ slice_index lengths j)
      → Reaches course b k c
  cut_reach c cut k false r le =
      subst (λ (f : List ℕ). GoesAsFar (former_length k) course.former f) (sym cut.former) r
  cut_reach c cut k true r le = λ j out.
      cut_far (length_in k j) (slice_index lengths j) (text_of course j)
      (cut.image (file_of_output j)) (c (file_of_output j)) (cut.outputs j (omega arith))
      (le j out) (r j out)

  -- at each moment of the cut each image is a trail
  pub cut_trail : (c : Files) → IsCutTo lengths count old c → IsTrail course c
  cut_trail c cut slot n lt head =
      let back = sym (ap header_of (cut.slots slot lt)) ∙ head in
      let t = trails cut.image cut.was slot n lt back in
      let later : (b : Bool) → Reaches course b t.0.checkpoint cut.image
      → Reaches course b t.0.checkpoint c = λ b r.
      cut_reach c cut t.0.checkpoint b r
      (no_longer (cut.image slot) slot n lt (settled slot lt cut.image cut.was) back t.0) in (
        of_run_at (cut.image slot) (c slot) (cut.slots slot lt) t.0,
        reach_at course t.0.checkpoint c (cut.image slot) (c slot) (cut.slots slot lt)
            (later (is_second (cut.image slot)) t.1),
      )

  -- and after it the keeper's fact holds
  pub cut_stands : (new : View) (next : Option Checkpoint) → OutputsReach course chk old.seen
      → IfSome next (λ d. (j : ℕ) → j < length course.outputs → length_in chk j ≤ length_in d j)
      → ((c : Files) → new.images c → IsCutTo lengths count old c)
      → ((slot : ℕ) → slot < slot_count → new.seen slot ≡ old.seen slot)
      → ((j : ℕ) → j < count → IsTrimmed (slice_index lengths j) (file_of_output j) old new)
      → Stands course (Some chk.iteration) next new
  cut_stands new next reach later crash slots own =
      let size : (j : ℕ) → j < length course.outputs
      → length (take (slice_index lengths j) (old.seen (file_of_output j))) ≡ length_in chk j =
      λ j out.
      let r = records j out in let long = (reach j out).long_enough in
      let s = length-take (slice_index lengths j) (old.seen (file_of_output j)) in
      omega arith in
      record {
        slots = λ s lt c now. let cut = crash c now in
            cut.slots s lt ∙ settled s lt cut.image cut.was ∙ sym (slots s lt);
        kept = λ s n lt head.
            let back = sym (ap header_of (slots s lt)) ∙ head in
            let t = trails old.seen sound.reads s n lt back in (
              of_run_at (old.seen s) (new.seen s) (slots s lt) t.0,
              λ c now.
                  let cut = crash c now in
                  let was = settled s lt cut.image cut.was in
                  let u = trails cut.image cut.was s n lt (ap header_of was ∙ back) in
                  let same : (r : Reaches course (is_second (old.seen s)) t.0.checkpoint cut.image)
                  → Reaches course (is_second (new.seen s)) t.0.checkpoint c = λ r.
                  reach_at course t.0.checkpoint c (old.seen s) (new.seen s) (slots s lt)
                  (cut_reach c cut t.0.checkpoint (is_second (old.seen s)) r
                  (no_longer (old.seen s) s n lt refl back t.0)) in
                  same (one_reach course (old.seen s)
                  (of_run_at (cut.image s) (old.seen s) (sym was) u.0) t.0 cut.image
                  (reach_at course u.0.checkpoint cut.image (cut.image s) (old.seen s) (sym was)
                  u.1)),
            );
        newest_is = newest_same old.seen new.seen slots (Some chk.iteration) newest;
        fronts = λ j out.
            let o = own j (omega arith) in
            subst (λ (b : List ℕ). IsFrontOf (text_of course j) b) (sym o.cut)
            (ap (λ (k : ℕ). take k (old.seen (file_of_output j))) (records j out)
            ∙ (reach j out).front
            ∙ ap (λ (k : ℕ). take k (text_of course j)) (sym (size j out)));
        within = within_more next (λ d h c j now out.
            let o = own j (omega arith) in
            let e : length (c (file_of_output j)) ≡ length_in chk j =
            ap length (o.settled c now ∙ o.cut) ∙ size j out in
            let a = h j out in omega arith) later;
      }

pub trail_same : (course : Course) (f g : Files) → SameFiles f g → IsTrail course f
    → IsTrail course g
trail_same course f g same t slot n lt head =
    let k = t slot n lt (sym (ap header_of (same slot)) ∙ head) in (
      of_run_at (f slot) (g slot) (same slot) k.0,
      reach_at course k.0.checkpoint g (f slot) (g slot) (same slot)
          (reach_same course (is_second (f slot)) k.0.checkpoint f g same k.1),
    )

pub trails_quiet : (course : Course) (old mid : View) → AreTrails course old → IsQuiet old mid
    → AreTrails course mid
trails_quiet course old mid trails quiet c now = let d = quiet.crash c now in
    trail_same course d.0 c d.2 (trails d.0 d.1)

pub resumed_quiet : (course : Course) (chk : Checkpoint) (old mid : View) → IsResumed course chk old
    → IsQuiet old mid → IsResumed course chk mid
resumed_quiet course chk old mid r quiet = record {
  key = r.key;
  of_run = r.of_run;
  newest = newest_same old.seen mid.seen (λ s lt. quiet.same s) (Some chk.iteration) r.newest;
  reach = reach_same course true chk old.seen mid.seen quiet.same r.reach;
}

pub quiet_moments : (course : Course) (old mid : View) → AreTrails course old → IsQuiet old mid
    → LeavesOnly old mid (IsTrailFrom course old)
quiet_moments course old mid trails quiet =
    weaker (IsTrailFrom course old) quiet.moments
    (λ c from. record {
      image = from.0;
      was = from.1;
      slots = λ s lt. from.2 s;
      shorter = λ j out. let e = ap length (from.2 (file_of_output j)) in
          omega arith;
      trail = trail_same course from.0 c from.2 (trails from.0 from.1);
    })

pub cut_moments : (course : Course) (monotone : IsMonotone course) (chk : Checkpoint)
    (old mid new : View) → length chk.lengths ≡ length course.outputs → AreTrails course old
    → IsQuiet old mid → SlotsSettled mid → IsView mid → IsResumed course chk old
    → LeavesOnly mid new (IsCutTo chk.lengths (length chk.lengths) mid)
    → LeavesOnly old new (IsTrailFrom course old)
cut_moments course monotone chk old mid new counts trails quiet settled sound resumed moments =
    let r = resumed_quiet course chk old mid resumed quiet in
    joins (IsTrailFrom course old) (quiet_moments course old mid trails quiet) moments (λ c cut.
    let from = quiet.crash cut.image cut.was in
    record {
      image = from.0;
      was = from.1;
      slots = λ s lt. cut.slots s lt ∙ from.2 s;
      shorter = λ j out. let e = ap length (from.2 (file_of_output j)) in
          let le = cut_shorter (slice_index chk.lengths j) (cut.image (file_of_output j))
          (c (file_of_output j)) (cut.outputs j (omega arith)) in omega arith;
      trail = cut_trail course monotone (with_key r.key chk) r.of_run chk.lengths
          (length chk.lengths) counts
          (λ j out. refl) mid sound (trails_quiet course old mid trails quiet)
          settled r.newest c cut;
    })

-- what the cut leaves, of whatever the outputs held
pub cut_leaves : (job : Job) (lengths : List ℕ) (mid new : View) → SlotsSettled mid
    → AreLong lengths mid.seen → CutsOutputs lengths mid new → SlotsSame mid.seen new.seen
    → AreCut lengths mid new → IsLeft job lengths mid new
cut_leaves job lengths mid new settled long crash slots own = record {
  slots = λ s lt c now. let cut = crash c now in
      cut.slots s lt ∙ settled s lt cut.image cut.was ∙ sym (slots s lt);
  counts = λ j lt.
      let le = long j lt in
      let size = length-take (slice_index lengths j) (mid.seen (file_of_output j)) in
      let e : slice_index lengths j
      ≡ length (take (slice_index lengths j) (mid.seen (file_of_output j))) = omega arith in
      e ∙ sym (ap length (own j lt).cut);
  settled = λ j lt. (own j lt).settled;
  outputs = inl (λ j lt. (own j lt).cut);
}

-- the outputs and the former output are as they were before
pub left_back : (job : Job) (lengths : List ℕ) (old mid new : View)
    → ((f : ℕ) → slot_count ≤ f → mid.seen f ≡ old.seen f) → IsLeft job lengths mid new
    → IsLeft job lengths old new
left_back job lengths old mid new same l = record {
  slots = l.slots;
  counts = l.counts;
  settled = l.settled;
  outputs = elim l.outputs as
      (λ _. AreFronts lengths old.seen new.seen ⊎ AreSplit job lengths old.seen new.seen) [
        | inl fronts ↦ inl (λ j lt. fronts j lt
            ∙ ap (λ (b : List ℕ). take (slice_index lengths j) b)
            (same (file_of_output j) (omega arith)))
        | inr split ↦ inr (record {
          texts = split.texts;
          split_is =
              sym (ap (λ (b : List ℕ).
              split_of (take (total lengths) b) (full_names (setup_of job)))
              (same old_output_file (omega arith))) ∙ split.split_is;
          lengths_are = split.lengths_are;
          outputs = split.outputs;
        })
      ];
}

-- no length of a list of nothings is more than nothing
pub none_at : (count j : ℕ) → j < count → slice_index (replicate count 0) j ≡ 0
none_at zero j lt = absurd (omega arith)
none_at (suc count) zero lt = refl
none_at (suc count) (suc j) lt = none_at count j (omega arith)

abbrev nothings : ℕ → List ℕ
nothings count = replicate count 0

pub none_long : (count : ℕ) → length (nothings count) ≡ count
none_long zero = refl
none_long (suc count) = ap suc (none_long count)

-- nothing is always there
pub nothing_long : (count : ℕ) (files : Files) → AreLong (replicate count 0) files
nothing_long count files j lt = let e = none_at count j (let n = none_long count in omega arith) in
    omega arith

-- ---- one output more

cut_more : (n : ℕ) (a b c : List ℕ) → CutShort n a b → CutShort n b c → CutShort n a c
cut_more n a b c first second =
    let le : length c ≤ length b = cut_shorter n b c second in
    let low = first.no_shorter in
    let high = second.no_shorter in
    record {
      no_shorter = omega arith;
      front = second.front ∙ ap (λ (l : List ℕ). take (length c) l) first.front
          ∙ take-take (length c) (length b) a le;
    }

pub other_output : (j k : ℕ) → (j ≡ k → ⊥) → file_of_output j ≡ file_of_output k → ⊥
other_output j k ne same = ne (let e : 9 + j ≡ 9 + k = same in omega arith)

pub earlier_file : (f k : ℕ) → f < file_of_output 0 → f ≡ file_of_output k → ⊥
earlier_file f k lt same = let e : f ≡ 9 + k = same in omega arith

module _ (lengths : List ℕ) (k : ℕ) (first old new : View) (lt : k < length lengths)
    (crash : CutsOutputs lengths first old)
    (after : Stepped (CutShort (slice_index lengths k)) (file_of_output k) old new) where
  cut_image : (c : Files) → After (CutShort (slice_index lengths k)) (file_of_output k) old c
      → IsCutTo lengths (length lengths) first c
  cut_image c from =
      let w = crash from.0 from.1 in
      record {
        image = w.image;
        was = w.was;
        slots = λ s low. from.2.others s (earlier_file s k (omega arith)) ∙ w.slots s low;
        former = from.2.others old_output_file (earlier_file old_output_file k (omega arith))
            ∙ w.former;
        outputs = λ j low. elim (cases_eq j k) as
            (λ _. CutShort (slice_index lengths j) (w.image (file_of_output j))
            (c (file_of_output j))) [
              | inl same ↦ subst (λ (i : ℕ). CutShort (slice_index lengths i)
                  (w.image (file_of_output i)) (c (file_of_output i))) (sym same)
                  (cut_more (slice_index lengths k) (w.image (file_of_output k))
                  (from.0 (file_of_output k)) (c (file_of_output k)) (w.outputs k lt) from.2.this)
              | inr ne ↦ subst (λ (b : List ℕ). CutShort (slice_index lengths j)
                  (w.image (file_of_output j)) b)
                  (sym (from.2.others (file_of_output j) (other_output j k ne))) (w.outputs j low)
            ];
      }

  pub cut_crash : CutsOutputs lengths first new
  cut_crash c now = cut_image c (after.crash c now)

  pub cut_leaving : LeavesCut lengths first old → LeavesCut lengths first new
  cut_leaving so_far = joins (IsCutTo lengths (length lengths) first) so_far after.moments cut_image

  pub cut_earlier : EarlierSame first.seen old.seen → EarlierSame first.seen new.seen
  cut_earlier earlier f low = after.others f (earlier_file f k low) ∙ earlier f low

  pub cut_left : ((j : ℕ) → k ≤ j → old.seen (file_of_output j) ≡ first.seen (file_of_output j))
      → (j : ℕ) → k + 1 ≤ j → new.seen (file_of_output j) ≡ first.seen (file_of_output j)
  cut_left left j le =
      after.others (file_of_output j)
      (other_output j k (λ e. absurd (let x : j ≡ k = e in omega arith)))
      ∙ left j (omega arith)

  pub cut_own :
      ((j : ℕ) → j < k → IsTrimmed (slice_index lengths j) (file_of_output j) first old)
      → ((j : ℕ) → k ≤ j → old.seen (file_of_output j) ≡ first.seen (file_of_output j))
      → IsDone (Front (slice_index lengths k)) (file_of_output k) old new
      → (j : ℕ) → j < k + 1 → IsTrimmed (slice_index lengths j) (file_of_output j) first new
  cut_own own left done j low = elim (cases_eq j k) as
      (λ _. IsTrimmed (slice_index lengths j) (file_of_output j) first new) [
        | inl same ↦ subst (λ (i : ℕ). IsTrimmed (slice_index lengths i) (file_of_output i) first
            new) (sym same) (record {
              cut = done.changed
                  ∙ ap (λ (b : List ℕ). take (slice_index lengths k) b) (left k (omega arith));
              settled = done.settled;
            })
        | inr ne ↦
            let o = own j (omega arith) in
            let apart = other_output j k ne in
            record {
              cut = after.others (file_of_output j) apart ∙ o.cut;
              settled = λ c now.
                  let from = after.crash c now in
                  from.2.others (file_of_output j) apart ∙ o.settled from.0 from.1
                  ∙ sym (after.others (file_of_output j) apart);
            }
      ]
