-- A start from a checkpoint of version 1: at each moment each image is a trail with the newest that
-- was, and behind it the keeper's fact holds.
use Rattle.std.proofs.Common.{◌≡◌, ◌⊎◌, inl, inr, ℕ, ◌≤◌, ◌<◌, Bool, true, false, List, [], length, take, sym, ◌∙◌, ap, subst, arith}
use Rattle.std.specs.Prelude.{Option, Some, None, IfSome, slice_index_or}
use Rattle.std.proofs.lemmas.List.{length-take}
use Rattle.cx_disk.specs.Disk.{Files, View}
use Rattle.cx_disk.specs.Files.{old_output_file}
use Rattle.cx_disk.specs.MemoryLaws.{cases_le}
use Rattle.cx_disk.specs.Moments.{IsQuiet}
use Rattle.cx_plan.specs.declared.job.Recover.{Recover}
use Rattle.cx_chk.specs.declared.checkpoint.Checkpoint.{Checkpoint}
use Rattle.cx_chk.specs.Slots.{header_of, is_second, SlotsSettled, IsWithinShutting, NoneSecond, KeepsFirst}
use Rattle.cx_keep.specs.Trails.{Course, Reaches, GoesAsFar, IsTrail, NewestIs, Stands, IsFrontOf, text_of, length_in, former_length, file_of_output}
use Rattle.cx_keep.specs.Resuming.{AreTrails}
use Rattle.cx_keep.specs.Beginning.{IsWithinStart, IsOfNewest}
use Rattle.cx_keep.specs.Renewing.{IsWithinRenewal, AreRenewed, RenewsOutputs, CanRenew}
use Rattle.cx_keep.proofs.Stays.{of_run_at, reach_at, within_more}
use Rattle.cx_keep.proofs.Begins.{one_reach}

some_is : {a b : ℕ} → Some a ≡ Some b → a ≡ b
some_is e = cc

-- an image of one with the same files behind the slots reaches what it reached
pub reach_files : (course : Course) (b : Bool) (chk : Checkpoint) (f g : Files)
    → ((file : ℕ) → 8 ≤ file → g file ≡ f file) → Reaches course b chk f → Reaches course b chk g
reach_files course false chk f g same r =
    subst (λ (l : List ℕ). GoesAsFar (former_length chk) course.former l)
    (sym (same old_output_file (omega arith))) r
reach_files course true chk f g same r =
    λ j lt. subst (λ (l : List ℕ). GoesAsFar (length_in chk j) (text_of course j) l)
    (sym (same (file_of_output j) (omega arith))) (r j lt)

module _ (course : Course) (chk : Checkpoint) (texts : List (List ℕ)) (old mid : View)
    (trails : AreTrails course old) (quiet : IsQuiet old mid) (settled : SlotsSettled mid)
    (can : CanRenew course chk texts mid) where
  -- an image of the start, which an image behind the quiet calls comes from, has the slots as they
  -- are read
  was_slots : (d : Files) → mid.images d → (s : ℕ) → s < 8 → mid.seen s ≡ d s
  was_slots d now s lt = sym (settled s lt d now)

  -- files whose open slots are some of those that are read, the newest among them
  newest_here : (c : Files) → c can.slot ≡ mid.seen can.slot
      → ((s n : ℕ) → s < 8 → header_of (c s) ≡ Some n → header_of (mid.seen s) ≡ Some n)
      → NewestIs c (Some chk.iteration)
  newest_here c same some = record {
    slot = can.slot;
    known = can.known;
    header = ap header_of same ∙ can.header;
    greatest = λ o m lt head. can.greatest o m lt (some o m lt head);
  }

  -- it is the newest of each image of the start that the slots are those of
  newest_was : (before c : Files) → ((s : ℕ) → s < 8 → before s ≡ mid.seen s)
      → NewestIs c (Some chk.iteration) → (n : Option ℕ) → NewestIs before n → NewestIs c n
  newest_was before c same here None none =
      absurd (let bad : Some chk.iteration ≡ None =
      sym can.header ∙ ap header_of (sym (same can.slot can.known)) ∙ none can.slot can.known in cc)
  newest_was before c same here (Some n) top =
      let up : n ≤ chk.iteration =
      can.greatest top.slot n top.known
      (ap header_of (sym (same top.slot top.known)) ∙ top.header) in
      let down : chk.iteration ≤ n =
      top.greatest can.slot chk.iteration can.known
      (ap header_of (same can.slot can.known) ∙ can.header) in
      let e : chk.iteration ≡ n = omega arith in
      subst (λ (k : ℕ). NewestIs c (Some k)) e here

  module _ (c : Files) (shut : IsWithinShutting mid c) where
    shut_same : c can.slot ≡ mid.seen can.slot
    shut_same = elim (shut.slots can.slot can.known) as (λ _. c can.slot ≡ mid.seen can.slot) [
      | inl same ↦ same
      | inr gone ↦ absurd (let bad : false ≡ true = sym can.first ∙ gone.0 in cc)
    ]

    shut_some : (s n : ℕ) → s < 8 → header_of (c s) ≡ Some n → c s ≡ mid.seen s
    shut_some s n lt head = elim (shut.slots s lt) as (λ _. c s ≡ mid.seen s) [
      | inl same ↦ same
      | inr gone ↦ absurd (let bad : Some n ≡ None = sym head ∙ gone.1 in cc)
    ]

    -- while the slots of version 2 are closed
    pub shut_within : (recover : Recover) → IsWithinStart course recover old c
    shut_within recover =
        let from = quiet.crash shut.image shut.was in
        let was : (s : ℕ) → s < 8
        → from.0 s ≡ mid.seen s = λ s lt. sym (from.2 s) ∙ settled s lt shut.image shut.was in
        let files : (file : ℕ) → 8 ≤ file
        → c file ≡ from.0 file = λ file le. shut.others file le ∙ from.2 file in
        let here = newest_here c shut_same
        (λ s n lt head. ap header_of (sym (shut_some s n lt head)) ∙ head) in
        record {
          before = from.0;
          was = from.1;
          newest = λ not n top. newest_was from.0 c was here n top;
          outputs = λ j out. inl
              (let e = ap length (files (file_of_output j) (omega arith)) in omega arith);
          trail = λ s n lt head.
              let same : c s ≡ from.0 s = shut_some s n lt head ∙ sym (was s lt) in
              let t = trails from.0 from.1 s n lt (ap header_of (sym same) ∙ head) in (
                of_run_at (from.0 s) (c s) same t.0,
                reach_at course t.0.checkpoint c (from.0 s) (c s) same
                    (reach_files course (is_second (from.0 s)) t.0.checkpoint from.0 c files t.1),
              );
        }

  -- behind it no slot of version 2 is open
  module _ (shut : View) (crash : (c : Files) → shut.images c → IsWithinShutting mid c)
      (all : SlotsSettled shut) (none : NoneSecond mid.seen shut.seen)
      (kept : KeepsFirst mid.seen shut.seen) where
    first_same : shut.seen can.slot ≡ mid.seen can.slot
    first_same = kept can.slot can.known can.first

    -- files with the slots of those, and with the former output of an image
    module _ (c image : Files) (was : shut.images image) (slots : (s : ℕ) → s < 8 → c s ≡ image s)
        (former : c old_output_file ≡ image old_output_file) where
      open_slot : (s n : ℕ) → s < 8 → header_of (c s) ≡ Some n
          → (is_second (shut.seen s) ≡ false) × (c s ≡ mid.seen s)
      open_slot s n lt head =
          let at : c s ≡ shut.seen s = slots s lt ∙ all s lt image was in
          let o = none s n lt (ap header_of (sym at) ∙ head) in
          (o.0, at ∙ o.1)

      -- each is of version 1, and the former output reaches it
      pub former_trail : IsTrail course c
      former_trail s n lt head =
          let o = open_slot s n lt head in
          let w = crash image was in
          let from = quiet.crash w.image w.was in
          let same : c s ≡ from.0 s = o.1 ∙ sym (settled s lt w.image w.was) ∙ from.2 s in
          let t = trails from.0 from.1 s n lt (ap header_of (sym same) ∙ head) in
          let old_version : is_second (from.0 s) ≡ false =
          ap is_second (sym same ∙ slots s lt ∙ all s lt image was) ∙ o.0 in
          let file : c old_output_file ≡ from.0 old_output_file =
          former ∙ w.others old_output_file (omega arith) ∙ from.2 old_output_file in
          let reach : (b : Bool) → b ≡ false → Reaches course b t.0.checkpoint from.0
          → Reaches course b t.0.checkpoint c = λ b is r.
          subst (λ (v : Bool). Reaches course v t.0.checkpoint c) (sym is)
          (subst (λ (l : List ℕ). GoesAsFar (former_length t.0.checkpoint) course.former l)
          (sym file) (subst (λ (v : Bool). Reaches course v t.0.checkpoint from.0) is r)) in (
            of_run_at (from.0 s) (c s) same t.0,
            reach_at course t.0.checkpoint c (from.0 s) (c s) same
                (reach (is_second (from.0 s)) old_version t.1),
          )

      pub former_newest : NewestIs c (Some chk.iteration)
      former_newest =
          newest_here c (slots can.slot can.known ∙ all can.slot can.known image was ∙ first_same)
          (λ s n lt head. ap header_of (sym (open_slot s n lt head).1) ∙ head)

    -- while the outputs are made anew
    pub renewal_within : (recover : Recover) (c : Files) → IsWithinRenewal texts shut c
        → IsWithinStart course recover old c
    renewal_within recover c r =
        let w = crash r.image r.was in
        let from = quiet.crash w.image w.was in
        let was : (s : ℕ) → s < 8
        → from.0 s ≡ mid.seen s = λ s lt. sym (from.2 s) ∙ settled s lt w.image w.was in
        let here = former_newest c r.image r.was r.slots r.former in
        record {
          before = from.0;
          was = from.1;
          newest = λ not n top. newest_was from.0 c was here n top;
          outputs = λ j out.
              let bound = r.outputs j (let e = can.counts in omega arith) in
              let same : length (r.image (file_of_output j)) ≡ length (from.0 (file_of_output j)) =
              ap length (w.others (file_of_output j) (omega arith) ∙ from.2 (file_of_output j))
              in
              let size : length (slice_index_or texts j []) ≡ length_in chk j =
              ap length (can.texts_are j out)
              ∙ (let l = can.long j out in
              let n = length-take (length_in chk j) (text_of course j) in omega arith) in
              elim (cases_le (length (r.image (file_of_output j)))
              (length (slice_index_or texts j []))) as
              (λ _. (length (c (file_of_output j)) ≤ length (from.0 (file_of_output j)))
              ⊎ IsOfNewest course j c) [
                | inl le
                    ↦ inr
                    (record {
                      checkpoint = chk;
                      of_run = can.of_run;
                      newest = here;
                      within = let b = bound in omega arith;
                    })
                | inr le ↦ inl (let b = bound in omega arith)
              ];
          trail = former_trail c r.image r.was r.slots r.former;
        }

    -- and behind that
    pub renewed_stands : (new : View) (next : Option Checkpoint)
        → IfSome next (λ d. (j : ℕ) → j < length course.outputs → length_in chk j ≤ length_in d j)
        → new.images new.seen
        → RenewsOutputs texts shut new → ((slot : ℕ) → slot < 8 → new.seen slot ≡ shut.seen slot)
        → AreRenewed texts new → Stands course (Some chk.iteration) next new
    renewed_stands new next later reads renews slots own =
        let many : (j : ℕ) → j < length course.outputs
        → j < length texts = λ j out. (let e = can.counts in omega arith) in
        let size : (j : ℕ) → j < length course.outputs
        → length (slice_index_or texts j []) ≡ length_in chk j = λ j out.
        ap length (can.texts_are j out)
        ∙ (let l = can.long j out in let n = length-take (length_in chk j) (text_of course j) in
        omega arith) in
        let first = renews new.seen reads in
        record {
          slots = λ s lt c now. let r = renews c now in
              r.slots s lt ∙ all s lt r.image r.was ∙ sym (slots s lt);
          kept = λ s n lt head.
              let t = former_trail new.seen first.image first.was first.slots first.former s n lt
              head in (
                t.0,
                λ c now.
                    let r = renews c now in
                    let same : c s ≡ new.seen s =
                    r.slots s lt ∙ all s lt r.image r.was ∙ sym (slots s lt) in
                    let u = former_trail c r.image r.was r.slots r.former s n lt
                    (ap header_of same ∙ head) in
                    one_reach course (new.seen s) (of_run_at (c s) (new.seen s) (sym same) u.0)
                    t.0 c
                    (reach_at course u.0.checkpoint c (c s) (new.seen s) (sym same) u.1),
              );
          newest_is = former_newest new.seen first.image first.was first.slots first.former;
          fronts = λ j out.
              let o = own j (many j out) in
              subst (λ (b : List ℕ). IsFrontOf (text_of course j) b)
              (sym (o.reads ∙ can.texts_are j out))
              (ap (λ (k : ℕ). take k (text_of course j))
              (sym (sym (ap length (can.texts_are j out)) ∙ size j out)));
          within = within_more next (λ d h c j now out.
              let o = own j (many j out) in
              let e : length (c (file_of_output j)) ≡ length_in chk j =
              ap length (o.settled c now ∙ o.reads) ∙ size j out in
              let a = h j out in omega arith) later;
        }
