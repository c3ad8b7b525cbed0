-- A piece appended to an output.
use Rattle.std.proofs.Common.{◌≡◌, inl, inr, ℕ, ◌+◌, ◌≤◌, ◌<◌, min, List, ◌++◌, length, take, drop, refl, sym, ◌∙◌, ap, subst, arith}
use Rattle.std.specs.Prelude.{Bool, true, false, Option, Some, None, IfSome}
use Rattle.std.proofs.lemmas.Bool.{cases_eq}
use Rattle.std.proofs.lemmas.List.{take_all, drop_all, take_at, append-nil, take-take}
use Rattle.cx_disk.specs.Disk.{Files, View, IsView, Changes, Torn, Holds, Passes, OthersSame}
use Rattle.cx_disk.specs.Files.{slot_count, old_output_file}
use Rattle.cx_chk.specs.declared.checkpoint.Checkpoint.{Checkpoint}
use Rattle.cx_chk.specs.Slots.{header_of, is_second, SlotsSettled}
use Rattle.cx_keep.specs.Trails.{Course, Reaches, GoesAsFar, former_length, IsTrailOf, AreWithin, Stands, IsFrontOf, IsNextPiece, text_of, length_in, file_of_output}
use Rattle.cx_keep.proofs.Stays.{of_run_at, reach_at, newest_same, trail_at, within_more}

-- what was before the offset, in both, is there after a torn write
torn_far : (at k n : ℕ) (text d c : List ℕ) → Torn at k d c → n ≤ at → GoesAsFar n text d
    → GoesAsFar n text c
torn_far at k n text d c torn le far =
    let long = far.long_enough in
    let more = torn.no_shorter in
    let m : n ≤ min at (length d) = omega arith in
    record {
      long_enough = omega arith;
      front = sym (take-take n (min at (length d)) c m) ∙ ap (λ (l : List ℕ). take n l) torn.before
          ∙ take-take n at d le ∙ far.front;
    }

pub written_end : (piece old new : List ℕ) → Holds (length old) piece old new → new ≡ old ++ piece
written_end piece old new holds =
    holds
    ∙ ap (λ (l : List ℕ). l ++ piece ++ drop (length old + length piece) old)
    (take_all (length old) old (omega arith))
    ∙ ap (λ (l : List ℕ). old ++ piece ++ l)
    (drop_all (length old + length piece) old (omega arith))
    ∙ append-nil (old ++ piece)

-- what the output had is there, whether the write was stopped or not
pub torn_keeps : (k : ℕ) (old new : List ℕ) → Torn (length old) k old new
    → take (length old) new ≡ old
torn_keeps k old new torn =
    let m : min (length old) (length old) ≡ length old = omega arith in
    ap (λ (i : ℕ). take i new) (sym m) ∙ torn.before ∙ take_all (length old) old (omega arith)

pub whole_keeps : (piece old new : List ℕ) → new ≡ old ++ piece → take (length old) new ≡ old
whole_keeps piece old new is =
    ap (λ (l : List ℕ). take (length old) l) is ∙ take_at old piece (length old) refl

-- the slots stay the same in all images
pub append_settled : (at k j : ℕ) (old new : View) → SlotsSettled old
    → Passes (Changes (Torn at k) (file_of_output j)) old new
    → OthersSame (file_of_output j) old.seen new.seen → SlotsSettled new
append_settled at k j old new settled passes others s lt c now =
    let d = passes.crash c now in
    let ne : s ≡ file_of_output j → ⊥ = λ same. let e : s ≡ 9 + j = same in omega arith in
    d.2.others s ne ∙ settled s lt d.0 d.1 ∙ sym (others s ne)

module _ (course : Course) (newest : Option ℕ) (next : Option Checkpoint) (j : ℕ) (piece : List ℕ)
    (old new : View) (sound : IsView old) (st : Stands course newest next old)
    (fits : IsNextPiece course next j piece (old.seen (file_of_output j)))
    (passes : Passes (Changes (Torn (length (old.seen (file_of_output j))) (length piece))
    (file_of_output j)) old new) where
  slot_other : (s : ℕ) → s < 8 → s ≡ file_of_output j → ⊥
  slot_other s lt same = let e : s ≡ 9 + j = same in omega arith

  same_slots : (c : Files) → new.images c → (s : ℕ) → s < slot_count → c s ≡ old.seen s
  same_slots c now s lt = let d = passes.crash c now in
      d.2.others s (slot_other s lt) ∙ st.slots s lt d.0 d.1

  reach : (c : Files) → new.images c → (second : Bool) (chk : Checkpoint)
      → ((d : Files) → old.images d → Reaches course second chk d) → Reaches course second chk c
  reach c now false chk all =
      let d = passes.crash c now in
      subst (λ (b : List ℕ). GoesAsFar (former_length chk) course.former b)
      (sym (d.2.others old_output_file (λ same. absurd (let e : 8 ≡ 9 + j = same in omega arith))))
      (all d.0 d.1)
  reach c now true chk all = λ k lt.
      let d = passes.crash c now in
      elim (cases_eq k j) as (λ _.
      GoesAsFar (length_in chk k) (text_of course k) (c (file_of_output k))) [
        | inl same ↦
            let lt_j : j < length course.outputs = fits.output in
            let le = (all old.seen sound.reads j lt_j).long_enough in
            subst (λ (i : ℕ). GoesAsFar (length_in chk i) (text_of course i) (c (file_of_output i)))
            (sym same)
            (torn_far (length (old.seen (file_of_output j))) (length piece) (length_in chk j)
            (text_of course j) (d.0 (file_of_output j)) (c (file_of_output j)) d.2.this le
            (all d.0 d.1 j lt_j))
        | inr ne ↦ subst (λ (b : List ℕ). GoesAsFar (length_in chk k) (text_of course k) b)
            (sym (d.2.others (file_of_output k)
            (λ same. ne (let e : 9 + k ≡ 9 + j = same in omega arith)))) (all d.0 d.1 k lt)
      ]

  bounded : (o : Option Checkpoint)
      → IfSome o (λ d. (c : Files) (i : ℕ) → old.images c → i < length course.outputs
      → length (c (file_of_output i)) ≤ length_in d i)
      → IfSome o (λ d. length (old.seen (file_of_output j)) + length piece ≤ length_in d j)
      → IfSome o (λ d. (c : Files) (i : ℕ) → new.images c → i < length course.outputs
      → length (c (file_of_output i)) ≤ length_in d i)
  bounded None h room = tt
  bounded (Some e) h room = λ c i now lt.
      let d = passes.crash c now in
      elim (cases_eq i j) as (λ _. length (c (file_of_output i)) ≤ length_in e i) [
        | inl same ↦ subst (λ (k : ℕ). length (c (file_of_output k)) ≤ length_in e k) (sym same)
            (let a = d.2.this.no_longer in let b = h d.0 j d.1 fits.output in let r = room in
            omega arith)
        | inr ne ↦ subst (λ (b : List ℕ). length b ≤ length_in e i)
            (sym (d.2.others (file_of_output i)
            (λ same. ne (let q : 9 + i ≡ 9 + j = same in omega arith)))) (h d.0 i d.1 lt)
      ]

  append_within : (c : Files) → new.images c → AreWithin course next c
  append_within c now = within_more next (λ d h i lt. h c i now lt)
      (bounded next st.within fits.within)

  pub append_trail : (c : Files) → new.images c → IsTrailOf course newest next c
  append_trail c now = trail_at course newest next old st c (same_slots c now) (reach c now)
      (append_within c now)

  pub append_stands : OthersSame (file_of_output j) old.seen new.seen
      → Holds (length (old.seen (file_of_output j))) piece (old.seen (file_of_output j))
      (new.seen (file_of_output j)) → Stands course newest next new
  append_stands others holds =
      let slot_same : (s : ℕ) → s < slot_count
      → new.seen s ≡ old.seen s = λ s lt. others s (slot_other s lt) in
      let whole = written_end piece (old.seen (file_of_output j)) (new.seen (file_of_output j))
      holds in
      record {
        slots = λ s lt c now. same_slots c now s lt ∙ sym (slot_same s lt);
        kept = λ s n lt head.
            let k = st.kept s n lt (sym (ap header_of (slot_same s lt)) ∙ head) in (
              of_run_at (old.seen s) (new.seen s) (slot_same s lt) k.0,
              λ c now. reach_at course k.0.checkpoint c (old.seen s) (new.seen s) (slot_same s lt)
                  (reach c now (is_second (old.seen s)) k.0.checkpoint k.1),
            );
        newest_is = newest_same old.seen new.seen slot_same newest st.newest_is;
        fronts = λ k lt. elim (cases_eq k j) as
            (λ _. IsFrontOf (text_of course k) (new.seen (file_of_output k))) [
              | inl same
                  ↦ subst (λ (i : ℕ). IsFrontOf (text_of course i) (new.seen (file_of_output i)))
                  (sym same) (subst (λ (b : List ℕ). IsFrontOf (text_of course j) b) (sym whole)
                  fits.front)
              | inr ne ↦ subst (λ (b : List ℕ). IsFrontOf (text_of course k) b)
                  (sym (others (file_of_output k)
                  (λ same. ne (let e : 9 + k ≡ 9 + j = same in omega arith)))) (st.fronts k lt)
            ];
        within = bounded next st.within fits.within;
      }
