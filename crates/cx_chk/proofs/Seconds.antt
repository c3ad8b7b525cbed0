-- Open slots of version 2 closed, one after another.
use Rattle.std.proofs.Common.{◌≡◌, inl, inr, ℕ, ◌+◌, ◌<◌, true, false, List, sym, ◌∙◌, ap, subst, arith}
use Rattle.std.specs.Prelude.{Some, None}
use Rattle.std.proofs.lemmas.Bool.{cases_eq}
use Rattle.cx_disk.specs.Disk.{Files, View, LeavesOnly}
use Rattle.cx_disk.specs.Files.{slot_count}
use Rattle.cx_disk.proofs.Moments.{joins, weaker}
use Rattle.cx_chk.specs.Slots.{header_of, is_second, IsOrClosed, IsOrShut, IsShutSecond, IsWithinShutting, KeepsFirst}
use Rattle.cx_chk.specs.Steps.{IsBut, Step}

-- a slot that is shut after it was as before or shut
shut_again : (first old new : List ℕ) → IsOrShut first old → IsOrShut old new → IsOrShut first new
shut_again first old new (inl was) (inl is) = inl (is ∙ was)
shut_again first old new (inr gone) (inl is) = inr (gone.0, ap header_of is ∙ gone.1)
shut_again first old new (inl was) (inr shut) = inr (sym (ap is_second was) ∙ shut.0, shut.1)
shut_again first old new (inr gone) (inr shut) = inr (gone.0, shut.1)

-- a slot of version 2 that is closed
pub shut_one : (slot : ℕ) (old new : View) → is_second (old.seen slot) ≡ true
    → Step slot (IsOrClosed (old.seen slot)) old new → Step slot (IsOrShut (old.seen slot)) old new
shut_one slot old new second step = record {
  crash = λ c now. weak c (step.crash c now);
  moments = weaker (IsBut slot (IsOrShut (old.seen slot)) old) step.moments weak;
  others = step.others;
}
  where
    one : (b : List ℕ) → IsOrClosed (old.seen slot) b → IsOrShut (old.seen slot) b
    one b (inl was) = inl was
    one b (inr closed) = inr (second, closed)

    weak : (c : Files) → IsBut slot (IsOrClosed (old.seen slot)) old c
        → IsBut slot (IsOrShut (old.seen slot)) old c
    weak c but = record {
      before = but.before;
      was = but.was;
      others = but.others;
      this = one (c slot) but.this;
    }

-- one slot more
pub shutting : (slot : ℕ) (first old new : View) → slot < slot_count
    → ((c : Files) → old.images c → IsWithinShutting first c) → old.images old.seen
    → Step slot (IsOrShut (old.seen slot)) old new → (c : Files)
    → IsBut slot (IsOrShut (old.seen slot)) old c → IsWithinShutting first c
shutting slot first old new bound so_far reads step c but =
    let o = so_far but.before but.was in
    let r = so_far old.seen reads in
    record {
      image = o.image;
      was = o.was;
      slots = λ s lt. elim (cases_eq s slot) as (λ _. IsOrShut (first.seen s) (c s)) [
        | inl same ↦ subst (λ (j : ℕ). IsOrShut (first.seen j) (c j)) (sym same)
            (shut_again (first.seen slot) (old.seen slot) (c slot) (r.slots slot bound) but.this)
        | inr ne ↦ subst (λ (b : List ℕ). IsOrShut (first.seen s) b) (sym (but.others s ne))
            (o.slots s lt)
      ];
      others = λ f le. but.others f (λ same. absurd (let x : f ≡ slot = same in omega arith))
          ∙ o.others f le;
    }

pub shutting_all : (slot : ℕ) (first old new : View) → slot < slot_count
    → ((c : Files) → old.images c → IsWithinShutting first c) → old.images old.seen
    → LeavesOnly first old (IsWithinShutting first) → Step slot (IsOrShut (old.seen slot)) old new
    → LeavesOnly first new (IsWithinShutting first)
shutting_all slot first old new bound so_far reads leaves step =
    joins (IsWithinShutting first) leaves step.moments
    (shutting slot first old new bound so_far reads step)

-- a slot that isn't of version 2 stays as it was
not_shut : (was bytes : List ℕ) → IsOrShut was bytes → is_second was ≡ false → bytes ≡ was
not_shut was bytes (inl same) first = same
not_shut was bytes (inr gone) first = absurd (let bad : true ≡ false = sym gone.0 ∙ first in cc)

pub keeps_more : (slot : ℕ) (first old new : View) → KeepsFirst first.seen old.seen
    → Step slot (IsOrShut (old.seen slot)) old new → new.images new.seen
    → KeepsFirst first.seen new.seen
keeps_more slot first old new kept step reads s lt is_first =
    elim (cases_eq s slot) as (λ _. new.seen s ≡ first.seen s) [
      | inl same ↦
          let at : old.seen slot ≡ first.seen slot =
          subst (λ (j : ℕ). old.seen j ≡ first.seen j) same (kept s lt is_first) in
          let first_slot : is_second (old.seen slot) ≡ false =
          ap is_second at ∙ ap (λ (j : ℕ). is_second (first.seen j)) (sym same) ∙ is_first in
          subst (λ (j : ℕ). new.seen j ≡ first.seen j) (sym same)
          (not_shut (old.seen slot) (new.seen slot) (step.crash new.seen reads).this first_slot
          ∙ at)
      | inr ne ↦ step.others s ne ∙ kept s lt is_first
    ]

-- those before a slot: each that is open has another version byte, and is as it was
abbrev pub NoneBefore : ℕ → Files → Files → Type 0
NoneBefore bound old new = (s n : ℕ) → s < bound → header_of (new s) ≡ Some n
    → (is_second (new s) ≡ false) × (new s ≡ old s)

pub none_more : (slot : ℕ) (first old new : View) → slot < slot_count
    → KeepsFirst first.seen old.seen
    → NoneBefore slot first.seen old.seen → ((c : Files) → old.images c → IsWithinShutting first c)
    → old.images old.seen
    → Step slot (IsOrShut (old.seen slot)) old new → IsShutSecond (old.seen slot) (new.seen slot)
    → NoneBefore (slot + 1) first.seen new.seen
none_more slot first old new bound kept none so_far reads step shut s n lt head =
    elim (cases_eq s slot) as (λ _. (is_second (new.seen s) ≡ false) × (new.seen s ≡ first.seen s)) [
      | inl same ↦ subst (λ (j : ℕ). (is_second (new.seen j) ≡ false) × (new.seen j ≡ first.seen j))
          (sym same) (here shut (sym (ap (λ (j : ℕ). header_of (new.seen j)) same) ∙ head))
      | inr ne ↦
          let o = none s n (omega arith) (sym (ap header_of (step.others s ne)) ∙ head) in
          (ap is_second (step.others s ne) ∙ o.0, step.others s ne ∙ o.1)
    ]
  where
    was_open : (b : List ℕ) → IsOrShut (first.seen slot) b → header_of b ≡ Some n
        → b ≡ first.seen slot
    was_open b (inl is) h = is
    was_open b (inr gone) h = absurd (let bad : Some n ≡ None = sym h ∙ gone.1 in cc)

    here : IsShutSecond (old.seen slot) (new.seen slot) → header_of (new.seen slot) ≡ Some n
        → (is_second (new.seen slot) ≡ false) × (new.seen slot ≡ first.seen slot)
    here (inl closed) h = absurd (let bad : Some n ≡ None = sym h ∙ closed in cc)
    here (inr is) h =
        let open_before : header_of (old.seen slot) ≡ Some n = sym (ap header_of is.1) ∙ h in (
          ap is_second is.1 ∙ is.0,
          is.1 ∙ was_open (old.seen slot) ((so_far old.seen reads).slots slot bound) open_before,
        )
