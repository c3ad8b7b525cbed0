-- A save as a whole, and the closing of all slots.
use Rattle.std.proofs.Common.{◌≡◌, ◌⊎◌, inl, inr, ℕ, ◌<◌, List, ◌∷◌, sym, ◌∙◌, ap, subst, arith}
use Rattle.std.specs.Prelude.{None, Result, Ok, Err, OnOk}
use Rattle.std.proofs.lemmas.Bool.{cases_eq}
use Rattle.cx_disk.specs.Disk.{Files, View, LeavesOnly}
use Rattle.cx_disk.specs.Moments.{IsQuiet}
use Rattle.cx_disk.proofs.Moments.{joins}
use Rattle.cx_chk.specs.declared.checkpoint.Checkpoint.{Checkpoint}
use Rattle.cx_chk.specs.Encoding.{IsCheckpoint, body_bytes}
use Rattle.cx_chk.specs.Slots.{header_of, IsOrClosed, IsWithinSave, SlotsSettled, IsWithinClosing}
use Rattle.cx_chk.specs.Steps.{IsBut, Step}
use Rattle.cx_disk.specs.Files.{slot_count}
use Rattle.cx_chk.proofs.StepLaws.{quiet_was, step_more, step_quiet}

-- after one file is changed and settled, all slots are settled
pub all_settled : {Q : List ℕ → Type 0} (slot : ℕ) (old new : View) → SlotsSettled old
    → Step slot Q old new → ((c : Files) → new.images c → c slot ≡ new.seen slot) → SlotsSettled new
all_settled slot old new settled step own s bound c now =
    elim (cases_eq s slot) as (λ _. c s ≡ new.seen s) [
      | inl same ↦ subst (λ (j : ℕ). c j ≡ new.seen j) (sym same) (own c now)
      | inr ne ↦ let but = step.crash c now in
          but.others s ne ∙ settled s bound but.before but.was ∙ sym (step.others s ne)
    ]

pub slots_quiet : {old new : View} → IsQuiet old new → SlotsSettled old → SlotsSettled new
slots_quiet quiet settled s bound c now =
    quiet_was quiet (settled s bound) c now ∙ sym (quiet.same s)

module _ (slot : ℕ) (chk : Checkpoint) (range : IsCheckpoint chk) (old mid new : View)
    (quiet : IsQuiet old mid) (settled : SlotsSettled old) (bound : slot < slot_count) where
  pub saves : Step slot (λ bytes. (bytes ≡ mid.seen slot) ⊎ (header_of bytes ≡ None)
      ⊎ (bytes ≡ 1 ∷ body_bytes chk)) mid new → Step slot (IsWithinSave (old.seen slot) chk) old new
  saves step =
      step_more (IsWithinSave (old.seen slot) chk)
      (step_quiet (λ (b : List ℕ). b ≡ old.seen slot) quiet (settled slot bound)) step
      (λ b h. inl h)
      (λ b h. elim h as (λ _. IsWithinSave (old.seen slot) chk b) [
        | inl same ↦ inl (same ∙ quiet.same slot)
        | inr rest ↦ elim rest as (λ _. IsWithinSave (old.seen slot) chk b) [
          | inl shut ↦ inr (inl shut)
          | inr is
              ↦ inr (inr (record { in_range = range; spelled = is }))
        ]
      ])

-- one slot more is closed
pub closing : (slot : ℕ) (first old new : View) → slot < slot_count
    → ((c : Files) → old.images c → IsWithinClosing first c) → old.images old.seen
    → Step slot (IsOrClosed (old.seen slot)) old new → (c : Files)
    → IsBut slot (IsOrClosed (old.seen slot)) old c → IsWithinClosing first c
closing slot first old new bound so_far reads step c but =
    let o = so_far but.before but.was in
    let r = so_far old.seen reads in
    record {
      image = o.image;
      was = o.was;
      slots = λ s lt. elim (cases_eq s slot) as (λ _. IsOrClosed (first.seen s) (c s)) [
        | inl same ↦ subst (λ (j : ℕ). IsOrClosed (first.seen j) (c j)) (sym same)
            (elim but.this as (λ _. IsOrClosed (first.seen slot) (c slot)) [
              | inl is ↦ elim (r.slots slot bound) as (λ _. IsOrClosed (first.seen slot) (c slot))
                  [ inl was ↦ inl (is ∙ was) | inr shut ↦ inr (ap header_of is ∙ shut) ]
              | inr shut ↦ inr shut
            ])
        | inr ne ↦ subst (λ (b : List ℕ). IsOrClosed (first.seen s) b) (sym (but.others s ne))
            (o.slots s lt)
      ];
      others = λ f le. but.others f (λ same. absurd (let x : f ≡ slot = same in omega arith))
          ∙ o.others f le;
    }

pub closing_all : (slot : ℕ) (first old new : View) → slot < slot_count
    → ((c : Files) → old.images c → IsWithinClosing first c) → old.images old.seen
    → LeavesOnly first old (IsWithinClosing first) → Step slot (IsOrClosed (old.seen slot)) old new
    → LeavesOnly first new (IsWithinClosing first)
closing_all slot first old new bound so_far reads leaves step =
    joins (IsWithinClosing first) leaves step.moments
    (closing slot first old new bound so_far reads step)

pub on_ok_both : {T E P Q R : Type 0} (r : Result T E) → (P → Q → R) → OnOk r P → OnOk r Q
    → OnOk r R
on_ok_both (Ok x) f p q = f p q
on_ok_both (Err e) f p q = tt
