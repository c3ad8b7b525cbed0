-- What a crash leaves while a slot is closed, filled and opened.
use Rattle.std.proofs.Common.{◌≡◌, inl, inr, ℕ, List, [], ◌∷◌, sym, ◌∙◌, ap, subst}
use Rattle.std.specs.Prelude.{Some, None}
use Rattle.cx_disk.specs.Disk.{Files, View, Torn, CutShort}
use Rattle.cx_disk.specs.Moments.{IsQuiet, Stepped}
use Rattle.cx_chk.specs.Slots.{header_of, IsOrClosed, IsShut}
use Rattle.cx_chk.specs.Steps.{Step}
use Rattle.cx_chk.proofs.StepLaws.{quiet_was, step_stepped, step_more, step_quiet}
use Rattle.cx_chk.proofs.Bytes.{open_shape, shut_closed, torn_gate, torn_first, cut_closed, cut_shut, torn_body}

module _ (slot : ℕ) (old mid : View) (quiet : IsQuiet old mid)
    (settled : (c : Files) → old.images c → c slot ≡ old.seen slot) where
  abbrev Was : List ℕ → Type 0
  Was bytes = bytes ≡ old.seen slot

  -- the gate of an open slot is written over
  pub gate_down : (new : View) (n : ℕ) → header_of (old.seen slot) ≡ Some n
      → Stepped (Torn 0 1) slot mid new → Step slot (IsOrClosed (old.seen slot)) old new
  gate_down new n is stepped =
      let shape = open_shape (old.seen slot) n is in
      let torn : (d c : Files) → mid.images d → Torn 0 1 (d slot) (c slot)
      → IsOrClosed (old.seen slot) (c slot) = λ d c now t.
      subst (λ (b : List ℕ). IsOrClosed b (c slot)) (sym shape.1)
      (torn_gate 1 shape.0 (c slot)
      (subst (λ (b : List ℕ). Torn 0 1 b (c slot)) (quiet_was quiet settled d now ∙ shape.1) t))
      in
      step_more (IsOrClosed (old.seen slot)) (step_quiet Was quiet settled)
      (step_stepped (IsOrClosed (old.seen slot)) stepped torn) (λ b h. inl h) (λ b h. h)

  -- a closed slot is cut to nothing
  pub emptied : (new : View) → header_of (old.seen slot) ≡ None → Stepped (CutShort 0) slot mid new
      → Step slot (IsOrClosed (old.seen slot)) old new
  emptied new is stepped =
      step_more (IsOrClosed (old.seen slot)) (step_quiet Was quiet settled)
      (step_stepped (IsOrClosed (old.seen slot)) stepped
      (λ d c now cut. inr (cut_closed 0 (d slot) (c slot)
      (ap header_of (quiet_was quiet settled d now) ∙ is) cut)))
      (λ b h. inl h) (λ b h. h)

-- a slot whose gate is down, on the disk, is cut
pub cut_behind : (slot : ℕ) (was : List ℕ) (old mid new : View) (rest : List ℕ)
    → Step slot (IsOrClosed was) old mid → ((c : Files) → mid.images c → c slot ≡ 0 ∷ rest)
    → Stepped (CutShort 1) slot mid new → Step slot (IsOrClosed was) old new
cut_behind slot was old mid new rest first settled stepped =
    step_more (IsOrClosed was) first
    (step_stepped (λ (b : List ℕ). header_of b ≡ None) stepped
    (λ d c now cut. shut_closed (c slot)
    (cut_shut rest (c slot)
    (subst (λ (b : List ℕ). CutShort 1 b (c slot)) (settled d now) cut))))
    (λ b h. h) (λ b h. inr h)

-- an empty slot gets its gate
pub gate_first : (slot : ℕ) (was : List ℕ) (old mid new : View) → Step slot (IsOrClosed was) old mid
    → ((c : Files) → mid.images c → c slot ≡ []) → Stepped (Torn 0 1) slot mid new
    → Step slot (IsOrClosed was) old new
gate_first slot was old mid new first settled stepped =
    step_more (IsOrClosed was) first
    (step_stepped (λ (b : List ℕ). header_of b ≡ None) stepped
    (λ d c now torn. torn_first (c slot)
    (subst (λ (b : List ℕ). Torn 0 1 b (c slot)) (settled d now) torn)))
    (λ b h. h) (λ b h. inr h)

-- a body is written behind a shut gate
pub filled : (slot n : ℕ) (old new : View) → ((c : Files) → old.images c → IsShut (c slot))
    → Stepped (Torn 1 n) slot old new → Step slot (λ b. header_of b ≡ None) old new
filled slot n old new shut stepped =
    step_stepped (λ (b : List ℕ). header_of b ≡ None) stepped (λ d c now torn.
    let s = shut d now in shut_closed (c slot)
    (torn_body n s.0 (c slot) (subst (λ (b : List ℕ). Torn 1 n b (c slot)) s.1 torn)))

-- the gate is opened
pub opened : (slot : ℕ) (body : List ℕ) (old new : View)
    → ((c : Files) → old.images c → c slot ≡ 0 ∷ body) → Stepped (Torn 0 1) slot old new
    → Step slot (IsOrClosed (1 ∷ body)) old new
opened slot body old new settled stepped =
    step_stepped (IsOrClosed (1 ∷ body)) stepped
    (λ d c now torn. torn_gate 0 body (c slot)
    (subst (λ (b : List ℕ). Torn 0 1 b (c slot)) (settled d now) torn))
