-- The undivided run by places is the run of the flat operations.
use Rattle.std.proofs.Common.{◌≡◌, ℕ, zero, suc, ◌<◌, ◌≤◌, ◌⊎◌, inl, inr, true, List, Option, None, arith, subst, refl, sym, ap, ◌∙◌}
use Rattle.std.proofs.lemmas.Bool.{cases_lt}
use Rattle.cx_plan.specs.Setups.{Setup}
use Rattle.cx_rule.specs.Routine.{Rule}
use Rattle.cx_flat.specs.declared.op.Op.{Op}
use Rattle.cx_flat.specs.Code.{op_at, code}
use Rattle.cx_flat.specs.Flats.{Flat, stepped, flat_from, is_halt, Pair, begins_pair, ends_pair, InPairs}
use Rattle.cx_flat.proofs.RunLaws.{flat_last, pairs_at}
use Rattle.cx_flat.proofs.AtLaws.{halt_is}
use Rattle.law_parts.specs.Runs.{Run, next_op, undivided, op_of}

pub undivided_is : (r : Run) (n : ℕ)
    → undivided r n ≡ flat_from r.setup r.rules (code r.setup) n r.first
undivided_is r zero = refl
undivided_is r (suc n) =
    ap (λ g. stepped r.setup r.rules (next_op r g.control) g) (undivided_is r n)
    ∙ sym (flat_last r.setup r.rules (code r.setup) n r.first)

-- ---- operations that go together, along the undivided run

module _ (setup : Setup) (rules : List Rule) (ops : List Op) where
  pairs_last : (p q : Option Pair) (n : ℕ) (g : Flat) → InPairs setup rules ops p q (suc n) g
      → begins_pair setup (op_at ops (flat_from setup rules ops n g).control.pc) ≡ q
  pairs_last p q zero g h = h.1
  pairs_last p q (suc n) g h =
      pairs_last (begins_pair setup (op_at ops g.control.pc)) q n
      (stepped setup rules (op_at ops g.control.pc) g) h.1

op_is : (r : Run) (n : ℕ)
    → op_of r n ≡ op_at (code r.setup)
    (flat_from r.setup r.rules (code r.setup) n r.first).control.pc
op_is r n = ap (λ g. next_op r g.control) (undivided_is r n)

-- an operation ends what the one before it begins
pub next_pair : (r : Run) (count : ℕ)
    → InPairs r.setup r.rules (code r.setup) None None count r.first
    → is_halt (op_at (code r.setup)
    (flat_from r.setup r.rules (code r.setup) count r.first).control.pc) ≡ true
    → (n : ℕ) → n < count → ends_pair (op_of r (suc n)) ≡ begins_pair r.setup (op_of r n)
next_pair r count paired halts n l = go (cases_lt (suc n) count)
  where
    go : (suc n < count) ⊎ (count ≤ suc n)
        → ends_pair (op_of r (suc n)) ≡ begins_pair r.setup (op_of r n)
    go (inl m) = ap ends_pair (op_is r (suc n))
        ∙ pairs_at r.setup r.rules (code r.setup) None None n count r.first m paired
        ∙ sym (ap (begins_pair r.setup) (op_is r n))
    go (inr m) =
        let e : count ≡ suc n = omega arith in
        let h = op_is r (suc n)
        ∙ halt_is (op_at (code r.setup)
        (flat_from r.setup r.rules (code r.setup) (suc n) r.first).control.pc)
        (subst
        (λ c. is_halt (op_at (code r.setup)
        (flat_from r.setup r.rules (code r.setup) c r.first).control.pc) ≡ true) e halts) in
        ap ends_pair h
        ∙ sym (ap (begins_pair r.setup) (op_is r n)
        ∙ pairs_last r.setup r.rules (code r.setup) None None n r.first
        (subst (λ c. InPairs r.setup r.rules (code r.setup) None None c r.first) e paired))
