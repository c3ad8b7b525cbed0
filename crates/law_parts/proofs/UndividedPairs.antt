-- The undivided run goes in pairs at all places.
use Rattle.std.proofs.Common.{◌≡◌, ℕ, zero, suc, ◌+◌, ◌-◌, ◌<◌, ◌≤◌, ◌⊎◌, inl, inr, true, List, None, arith, sym, ap, ◌∙◌, subst}
use Rattle.std.proofs.lemmas.Bool.{cases_lt}
use Rattle.cx_plan.specs.Setups.{Setup}
use Rattle.cx_rule.specs.Routine.{Rule}
use Rattle.cx_model.specs.States.{scalar_of}
use Rattle.cx_flat.specs.declared.op.Op.{Op}
use Rattle.cx_flat.specs.declared.op.Op.TheVariants.{Halt}
use Rattle.cx_flat.specs.Code.{op_at, code}
use Rattle.cx_flat.specs.Flats.{Flat, flat_from, is_halt, control_after, begins_pair, ends_pair, InPairs}
use Rattle.cx_flat.proofs.AtLaws.{halt_is}
use Rattle.law_parts.specs.Runs.{Run, next_op, undivided, op_of}
use Rattle.law_parts.proofs.FlatPlaces.{undivided_is, next_pair}

first_ends : (setup : Setup) (rules : List Rule) (ops : List Op) (count : ℕ) (g : Flat)
    → InPairs setup rules ops None None count g
    → is_halt (op_at ops (flat_from setup rules ops count g).control.pc) ≡ true
    → ends_pair (op_at ops g.control.pc) ≡ None
first_ends setup rules ops zero g h halted = ap ends_pair (halt_is (op_at ops g.control.pc) halted)
first_ends setup rules ops (suc count) g h halted = h.0

module _ (r : Run) (count : ℕ)
    (paired : InPairs r.setup r.rules (code r.setup) None None count r.first)
    (halts_there : is_halt (op_at (code r.setup)
    (flat_from r.setup r.rules (code r.setup) count r.first).control.pc) ≡ true) where
  halted_from : (m n : ℕ) → count + m ≡ n → is_halt (op_of r n) ≡ true
  halted_from zero n e =
      let q : count ≡ n = omega (arith, e) in
      subst (λ k. is_halt (op_of r k) ≡ true) q
      (ap (λ g. is_halt (next_op r g.control)) (undivided_is r count) ∙ halts_there)
  halted_from (suc m) zero e = absurd (omega (arith, e))
  halted_from (suc m) (suc n) e =
      let h = halted_from m n (omega (arith, e)) in
      let o : op_of r n ≡ Halt = halt_is (op_of r n) h in
      ap (λ z. is_halt (next_op r
      (control_after r.setup z (scalar_of (undivided r n).state) (undivided r n).control))) o
      ∙ h

  behind_is : (n : ℕ) → count ≤ n → op_of r n ≡ Halt
  behind_is n l = halt_is (op_of r n) (halted_from (n - count) n (omega (arith, l)))

  pub pairs_first : ends_pair (op_of r 0) ≡ None
  pairs_first = first_ends r.setup r.rules (code r.setup) count r.first paired halts_there

  pub pairs_next : (n : ℕ) → ends_pair (op_of r (suc n)) ≡ begins_pair r.setup (op_of r n)
  pairs_next n = go (cases_lt n count)
    where
      go : (n < count) ⊎ (count ≤ n) → ends_pair (op_of r (suc n)) ≡ begins_pair r.setup (op_of r n)
      go (inl l) = next_pair r count paired halts_there n l
      go (inr l) = ap ends_pair (behind_is (suc n) (omega (arith, l)))
          ∙ sym (ap (begins_pair r.setup) (behind_is n l))
