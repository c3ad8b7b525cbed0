-- A run that comes to no end has all entries that its operations note.
use Rattle.std.proofs.Common.{◌≡◌, ℕ, zero, suc, ◌<◌, false, List, [], ◌∷◌, ◌++◌, Option, Some, None, arith, refl, sym, ap, ◌∙◌, subst, append_assoc}
use Rattle.std.proofs.lemmas.List.{append-nil}
use Rattle.cx_plan.specs.Setups.{Setup}
use Rattle.cx_rule.specs.Routine.{Rule}
use Rattle.cx_rule.specs.States.{State}
use Rattle.cx_model.specs.declared.ends.End.{End}
use Rattle.cx_model.specs.Traces.{Entry, Outcome, Goes, Trace, after}
use Rattle.cx_model.specs.Courses.{Note, cut, stop_at}
use Rattle.cx_model.specs.Runs.{Lengths, lengths_after, within_limit, passing, stop_or}
use Rattle.cx_flat.specs.declared.op.Op.{Op}
use Rattle.cx_flat.specs.Code.{op_at, code}
use Rattle.cx_flat.specs.Flats.{Flat, stepped, flat_from, noted_from, notes_at, is_halt, GoesOn}
use Rattle.cx_flat.specs.Laws.{RunsAs}
use Rattle.law_parts.specs.Runs.{Run, op_of}
use Rattle.law_parts.specs.Truths.{entries_of}
use Rattle.law_parts.specs.Ends.{noted}
use Rattle.law_parts.proofs.FlatPlaces.{undivided_is}

-- no end is met
abbrev pub AllQuiet : List Note → Type 0
AllQuiet [] = Unit {0}
AllQuiet (n ∷ ns) = (n.met ≡ None) × AllQuiet ns

pub quiet_left : (a b : List Note) → AllQuiet (a ++ b) → AllQuiet a
quiet_left [] b h = tt
quiet_left (n ∷ ns) b h = (h.0, quiet_left ns b h.1)

pub quiet_right : (a b : List Note) → AllQuiet (a ++ b) → AllQuiet b
quiet_right [] b h = h
quiet_right (n ∷ ns) b h = quiet_right ns b h.1

pub entries_both : (a b : List Note) → entries_of (a ++ b) ≡ entries_of a ++ entries_of b
entries_both [] b = refl
entries_both (n ∷ ns) b = ap (λ es. n.entry ∷ es) (entries_both ns b)

-- ---- what a run that goes on has

cut_goes : (ns : List Note) (state last : State) → (cut ns state).outcome ≡ Goes last
    → AllQuiet ns × ((cut ns state).entries ≡ entries_of ns)
cut_goes [] state last e = (tt, refl)
cut_goes (n ∷ ns) state last e = go (cut_goes ns state last) n.met refl e
  where
    go : ((cut ns state).outcome ≡ Goes last
        → AllQuiet ns × ((cut ns state).entries ≡ entries_of ns)) → (o : Option End) → n.met ≡ o
        → (stop_at o (cut ns state)).outcome ≡ Goes last
        → AllQuiet (n ∷ ns) × ((cut (n ∷ ns) state).entries ≡ n.entry ∷ entries_of ns)
    go more None q h =
        let rest = more h in (
          (q, rest.0),
          ap (λ o. n.entry ∷ (stop_at o (cut ns state)).entries) q
              ∙ ap (λ es. n.entry ∷ es) rest.1,
        )
    go more (Some end) q h = absurd cc

limit_goes : (so_far : Lengths) (es : List Entry) (o : Outcome) (last : State)
    → (within_limit so_far es o).outcome ≡ Goes last
    → ((within_limit so_far es o).entries ≡ es) × (o ≡ Goes last)
limit_goes so_far [] o last e = (refl, e)
limit_goes so_far (x ∷ es) o last e =
    go (limit_goes (lengths_after so_far x) es o last) (passing so_far x) refl e
  where
    rest : Trace
    rest = within_limit (lengths_after so_far x) es o

    go : (rest.outcome ≡ Goes last → (rest.entries ≡ es) × (o ≡ Goes last)) → (p : Option ℕ)
        → passing so_far x ≡ p → (stop_or p (after (x ∷ []) rest)).outcome ≡ Goes last
        → ((stop_or (passing so_far x) (after (x ∷ []) rest)).entries ≡ x ∷ es) × (o ≡ Goes last)
    go more None q h = let m = more h in
        (ap (λ p. (stop_or p (after (x ∷ []) rest)).entries) q ∙ ap (λ l. x ∷ l) m.0, m.1)
    go more (Some iteration) q h = absurd cc

-- ---- by places

module _ (setup : Setup) (rules : List Rule) (ops : List Op) where
  noted_last : (n : ℕ) (g : Flat) → noted_from setup rules ops (suc n) g
      ≡ noted_from setup rules ops n g
      ++ notes_at setup rules (op_at ops (flat_from setup rules ops n g).control.pc)
      (flat_from setup rules ops n g).control (flat_from setup rules ops n g).state
  noted_last zero g = append-nil (notes_at setup rules (op_at ops g.control.pc) g.control g.state)
  noted_last (suc n) g =
      ap (λ ns. notes_at setup rules (op_at ops g.control.pc) g.control g.state ++ ns)
      (noted_last n (stepped setup rules (op_at ops g.control.pc) g))
      ∙ sym (append_assoc (notes_at setup rules (op_at ops g.control.pc) g.control g.state)
      (noted_from setup rules ops n (stepped setup rules (op_at ops g.control.pc) g))
      (notes_at setup rules (op_at ops (flat_from setup rules ops (suc n) g).control.pc)
      (flat_from setup rules ops (suc n) g).control
      (flat_from setup rules ops (suc n) g).state))

  goes_at : (count n : ℕ) (g : Flat) → GoesOn setup rules ops count g → n < count
      → is_halt (op_at ops (flat_from setup rules ops n g).control.pc) ≡ false
  goes_at zero n g h l = absurd (omega (arith, l))
  goes_at (suc count) zero g h l = h.0
  goes_at (suc count) (suc n) g h l =
      goes_at count n (stepped setup rules (op_at ops g.control.pc) g) h.1 (omega (arith, l))

module _ (r : Run) where
  noted_is : (n : ℕ) → noted_from r.setup r.rules (code r.setup) n r.first ≡ noted r n
  noted_is zero = refl
  noted_is (suc n) =
      noted_last r.setup r.rules (code r.setup) n r.first
      ∙ ap (λ ns. ns ++ notes_at r.setup r.rules
      (op_at (code r.setup) (flat_from r.setup r.rules (code r.setup) n r.first).control.pc)
      (flat_from r.setup r.rules (code r.setup) n r.first).control
      (flat_from r.setup r.rules (code r.setup) n r.first).state) (noted_is n)
      ∙ ap (λ (g : Flat). noted r n
      ++ notes_at r.setup r.rules (op_at (code r.setup) g.control.pc) g.control g.state)
      (sym (undivided_is r n))

  module _ (run : Trace) (runs : RunsAs r.setup r.rules r.first r.so_far run) where
    pub goes_there : (n : ℕ) → n < runs.count → is_halt (op_of r n) ≡ false
    goes_there n l = ap (λ (g : Flat). is_halt (op_at (code r.setup) g.control.pc))
        (undivided_is r n) ∙ goes_at r.setup r.rules (code r.setup)
        runs.count n r.first runs.goes_on l

    pub all_noted : (last : State) → run.outcome ≡ Goes last
        → AllQuiet (noted r runs.count) × (run.entries ≡ entries_of (noted r runs.count))
    all_noted last e =
        let ns = noted_from r.setup r.rules (code r.setup) runs.count r.first in
        let state = (flat_from r.setup r.rules (code r.setup) runs.count r.first).state in
        let limit = limit_goes r.so_far (cut ns state).entries (cut ns state).outcome last
        (sym (ap (λ (t : Trace). t.outcome) runs.run_is) ∙ e) in
        let all = cut_goes ns state last limit.1 in (
          subst AllQuiet (noted_is runs.count) all.0,
          ap (λ (t : Trace). t.entries) runs.run_is ∙ limit.0 ∙ all.1
              ∙ ap entries_of (noted_is runs.count),
        )
