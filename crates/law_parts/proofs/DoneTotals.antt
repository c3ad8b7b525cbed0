-- The meters of a run that is done show what its entries say.
use Rattle.std.proofs.Common.{◌≡◌, ℕ, zero, suc, ◌+◌, ◌<◌, ◌≤◌, ◌⊎◌, inl, inr, true, arith, refl, sym, ap, ◌∙◌}
use Rattle.std.proofs.lemmas.Bool.{cases_lt, both_ways}
use Rattle.cx_rule.specs.States.{State}
use Rattle.cx_model.specs.Traces.{Trace, Goes}
use Rattle.cx_flat.specs.Code.{op_at, code}
use Rattle.cx_flat.specs.Flats.{Flat, is_halt, ends_pair}
use Rattle.cx_flat.specs.Laws.{RunsAs}
use Rattle.cx_flat.proofs.AtLaws.{halt_is}
use Rattle.law_network.specs.Machine.{sum_below}
use Rattle.law_network.specs.Agreement.{Fits}
use Rattle.law_parts.specs.Nets.{net, costs, within_lead}
use Rattle.law_parts.specs.Runs.{Run, cut_of, parts_in, next_op, op_of, guided, last_of}
use Rattle.law_parts.specs.Totals.{CountsAll}
use Rattle.law_parts.specs.Truths.{truth, script, entries_of, Agrees, GivesAt, Books}
use Rattle.law_parts.specs.Work.{work, carried_count}
use Rattle.law_parts.proofs.FitLaws.{lead_fits}
use Rattle.law_parts.proofs.FlatPlaces.{undivided_is}
use Rattle.law_parts.proofs.PlaceTotals.{points_before, values_before, done_count}
use Rattle.law_parts.proofs.ToldLaws.{is_truth}
use Rattle.law_parts.proofs.TraceTotals.{goes_there, all_noted}
use Rattle.law_parts.specs.Ends.{noted}
use Rattle.law_parts.proofs.TruthLaws.{guided_truth}
use Rattle.law_parts.proofs.WholeRun.{IsRun, all_folds}

below_is : (n : ℕ) (f g : ℕ → ℕ) → ((i : ℕ) → f i ≡ g i) → sum_below n f ≡ sum_below n g
below_is zero f g h = refl
below_is (suc n) f g h = rw (below_is n f g h, h n) refl

same_number : (a b : ℕ) → (a < b → ⊥) → (b < a → ⊥) → a ≡ b
same_number a b f g = go (cases_lt a b) (cases_lt b a)
  where
    go : (a < b) ⊎ (b ≤ a) → (b < a) ⊎ (a ≤ b) → a ≡ b
    go (inl l) c = absurd (f l)
    go (inr l) (inl m) = absurd (g m)
    go (inr l) (inr m) = omega (arith, l, m)

no_values : (a : ℕ) → a + 0 ≡ a
no_values a = omega arith

module _ (r : Run) (run : IsRun r) (trace : Trace)
    (runs : RunsAs r.setup r.rules r.first r.so_far trace) where
  fits : Fits (net (Unit {0}) within_lead r (truth r)) (script (Unit {0}) r (truth r))
      (Agrees (Unit {0}) r (truth r)) (GivesAt r (truth r)) (Books (Unit {0}) r)
  fits = lead_fits (Unit {0}) r run (truth r) (is_truth r run) (λ k l. refl)

  op_is : (n : ℕ) → next_op r (guided r (truth r) n).control ≡ op_of r n
  op_is n = ap (λ (g : Flat). next_op r g.control) (guided_truth r (all_folds r run) n)

  pub halted_there : is_halt (op_of r runs.count) ≡ true
  halted_there = ap (λ (g : Flat). is_halt (op_at (code r.setup) g.control.pc))
      (undivided_is r runs.count) ∙ runs.halts

  -- the last place is that behind all operations
  pub last_is : last_of r (truth r) ≡ runs.count
  last_is = same_number (last_of r (truth r)) runs.count
      (λ l. both_ways (is_halt (op_of r (last_of r (truth r))))
      (goes_there r trace runs (last_of r (truth r)) l)
      (ap is_halt (sym (op_is (last_of r (truth r)))) ∙ fits.halted))
      (λ l. both_ways (is_halt (op_of r runs.count))
      (ap is_halt (sym (op_is runs.count)) ∙ fits.goes_on runs.count l) halted_there)

  meter_is : (i : ℕ) → sum_below (last_of r (truth r))
      (λ n. sum_below (parts_in r) (λ k. costs r i k (next_op r (guided r (truth r) n).control)))
      ≡ sum_below runs.count (λ n. sum_below (parts_in r) (λ k. costs r i k (op_of r n)))
  meter_is i =
      below_is (last_of r (truth r)) _ (λ n. sum_below (parts_in r) (λ k. costs r i k (op_of r n)))
      (λ n. below_is (parts_in r) _ (λ k. costs r i k (op_of r n))
      (λ k. ap (costs r i k) (op_is n)))
      ∙ ap (λ m. sum_below m (λ n. sum_below (parts_in r) (λ k. costs r i k (op_of r n)))) last_is

  pub counts_all : (meter : ℕ → ℕ)
      → ((i : ℕ) → meter i ≡ sum_below (last_of r (truth r))
      (λ n. sum_below (parts_in r) (λ k. costs r i k (next_op r (guided r (truth r) n).control))))
      → (state : State) → trace.outcome ≡ Goes state
      → CountsAll r.setup (cut_of r) trace.entries meter
  counts_all meter h state e =
      let all = all_noted r trace runs state e in
      record {
        points = h 0 ∙ meter_is 0 ∙ points_before r run runs.count all.0
            ∙ ap (work r.setup (cut_of r)) (sym all.1);
        received = h 1 ∙ meter_is 1 ∙ values_before r run runs.count
            ∙ ap (λ o. carried_count r.setup (cut_of r) (entries_of (noted r runs.count))
            + done_count r (ends_pair o)) (halt_is (op_of r runs.count) halted_there)
            ∙ no_values (carried_count r.setup (cut_of r) (entries_of (noted r runs.count)))
            ∙ ap (carried_count r.setup (cut_of r)) (sym all.1);
      }
