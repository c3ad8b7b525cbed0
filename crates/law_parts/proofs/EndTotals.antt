-- Whatever the order of events, a run in parts ends as the undivided run, and when it is done its
-- meters show what the entries say.
use Rattle.std.proofs.Common.{◌≡◌, ℕ, ◌+◌, ◌≤◌, ◌⊎◌, inl, inr, true, Option, Some, None, arith, refl, sym, ap, ◌∙◌, subst}
use Rattle.std.specs.Prelude.{if◌then◌else◌}
use Rattle.cx_rule.specs.States.{State}
use Rattle.cx_model.specs.declared.ends.End.{End}
use Rattle.cx_model.specs.declared.ends.End.TheVariants.{OutputLimit}
use Rattle.cx_model.specs.Traces.{Trace}
use Rattle.cx_flat.specs.declared.op.Op.{Op}
use Rattle.cx_flat.specs.declared.op.Op.TheVariants.{Halt}
use Rattle.cx_flat.specs.Code.{code}
use Rattle.cx_flat.specs.Flats.{flat_from, notes_at}
use Rattle.cx_flat.specs.Laws.{RunsAs}
use Rattle.cx_flat.proofs.AtLaws.{halt_is}
use Rattle.law_parts.specs.Ends.{end_at, met_of, EndsBy, EndsAt, OneEnd}
use Rattle.law_parts.specs.Laws.{EachOrder}
use Rattle.law_parts.specs.Nets.{Nearness}
use Rattle.law_parts.specs.Runs.{Run, op_of, undivided, last_of, first_from}
use Rattle.law_parts.specs.Totals.{DoneCounts}
use Rattle.law_parts.specs.Truths.{truth, ends_at, passes_limit}
use Rattle.law_parts.proofs.DoneTotals.{last_is, halted_there, counts_all}
use Rattle.law_parts.proofs.EndPlaces.{end_is, entries_at, trace_outcome}
use Rattle.law_parts.proofs.FirstLaws.{first_within, first_before, first_at}
use Rattle.law_parts.proofs.FitLaws.{some_part}
use Rattle.law_parts.proofs.WholeRun.{IsRun}

up_to : (e l c : ℕ) → e ≤ 0 + l → l ≡ c → e ≤ c
up_to e l c h same = omega (arith, h, same)

from_zero : (j : ℕ) → 0 ≤ j
from_zero j = omega arith

at_end : (P : Type 0) (e l c : ℕ) → l ≡ c → (e ≡ 0 + l) ⊎ P → (e ≡ c) ⊎ P
at_end P e l c same (inl h) = inl (omega (arith, h, same))
at_end P e l c same (inr p) = inr p

module _ (r : Run) (run : IsRun r) (trace : Trace)
    (runs : RunsAs r.setup r.rules r.first r.so_far trace) where
  abbrev last_place : ℕ
  last_place = last_of r (truth r)

  abbrev end_place : ℕ
  end_place = first_from last_place 0 (ends_at r)

  abbrev last_state : State
  last_state = (flat_from r.setup r.rules (code r.setup) runs.count r.first).state

  count_is : last_place ≡ runs.count
  count_is = last_is r run trace runs

  stands : op_of r runs.count ≡ Halt
  stands = halt_is (op_of r runs.count) (halted_there r run trace runs)

  ends_by : EndsBy (end_at r end_place) trace.outcome
  ends_by =
      subst (EndsBy (end_at r end_place))
      (sym (trace_outcome r run (some_part r run) last_state trace runs refl))
      (end_is r run (some_part r run) last_state end_place runs.count
      (up_to end_place last_place runs.count (first_within last_place 0 (ends_at r)) count_is)
      (λ j l. first_before last_place 0 j (ends_at r) (from_zero j) l)
      (at_end (ends_at r end_place ≡ true) end_place last_place runs.count count_is
      (first_at last_place 0 (ends_at r)))
      stands)

  ends_here : EndsAt r trace end_place
  ends_here = record {
    ends = ends_by;
    earlier = entries_at r run (some_part r run) last_state trace runs refl end_place
        (up_to end_place last_place runs.count (first_within last_place 0 (ends_at r)) count_is)
        (λ j l. first_before last_place 0 j (ends_at r) (from_zero j) l);
  }

  pub one_end : (Near : Nearness) → EachOrder Near r → OneEnd Near r trace
  one_end Near orders = λ events w order n over.
      subst (EndsAt r trace) (sym ((orders events w order).ended.ended n over).0) ends_here

  -- at the last place no end is met
  none_last : end_at r last_place ≡ None
  none_last = ap (λ (o : Op). if passes_limit r last_place o
      then Some (OutputLimit (undivided r last_place).control.iteration)
      else met_of (notes_at r.setup r.rules o (undivided r last_place).control
      (undivided r last_place).state)) (ap (op_of r) count_is ∙ stands)

  pub done_counts : (Near : Nearness) → EachOrder Near r → DoneCounts Near r trace
  done_counts Near orders = λ events w order over.
      let goes = subst (λ (o : Option End). EndsBy o trace.outcome) none_last
      (one_end Near orders events w order last_place over).ends in
      counts_all r run trace runs w.meter ((orders events w order).done over).meter goes.0 goes.1
