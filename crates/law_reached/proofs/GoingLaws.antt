-- A run in parts goes on until it is over, whatever its wires tell.
use Rattle.std.proofs.Common.{◌≡◌, ℕ, inl, inr, Option, Some, None, ap, ◌∙◌}
use Rattle.law_network.specs.Machine.{World, Event, Part, Write, End, Can, After, fronts, over_at}
use Rattle.law_network.specs.Agreement.{Fits}
use Rattle.law_network.proofs.Runs as runs
use Rattle.cx_model.specs.Runs.{Lengths}
use Rattle.law_parts.specs.Holding.{Held}
use Rattle.law_parts.specs.Laws.{IsReachedState}
use Rattle.law_parts.specs.Moves.{Message, Channel}
use Rattle.law_parts.specs.Nets.{net, within_lead}
use Rattle.law_parts.specs.Runs.{Run, Oracle}
use Rattle.law_parts.specs.Truths.{script, Agrees, GivesAt, Books}
use Rattle.law_parts.proofs.FitLaws.{lead_fits}
use Rattle.law_parts.proofs.WholeRun.{IsRun}
use Rattle.law_reached.specs.Going.{GoesOn, EndStands, BecomesOver, StatesGoOn}
use Rattle.law_reached.proofs.NetLaws.{one_next, next_before_end, end_last, end_stop}

not_none : {n : ℕ} {o : Option ℕ} → o ≡ None → o ≡ Some n → ⊥
not_none e f = cc

same_place : {m n : ℕ} {o : Option ℕ} → o ≡ Some n → o ≡ Some m → m ≡ n
same_place e f = cc

module _ (tells : Type 0) (r : Run) (run : IsRun r) (o : Oracle)
    (w : World Held (Message tells) Channel Lengths) (st : IsReachedState tells r o w) where
  fits : Fits (net tells within_lead r o) (script tells r o) (Agrees tells r o) (GivesAt r o)
      (Books tells r)
  fits = lead_fits tells r run o st.oracle_is.told st.oracle_is.first

  going_of : (e : Event) → Can (net tells within_lead r o) w e → w.over ≡ None
  going_of (Part k) can = can.going
  going_of (Write n) can = can.going
  going_of End can = can.going

  goes_on : GoesOn tells r o w
  goes_on = record {
    some_event = runs.some_event (net tells within_lead r o) (script tells r o) (Agrees tells r o)
        (GivesAt r o) (Books tells r) fits w st.woven;
    going = going_of;
    falls = λ e v. runs.falls (net tells within_lead r o) (script tells r o) (Agrees tells r o)
        (GivesAt r o) (Books tells r) fits w v st.woven e;
    one_work = one_next (net tells within_lead r o) w;
    work_or_end = next_before_end (net tells within_lead r o) (script tells r o) (Agrees tells r o)
        (GivesAt r o) (Books tells r) fits w st.woven;
  }

  end_stands : EndStands tells r o w
  end_stands = record {
    at_last = end_last (net tells within_lead r o) (script tells r o) (Agrees tells r o)
        (GivesAt r o) (Books tells r) fits w st.woven;
    at_stop = end_stop (net tells within_lead r o) (script tells r o) (Agrees tells r o)
        (GivesAt r o) (Books tells r) fits w st.woven;
  }

  over_stays : (k : ℕ) (v : World Held (Message tells) Channel Lengths) → w.over ≡ None
      → After (net tells within_lead r o) w (Part k) v → v.over ≡ None
  over_stays k v e (inl a) = ap (λ u. u.over) a.2 ∙ e
  over_stays k v e (inr a) = ap (λ u. u.over) a.2 ∙ e

  over_by_work : (n m : ℕ) (v : World Held (Message tells) Channel Lengths) → w.over ≡ None
      → After (net tells within_lead r o) w (Write n) v → v.over ≡ Some m
      → (m ≡ n) × (v ≡ over_at w n) × (net tells within_lead r o).Writes n (fronts w) w.book None
  over_by_work n m v e (inl a) q = absurd (not_none (ap (λ u. u.over) a.2 ∙ e) q)
  over_by_work n m v e (inr a) q = (same_place (ap (λ u. u.over) a.1) q, a.1, a.0)

  becomes_over : (v : World Held (Message tells) Channel Lengths) → BecomesOver tells r o w v
  becomes_over v = record {
    by_part = λ k can a. over_stays k v can.going a;
    by_work = λ n m can a q. over_by_work n m v can.going a q;
    by_end = λ can a. ap (λ u. u.over) a;
  }

pub states_go_on : (tells : Type 0) (r : Run) → IsRun r → StatesGoOn tells r
states_go_on tells r run = record {
  goes_on = goes_on tells r run;
  end_stands = end_stands tells r run;
  becomes_over = λ o w v st. becomes_over tells r run o w st v;
}
