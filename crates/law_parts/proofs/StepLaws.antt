-- Each event keeps what holds in a state that is reached, whatever wires tell.
use Rattle.std.proofs.Common.{◌≡◌, ℕ, inl, inr, refl, sym, ap, ◌∙◌, subst}
use Rattle.std.proofs.Math.Path.{fun_ext}
use Rattle.law_network.specs.Machine.{World, Event, Part, Write, End, Can, After, IsWork}
use Rattle.law_network.specs.Agreement.{Fits, Ends, Woven, Ended}
use Rattle.law_network.proofs.Runs as runs
use Rattle.cx_model.specs.Runs.{Lengths}
use Rattle.law_parts.specs.Holding.{Held}
use Rattle.law_parts.specs.Laws.{IsOracle, IsReachedState, StepsKeep}
use Rattle.law_parts.specs.Moves.{Message, Channel, buffer_of}
use Rattle.law_parts.specs.Nets.{net, within_lead}
use Rattle.law_parts.specs.Runs.{Run, Oracle, next_op, guided, halts, first_from, last_of}
use Rattle.law_parts.specs.Truths.{truth, script, ends_at, Agrees, GivesAt, Books}
use Rattle.law_parts.proofs.FaultLaws.{told_ends}
use Rattle.law_parts.proofs.FitLaws.{lead_fits}
use Rattle.law_parts.proofs.MoveLaws.{same}
use Rattle.law_parts.proofs.OracleSteps.{part_kept}
use Rattle.law_parts.proofs.WholeRun.{IsRun}

module _ (tells : Type 0) (r : Run) (run : IsRun r) where
  fits : (o : Oracle) → IsOracle tells r o
      → Fits (net tells within_lead r o) (script tells r o) (Agrees tells r o) (GivesAt r o)
      (Books tells r)
  fits o h = lead_fits tells r run o h.told h.first

  ends : (o : Oracle) → IsOracle tells r o → tells
      → Ends (net tells within_lead r o) (script tells r o) (Agrees tells r o) (Books tells r)
  ends o h t = told_ends tells r run o h.told t within_lead

  -- oracles that tell the truth have one way
  module _ (o other : Oracle) (is : IsOracle tells r o) (others : IsOracle tells r other)
      (t : tells) where
    way_same : (n : ℕ) → (guided r o n).control ≡ (guided r other n).control
    way_same n = ap (λ g. g.control)
        (same tells r run o is.told t n ∙ sym (same tells r run other others.told t n))

    last_same : last_of r o ≡ last_of r other
    last_same = ap (first_from r.most 0) (fun_ext (λ n. ap (halts r) (way_same n)))

    work_same : (n : ℕ) → IsWork (net tells within_lead r other) n
        → IsWork (net tells within_lead r o) n
    work_same n w = (w.0, ap (λ c. buffer_of r (next_op r c)) (way_same n) ∙ w.1)

    pub ended_other : (v : World Held (Message tells) Channel Lengths)
        → Ended (net tells within_lead r o) (script tells r o) v
        → Ended (net tells within_lead r other) (script tells r other) v
    ended_other v e = record {
      passed = e.passed;
      cause = e.cause;
      fitting = λ n l w. e.fitting n l (work_same n w);
      ended = λ n q.
          let x = e.ended n q in (
            x.0 ∙ ap (λ m. first_from m 0 (ends_at r)) last_same,
            (λ m l w. x.1 m l (work_same m w)),
            (λ z k l. x.2 (z ∙ sym last_same) k l ∙ last_same),
          );
    }

  module _ (o : Oracle) (w v : World Held (Message tells) Channel Lengths)
      (st : IsReachedState tells r o w) where
    -- an event behind which the same numbers were foretold
    same_oracle : (e : Event) → Can (net tells within_lead r o) w e
        → (a : After (net tells within_lead r o) w e v)
        → runs.Foretold (net tells within_lead r o) (script tells r o) (Agrees tells r o)
        (GivesAt r o) (Books tells r) (fits o st.oracle_is) w v e → IsReachedState tells r o v
    same_oracle e can a f = record {
      oracle_is = st.oracle_is;
      woven = runs.event_kept (net tells within_lead r o) (script tells r o) (Agrees tells r o)
          (GivesAt r o) (Books tells r) (fits o st.oracle_is) w v st.woven e can a f;
      ended = λ t. runs.event_ended (net tells within_lead r o) (script tells r o)
          (Agrees tells r o) (GivesAt r o) (Books tells r) (fits o st.oracle_is)
          (ends o st.oracle_is t) w v st.woven (st.ended t) e can a;
    }

    step : (e : Event) → Can (net tells within_lead r o) w e
        → After (net tells within_lead r o) w e v
        → (other : Oracle) × IsReachedState tells r other v
    step (Part k) can (inl a) =
        let kept = part_kept tells r run o st.oracle_is w st.woven k can a.0 a.1 in (
          kept.0,
          record {
            oracle_is = kept.1;
            woven =
                subst (Woven (net tells within_lead r kept.0) (script tells r kept.0)
                (Agrees tells r kept.0) (Books tells r)) (sym a.2) kept.2;
            ended = λ t. ended_other o kept.0 st.oracle_is kept.1 t v
                (runs.event_ended (net tells within_lead r o) (script tells r o) (Agrees tells r o)
                (GivesAt r o) (Books tells r) (fits o st.oracle_is) (ends o st.oracle_is t)
                w v st.woven (st.ended t) (Part k) can (inl a));
          },
        )
    step (Part k) can (inr a) = (
      o,
      same_oracle (Part k) can (inr a)
          (subst (λ (u : World Held (Message tells) Channel Lengths).
          GivesAt r o k (u.place k) (u.held k)) (sym a.2) (st.woven.agrees k can.part).gives),
    )
    step (Write n) can a = (o, same_oracle (Write n) can a tt)
    step End can a = (o, same_oracle End can a tt)

  is_truth : IsOracle tells r (truth r)
  is_truth = record { told = λ t k n l. refl; first = λ k l. refl }

  pub steps_keep : StepsKeep tells r
  steps_keep = record {
    begins = record {
      oracle_is = is_truth;
      woven = runs.begun_woven (net tells within_lead r (truth r)) (script tells r (truth r))
          (Agrees tells r (truth r)) (GivesAt r (truth r)) (Books tells r)
          (fits (truth r) is_truth);
      ended = λ t. runs.begun_ended (net tells within_lead r (truth r)) (script tells r (truth r))
          (Agrees tells r (truth r)) (GivesAt r (truth r)) (Books tells r) (fits (truth r) is_truth)
          (ends (truth r) is_truth t);
    };
    keeps = λ o w v e st can a. step o w v st e can a;
  }
