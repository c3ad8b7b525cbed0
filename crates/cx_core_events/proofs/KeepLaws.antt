-- Each event leaves a state that is shown: all events but a part's operation.
use Rattle.std.proofs.Common.{◌≡◌, ℕ, zero, suc, ◌+◌, ◌-◌, ◌<◌, ◌≤◌, inl, inr, List, [], ◌∷◌, ◌++◌, length, map, drop, get_or, Some, None, refl, sym, ap, ◌∙◌, subst, arith, append-nil, append_assoc, length-append}
use Rattle.std.specs.Prelude.{slice_get}
use Rattle.std.specs.Option.{option_to_list}
use Rattle.std.proofs.lemmas.List.{length-map}
use Rattle.law_network.specs.Machine.{Event, Part, Write, End, Can, After, CanMove, IsNext, CanEnd, taken_now, fronts, end_of}
use Rattle.law_network.specs.Machine as machine
use Rattle.law_network.specs.Agreement.{Fits, Ends}
use Rattle.law_network.proofs.Runs as runs
use Rattle.cx_model.specs.Runs.{Lengths}
use Rattle.law_parts.specs.Laws.{IsReachedState}
use Rattle.law_parts.specs.Moves.{Moves}
use Rattle.law_parts.specs.Nets.{net, within_lead, WritesAt}
use Rattle.law_parts.specs.Runs.{Run, Oracle, parts_in, next_op, guided}
use Rattle.law_parts.specs.Truths.{script, Agrees, GivesAt, Books}
use Rattle.law_parts.proofs.FaultLaws.{told_ends}
use Rattle.law_parts.proofs.FitLaws.{lead_fits}
use Rattle.law_parts.proofs.WholeRun.{IsRun}
use Rattle.cx_core_events.specs.declared.standing.Standing.{Standing}
use Rattle.cx_core_events.specs.declared.standing.Work.{Work}
use Rattle.cx_core_events.specs.Paces.{Paces, no_part, part_of}
use Rattle.cx_core_events.specs.Steps.{met_by, one_less, wrote_one, over_now}
use Rattle.cx_core_events.specs.Shows.{State, ShowsPace, StandsAt, work_there, works_before}
use Rattle.cx_core_events.proofs.WorkLaws.{works_from, before_upto}
use Rattle.cx_core_events.proofs.EventLaws.{front_work, none_of, there_work, passed_handed}

pub one_less_at : (ss : List Standing) (k : ℕ) → k < length ss
    → get_or (map one_less ss) k no_part ≡ one_less (get_or ss k no_part)
one_less_at [] k l = absurd (omega (arith, l))
one_less_at (s ∷ ss) zero l = refl
one_less_at (s ∷ ss) (suc k) l = one_less_at ss k (omega (arith, l))

first_of : {A : Type 0} (xs : List A) (x : A) → slice_get xs 0 ≡ Some x → xs ≡ x ∷ drop 1 xs
first_of [] x e = absurd cc
first_of (y ∷ ys) x e = ap (λ z. z ∷ ys) (same y x e)
  where
    same : {A : Type 0} (y x : A) → Some y ≡ Some x → y ≡ x
    same y x e = cc

nothing_from : (r : Run) (oracle : Oracle) (m d : ℕ)
    → ((i : ℕ) → m ≤ i → i < m + d → work_there r oracle i ≡ None) → works_from r oracle m d ≡ []
nothing_from r oracle m zero h = refl
nothing_from r oracle m (suc d) h =
    ap (λ xs. xs ++ option_to_list (work_there r oracle (m + d)))
    (nothing_from r oracle m d (λ i a b. h i a (omega (arith, b))))
    ∙ ap option_to_list (h (m + d) (omega arith) (omega arith))

module _ (tells : Type 0) (r : Run) (run : IsRun r) (oracle : Oracle) (w : State tells) (p : Paces)
    (st : IsReachedState tells r oracle w) (sh : ShowsPace tells r oracle w p) where
  fits : Fits (net tells within_lead r oracle) (script tells r oracle) (Agrees tells r oracle)
      (GivesAt r oracle) (Books tells r)
  fits = lead_fits tells r run oracle st.oracle_is.told st.oracle_is.first

  ends : tells → Ends (net tells within_lead r oracle) (script tells r oracle)
      (Agrees tells r oracle) (Books tells r)
  ends t = told_ends tells r run oracle st.oracle_is.told t within_lead

  -- an event behind which the same numbers were foretold
  same_oracle : (v : State tells) (e : Event) → Can (net tells within_lead r oracle) w e
      → After (net tells within_lead r oracle) w e v
      → runs.Foretold (net tells within_lead r oracle) (script tells r oracle)
      (Agrees tells r oracle) (GivesAt r oracle) (Books tells r) fits w v e
      → IsReachedState tells r oracle v
  same_oracle v e can a f = record {
    oracle_is = st.oracle_is;
    woven = runs.event_kept (net tells within_lead r oracle) (script tells r oracle)
        (Agrees tells r oracle) (GivesAt r oracle) (Books tells r) fits w v st.woven e can a f;
    ended = λ t. runs.event_ended (net tells within_lead r oracle) (script tells r oracle)
        (Agrees tells r oracle) (GivesAt r oracle) (Books tells r) fits (ends t) w v st.woven
        (st.ended t) e can a;
  }

  -- ---- a part meets an end

  pub met_kept : (k : ℕ) (meter : ℕ → ℕ) → CanMove (net tells within_lead r oracle) w k
      → Moves tells r k (w.held k) (taken_now (net tells within_lead r oracle) w k)
      (next_op r (w.held k).control) None
      → IsReachedState tells r oracle (machine.met w k meter)
      × ShowsPace tells r oracle (machine.met w k meter) (met_by p k)
  met_kept k meter can move = (
    same_oracle (machine.met w k meter) (Part k) can (inr (meter, move, refl))
        (st.woven.agrees k can.part).gives,
    record {
      cut = sh.cut;
      ops = sh.ops;
      lead = sh.lead;
      count = sh.count;
      parts = sh.parts;
      over = sh.over;
      stopped = (can.part, refl);
      hind_part = sh.hind_part;
      hind_least = sh.hind_least;
      foremost = sh.foremost;
      foremost_part = sh.foremost_part;
      behind = sh.behind;
      works = sh.works;
      handed = sh.handed;
    },
  )

  -- ---- the run is over

  over_shown : (n : ℕ) → ShowsPace tells r oracle (machine.over_at w n) (over_now p)
  over_shown n = record {
    cut = sh.cut;
    ops = sh.ops;
    lead = sh.lead;
    count = sh.count;
    parts = sh.parts;
    over = refl;
    stopped = sh.stopped;
    hind_part = sh.hind_part;
    hind_least = sh.hind_least;
    foremost = sh.foremost;
    foremost_part = sh.foremost_part;
    behind = sh.behind;
    works = sh.works;
    handed = sh.handed;
  }

  pub full_kept : (n : ℕ) → IsNext (net tells within_lead r oracle) w n
      → WritesAt tells r (next_op r (guided r oracle n).control)
      (guided r oracle n).control.iteration (fronts w) w.book None
      → IsReachedState tells r oracle (machine.over_at w n)
      × ShowsPace tells r oracle (machine.over_at w n) (over_now p)
  full_kept n is full = (
    same_oracle (machine.over_at w n) (Write n) is (inr (full, refl)) tt,
    over_shown n,
  )

  pub end_kept : CanEnd (net tells within_lead r oracle) w
      → IsReachedState tells r oracle
      (machine.over_at w (end_of (net tells within_lead r oracle) w))
      × ShowsPace tells r oracle (machine.over_at w (end_of (net tells within_lead r oracle) w))
      (over_now p)
  end_kept can =
      let n = end_of (net tells within_lead r oracle) w in
      (same_oracle (machine.over_at w n) End can refl tt, over_shown n)

  -- ---- the writer's work

  -- the works before the next one
  before_next : (n : ℕ) → IsNext (net tells within_lead r oracle) w n
      → works_before r oracle n ≡ works_before r oracle w.wrote
  before_next n is =
      before_upto r oracle w.wrote n is.after_wrote
      ∙ ap (λ xs. works_before r oracle w.wrote ++ xs)
      (nothing_from r oracle w.wrote (n - w.wrote)
      (λ i a b. none_of tells r run oracle w p st sh n i is a
      (let h = is.after_wrote in omega (arith, b, h))))
      ∙ append-nil (works_before r oracle w.wrote)

  behind_next : (n : ℕ) (x : Work) → IsNext (net tells within_lead r oracle) w n
      → work_there r oracle n ≡ Some x
      → works_before r oracle (suc n) ≡ works_before r oracle w.wrote ++ x ∷ []
  behind_next n x is e = ap (λ xs. xs ++ option_to_list (work_there r oracle n)) (before_next n is)
      ∙ ap (λ o. works_before r oracle w.wrote ++ option_to_list o) e

  pub wrote_kept : (n : ℕ) (book : Lengths) → IsNext (net tells within_lead r oracle) w n
      → WritesAt tells r (next_op r (guided r oracle n).control)
      (guided r oracle n).control.iteration (fronts w) w.book (Some book)
      → IsReachedState tells r oracle (machine.wrote_at w n book)
      × ShowsPace tells r oracle (machine.wrote_at w n book) (wrote_one p)
  wrote_kept n book is made =
      let x = there_work tells r run oracle w p st sh n is.work in
      let next = behind_next n x.0 is x.1 in
      let now = first_of p.works x.0 (front_work tells r run oracle w p st sh n is ∙ x.1) in (
        same_oracle (machine.wrote_at w n book) (Write n) is (inl (book, made, refl)) tt,
        record {
          cut = sh.cut;
          ops = sh.ops;
          lead = sh.lead;
          count = length-map p.parts one_less ∙ sh.count;
          parts = λ k l.
              let e : part_of (wrote_one p) k ≡ one_less (part_of p k) =
              one_less_at p.parts k (omega (arith, l, sh.count)) in
              subst (StandsAt (w.place k) (w.held k)) (sym e)
              (record { place = (sh.parts k l).place; count = (sh.parts k l).count });
          over = sh.over;
          stopped = sh.stopped;
          hind_part = sh.hind_part;
          hind_least = sh.hind_least;
          foremost = sh.foremost;
          foremost_part = sh.foremost_part;
          behind = sh.behind;
          works = sh.works ∙ ap (λ xs. works_before r oracle w.wrote ++ xs) now
              ∙ sym (append_assoc (works_before r oracle w.wrote) (x.0 ∷ []) (drop 1 p.works))
              ∙ ap (λ xs. xs ++ drop 1 p.works) (sym next);
          handed = λ k l.
              let e : part_of (wrote_one p) k ≡ one_less (part_of p k) =
              one_less_at p.parts k (omega (arith, l, sh.count)) in
              omega (
                arith,
                sh.handed k l,
                ap (λ (s : Standing). s.handed) e,
                ap length next,
                length-append (works_before r oracle w.wrote) (x.0 ∷ []),
                some_handed k l x.0 x.1,
              );
        },
      )
    where
      some_handed : (k : ℕ) → k < parts_in r → (x : Work) → work_there r oracle n ≡ Some x
          → 0 < (part_of p k).handed
      some_handed k l x e = passed_handed tells r run oracle w p st sh n k x l is.after_wrote e
          (is.all_in k l)
