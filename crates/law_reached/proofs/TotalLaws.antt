-- Where wires tell, a run in parts that is done has counted and taken what the undivided run's
-- entries say.
use Rattle.std.proofs.Common.{◌≡◌, ℕ, zero, suc, ◌+◌, ◌<◌, Bool, true, false, List, [], ◌++◌, Some, arith, refl, sym, ap, ◌∙◌, cond}
use Rattle.std.proofs.lemmas.List.{append_cancel_left, nil_from_length}
use Rattle.std.proofs.lemmas.Bool.{and_from, lt-ltb}
use Rattle.cx_rule.specs.States.{State}
use Rattle.cx_model.specs.Traces.{Trace, Goes}
use Rattle.cx_model.specs.Turns.{values_of}
use Rattle.cx_flat.specs.declared.op.Op.TheVariants.{Halt}
use Rattle.cx_flat.specs.Flats.{Flat, ends_pair}
use Rattle.cx_flat.specs.Laws.{RunsAs}
use Rattle.cx_flat.proofs.AtLaws.{halt_is}
use Rattle.law_network.specs.Machine.{World, sum_below}
use Rattle.law_network.specs.Agreement.{Script, posted, taken, takes}
use Rattle.law_network.proofs.Put as put
use Rattle.law_network.proofs.Runs as runs_of
use Rattle.cx_model.specs.Runs.{Lengths}
use Rattle.law_parts.specs.Ends.{noted}
use Rattle.law_parts.specs.Holding.{Held}
use Rattle.law_parts.specs.Laws.{IsReachedState}
use Rattle.law_parts.specs.Moves.{Message, Channel, Wire, Board, sender, receiver, is_there, op_wants, op_posts, faces_by}
use Rattle.law_parts.specs.Nets.{net, within_lead, costs, values_sum, taken_sum}
use Rattle.law_parts.specs.Runs.{Run, Oracle, cut_of, parts_in, next_op, undivided, op_of, guided, last_of}
use Rattle.law_parts.specs.Totals.{CountsAll}
use Rattle.law_parts.specs.Truths.{truth, script, mail_at, entries_of, Agrees, GivesAt, Books}
use Rattle.law_parts.specs.Work.{total_sum}
use Rattle.law_parts.proofs.CountLaws.{sum_same, sum_add, sum_none}
use Rattle.law_parts.proofs.DoneTotals.{counts_all, halted_there}
use Rattle.law_parts.proofs.TraceTotals.{all_noted}
use Rattle.law_parts.proofs.TruthLaws.{guided_truth}
use Rattle.law_parts.proofs.WholeRun.{IsRun, all_folds, names_at, first_pair, next_pairs}
use Rattle.law_reached.specs.Sums.{TotalsMatch, DoneMatches}
use Rattle.law_reached.proofs.EndLaws.{ends_as_run}
use Rattle.law_reached.proofs.SentSums.{pair_sum, done_sum, op_sent, sum_before}
use Rattle.law_reached.proofs.TakenLaws.{values_both, taken_next}
use Rattle.law_reached.proofs.TellLaws.{fits, ends, way, last_true, count_is}

-- what was posted last is taken by nobody: where that is nothing, nothing is left
none_left : {M C : Type 0} (S : Script M C) (c : C) (q : List M) (last : ℕ)
    → posted S c last ≡ taken S c last ++ q → ((m : ℕ) → last ≡ suc m → S.mail c m ≡ []) → q ≡ []
none_left S c q zero e none = sym e
none_left S c q (suc m) e none =
    sym (append_cancel_left (posted S c m) (S.mail c m) q e) ∙ none m refl

no_wants : (b : Bool) → ◌≡◌ {A = ℕ} (cond b 0 0) 0
no_wants true = refl
no_wants false = refl

plus_nothing : (a b c : ℕ) → a ≡ b + c → c ≡ 0 → a ≡ b
plus_nothing a b c h e = omega (arith, h, e)

module _ (tells : Type 0) (r : Run) (run : IsRun r) (trace : Trace)
    (runs : RunsAs r.setup r.rules r.first r.so_far trace)
    (o : Oracle) (w : World Held (Message tells) Channel Lengths) (st : IsReachedState tells r o w)
    (t : tells) (over : w.over ≡ Some (last_of r o)) where
  all_at : (k : ℕ) → k < parts_in r → w.place k ≡ last_of r o
  all_at k l = ((st.ended t).ended (last_of r o) over).2 refl k l

  goes : (state : State) × (trace.outcome ≡ Goes state)
  goes = (ends_as_run tells r run trace runs o w st t (last_of r o) over).last refl

  same_control : (n : ℕ) → guided r o n ≡ guided r (truth r) n
  same_control n = way tells r run o st.oracle_is t n ∙ sym (guided_truth r (all_folds r run) n)

  -- ---- counts

  meter_is : (i : ℕ) → w.meter i
      ≡ sum_below (last_of r (truth r))
      (λ n. sum_below (parts_in r) (λ k. costs r i k (next_op r (guided r (truth r) n).control)))
  meter_is i =
      runs_of.done_meter (net tells within_lead r o) (script tells r o) (Agrees tells r o)
      (GivesAt r o) (Books tells r) (fits tells r run o st.oracle_is t) w st.woven
      (ends tells r run o st.oracle_is t) (st.ended t) over i
      ∙ ap (λ m. sum_below m (λ n.
      sum_below (parts_in r) (λ k. costs r i k (next_op r (guided r o n).control))))
      (last_true tells r run o st.oracle_is t)
      ∙ put.sum_same (last_of r (truth r))
      (λ n. sum_below (parts_in r) (λ k. costs r i k (next_op r (guided r o n).control)))
      (λ n. sum_below (parts_in r)
      (λ k. costs r i k (next_op r (guided r (truth r) n).control)))
      (λ n l. put.sum_same (parts_in r) (λ k. costs r i k (next_op r (guided r o n).control))
      (λ k. costs r i k (next_op r (guided r (truth r) n).control))
      (λ k q. ap (λ (g : Flat). costs r i k (next_op r g.control)) (same_control n)))

  counts : CountsAll r.setup (cut_of r) trace.entries w.meter
  counts = counts_all r run trace runs w.meter meter_is goes.0 goes.1

  -- ---- messages

  last_halts : next_op r (guided r o (last_of r o)).control ≡ Halt
  last_halts = halt_is (next_op r (guided r o (last_of r o)).control)
      (fits tells r run o st.oracle_is t).halted

  wants_none : (c : Channel) → cond (is_there r c) (op_wants r Halt c) 0 ≡ 0
  wants_none (Wire a b) = no_wants (is_there r (Wire a b))
  wants_none (Board a b) = no_wants (is_there r (Board a b))

  last_quiet : (c : Channel) (m : ℕ) → last_of r o ≡ suc m → mail_at tells r o c m ≡ []
  last_quiet c m e =
      nil_from_length (mail_at tells r o c m)
      (sym ((fits tells r run o st.oracle_is t).pairs c m)
      ∙ ap (λ n. cond (is_there r c) (op_wants r (next_op r (guided r o n).control) c) 0) (sym e)
      ∙ ap (λ q. cond (is_there r c) (op_wants r q c) 0) last_halts ∙ wants_none c)

  no_message : (c : Channel) → sender c < parts_in r → receiver c < parts_in r → w.queue c ≡ []
  no_message c a b =
      none_left (script tells r o) c (w.queue c) (last_of r o)
      (runs_of.done_queues (net tells within_lead r o) (script tells r o) (Agrees tells r o)
      (GivesAt r o) (Books tells r) (fits tells r run o st.oracle_is t) w st.woven (st.ended t)
      over c a b)
      (last_quiet c)

  -- ---- the sum

  -- what was taken of all wires before a place, and what the operation there takes
  abbrev sum_at : ℕ → ℕ
  sum_at n = sum_below (parts_in r)
      (λ a. sum_below (parts_in r) (λ b. values_sum t (taken (script tells r o) (Wire a b) n)))

  abbrev step_at : ℕ → ℕ
  step_at n = sum_below (parts_in r)
      (λ a. sum_below (parts_in r) (λ b. values_sum t (takes (script tells r o) (Wire a b) n)))

  nothing : sum_below (parts_in r) (λ a. sum_below (parts_in r) (λ b. 0)) ≡ 0
  nothing = sum_same (parts_in r) _ _ (λ a l. sum_none (parts_in r)) ∙ sum_none (parts_in r)

  sum_next : (n : ℕ) → sum_at (suc n) ≡ sum_at n + step_at n
  sum_next n =
      sum_same (parts_in r) _ _ (λ a l.
      sum_same (parts_in r) _ _ (λ b k.
      ap (values_sum t) (taken_next (script tells r o) (Wire a b) n)
      ∙ values_both t (taken (script tells r o) (Wire a b) n)
      (takes (script tells r o) (Wire a b) n))
      ∙ sum_add (parts_in r) (λ b. values_sum t (taken (script tells r o) (Wire a b) n))
      (λ b. values_sum t (takes (script tells r o) (Wire a b) n)))
      ∙ sum_add (parts_in r) (λ a.
      sum_below (parts_in r) (λ b. values_sum t (taken (script tells r o) (Wire a b) n)))
      (λ a. sum_below (parts_in r) (λ b. values_sum t (takes (script tells r o) (Wire a b) n)))

  mail_is : (a b m : ℕ) → a < parts_in r → b < parts_in r
      → mail_at tells r o (Wire a b) m
      ≡ op_posts r (op_of r m) m
      (faces_by {tells = tells} r a (values_of r.setup (undivided r m).state)) (λ i. o a m)
      (Wire a b)
  mail_is a b m l k =
      ap (λ (x : Bool). cond x
      (op_posts r (next_op r (guided r o m).control) m
      (faces_by {tells = tells} r a (values_of r.setup (undivided r m).state)) (λ i. o a m)
      (Wire a b)) [])
      (and_from _ _ (lt-ltb a (parts_in r) l) (lt-ltb b (parts_in r) k))
      ∙ ap (λ (g : Flat). op_posts r (next_op r g.control) m
      (faces_by {tells = tells} r a (values_of r.setup (undivided r m).state)) (λ i. o a m)
      (Wire a b)) (way tells r run o st.oracle_is t m)

  step_is : (n : ℕ) → step_at n ≡ pair_sum r (undivided r n).state (ends_pair (op_of r n))
  step_is zero = nothing ∙ ap (pair_sum r (undivided r 0).state) (sym (first_pair r run))
  step_is (suc m) =
      sum_same (parts_in r) _ _
      (λ a l. sum_same (parts_in r) _ _ (λ b k. ap (values_sum t) (mail_is a b m l k)))
      ∙ op_sent tells t r run (undivided r m).state m (op_of r m) (undivided r m).control.iteration
      (λ a i. o a m) (names_at r run (undivided r m).control.pc)
      ∙ ap (pair_sum r (undivided r (suc m)).state) (sym (next_pairs r run m))

  sum : taken_sum t r o w ≡ total_sum r.setup (cut_of r) trace.entries
  sum =
      sum_same (parts_in r) _ _
      (λ a l. sum_same (parts_in r) _ _
      (λ b k. ap (λ n. values_sum t (taken (script tells r o) (Wire a b) n))
      (all_at b k ∙ count_is tells r run o st.oracle_is t trace runs)))
      ∙ plus_nothing (sum_at runs.count)
      (total_sum r.setup (cut_of r) (entries_of (noted r runs.count)))
      (done_sum r (undivided r runs.count).state (ends_pair (op_of r runs.count)))
      (sum_before r run sum_at nothing step_at sum_next step_is runs.count)
      (ap (λ q. done_sum r (undivided r runs.count).state (ends_pair q))
      (halt_is (op_of r runs.count) (halted_there r run trace runs)))
      ∙ ap (total_sum r.setup (cut_of r)) (sym (all_noted r trace runs goes.0 goes.1).1)

  pub totals_match : TotalsMatch t r trace o w
  totals_match = record {
    counts = counts;
    sum = sum;
    wires = λ a b l k. no_message (Wire a b) l k;
    boards = λ a b l k. no_message (Board a b) l k;
  }

pub done_matches : (tells : Type 0) (r : Run) → IsRun r → (trace : Trace)
    → RunsAs r.setup r.rules r.first r.so_far trace → DoneMatches tells r trace
done_matches tells r run trace runs t o w st over =
    totals_match tells r run trace runs o w st t over
