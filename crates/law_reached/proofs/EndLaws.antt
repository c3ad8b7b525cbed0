-- Where wires tell, a run in parts ends as the undivided run, with all its works handed out.
use Rattle.std.proofs.Common.{◌≡◌, ℕ, zero, suc, ◌+◌, ◌-◌, ◌<◌, ◌≤◌, ◌⊎◌, inl, inr, Bool, true, false, ◌||◌, List, [], ◌++◌, Option, Some, None, is_some, arith, append_assoc, refl, sym, ap, ◌∙◌, subst}
use Rattle.std.specs.Prelude.{if◌then◌else◌}
use Rattle.std.specs.List.{list_any, range_with_len}
use Rattle.std.proofs.lemmas.Bool.{cases_lt, both_ways, or_parts}
use Rattle.std.proofs.lemmas.List.{append-nil}
use Rattle.cx_plan.specs.declared.variable.VarId.{VarId}
use Rattle.cx_plan.specs.Lookups.{is_scalar}
use Rattle.cx_rule.specs.States.{State, scalar_of}
use Rattle.cx_model.specs.declared.ends.End.{End}
use Rattle.cx_model.specs.declared.ends.End.TheVariants.{OutputLimit}
use Rattle.cx_model.specs.Courses.{Note}
use Rattle.cx_model.specs.Traces.{Entry, Goes, Trace, after}
use Rattle.cx_flat.specs.declared.op.Op.{Op}
use Rattle.cx_flat.specs.declared.op.Op.TheVariants.{Halt}
use Rattle.cx_flat.specs.Code.{code}
use Rattle.cx_flat.specs.Flats.{Flat, flat_from, noted_from, notes_at}
use Rattle.cx_flat.specs.Laws.{RunsAs}
use Rattle.cx_flat.proofs.AtLaws.{halt_is}
use Rattle.law_network.specs.Machine.{World}
use Rattle.cx_model.specs.Runs.{Lengths}
use Rattle.law_parts.specs.Ends.{noted, met_of, end_at, EndsBy, EndsAt}
use Rattle.law_parts.specs.Holding.{Held}
use Rattle.law_parts.specs.Laws.{IsReachedState}
use Rattle.law_parts.specs.Moves.{Message, Channel}
use Rattle.law_parts.specs.Runs.{Run, Oracle, parts_in, undivided, op_of, notes_of, last_of}
use Rattle.law_parts.specs.Truths.{entries_of, is_faulty, lengths_before, passes_limit, is_full, ends_at}
use Rattle.law_parts.proofs.DoneTotals.{halted_there}
use Rattle.law_parts.proofs.EndNotes.{OneNote, trace_from, trace_through, met_some, met_none, fits_one, op_one, by_length}
use Rattle.law_parts.proofs.EndPlaces.{end_is, entries_at, trace_outcome}
use Rattle.law_parts.proofs.EndTiles.{tiles_meet}
use Rattle.law_parts.proofs.FirstLaws.{first_at}
use Rattle.law_parts.proofs.FitLaws.{some_part}
use Rattle.law_parts.proofs.FlatPlaces.{undivided_is}
use Rattle.law_parts.proofs.TraceTotals.{entries_both}
use Rattle.law_parts.proofs.WholeRun.{IsRun, names_at}
use Rattle.law_reached.specs.Endings.{end_met_by, EndsAsRun, EndIsTheRuns}
use Rattle.law_reached.specs.Works.{works_of, handed_out}
use Rattle.law_reached.proofs.EndNotes.{met_is, full_is, full_rest, met_rest}
use Rattle.law_reached.proofs.SilentWorks.{works_both, works_before}
use Rattle.law_reached.proofs.TellLaws.{way, count_is, end_place, before_end, end_within, wrote_before}
use Rattle.law_reached.proofs.WorksLaws.{works_upto}

at_end : (P : Type 0) (e l c : ℕ) → l ≡ c → (e ≡ 0 + l) ⊎ P → (e ≡ c) ⊎ P
at_end P e l c q (inl h) = inl (omega (arith, h, q))
at_end P e l c q (inr p) = inr p

left_true : (a b : Bool) → (a || b) ≡ true → b ≡ false → a ≡ true
left_true true b e f = refl
left_true false b e f = absurd (both_ways b f e)

same_some : {a b : End} → Some a ≡ Some b → a ≡ b
same_some e = cc

same_goes : {a b : State} → Goes a ≡ Goes b → a ≡ b
same_goes e = cc

-- ---- the undivided run by places

module _ (r : Run) (run : IsRun r) where
  some_fault : ℕ → Bool
  some_fault n = list_any (λ k. is_faulty r k (op_of r n) (undivided r n))
      (range_with_len 0 (parts_in r))

  meets : (n : ℕ) → list_any (λ k. is_faulty r k (op_of r n) (undivided r n))
      (range_with_len 0 (parts_in r)) ≡ is_some (met_of (notes_of r n))
  meets n = tiles_meet r run (some_part r run) (op_of r n) (undivided r n)
      (names_at r run (undivided r n).control.pc)

  one_there : (n : ℕ) → is_full r n ≡ false → OneNote r (lengths_before r n) (notes_of r n)
  one_there n h = op_one r (op_of r n) (undivided r n).control (undivided r n).state
      (lengths_before r n) (sym (by_length r n (op_of r n)) ∙ h)

  end_there : (n : ℕ) → ends_at r n ≡ true → is_full r n ≡ false
      → (end : End) × (met_of (notes_of r n) ≡ Some end)
  end_there n h f =
      met_some (met_of (notes_of r n))
      (sym (meets n) ∙ left_true
      (list_any (λ k. is_faulty r k (op_of r n) (undivided r n))
      (range_with_len 0 (parts_in r))) (is_full r n) h f)

  -- the end that is met at a place is that of its operation
  pub end_is_met : (n : ℕ) → ends_at r n ≡ true
      → (end : End) × (end_met_by r (op_of r n) (undivided r n).control.iteration ≡ Some end)
      × (end_at r n ≡ Some end)
  end_is_met n h = go (is_full r n) refl
    where
      end_by : Bool → Option End
      end_by b = if b then Some (OutputLimit (undivided r n).control.iteration)
          else met_of (notes_of r n)

      go : (b : Bool) → is_full r n ≡ b
          → (end : End) × (end_met_by r (op_of r n) (undivided r n).control.iteration ≡ Some end)
          × (end_at r n ≡ Some end)
      go true e = (
        OutputLimit (undivided r n).control.iteration,
        full_is r (op_of r n) (lengths_before r n) (undivided r n).control.iteration (notes_of r n)
            (sym (by_length r n (op_of r n)) ∙ e),
        ap (λ (b : Bool). if b then Some (OutputLimit (undivided r n).control.iteration)
            else met_of (notes_of r n)) e,
      )
      go false e =
          let m = end_there n h e in (
            m.0,
            met_is r (op_of r n) (undivided r n).control (undivided r n).state m.0 m.1,
            ap (λ (b : Bool). if b then Some (OutputLimit (undivided r n).control.iteration)
                else met_of (notes_of r n)) e ∙ m.1,
          )

  module _ (state : State) where
    -- the trace of the run from a place on, over so many operations
    abbrev rest_trace : ℕ → ℕ → Trace
    rest_trace n m = trace_from (lengths_before r n)
        (noted_from r.setup r.rules (code r.setup) m (undivided r n)) state

    trace_step : (n m : ℕ) → ends_at r n ≡ false
        → rest_trace n (suc m) ≡ after (entries_of (notes_of r n)) (rest_trace (suc n) m)
    trace_step n m h =
        let both =
        or_parts (list_any (λ k. is_faulty r k (op_of r n) (undivided r n))
        (range_with_len 0 (parts_in r))) (is_full r n) h in
        let fine = fits_one r (lengths_before r n) (notes_of r n) (one_there n both.1)
        (met_none (met_of (notes_of r n)) (sym (meets n) ∙ both.0)) in
        trace_through (lengths_before r n) (notes_of r n)
        (noted_from r.setup r.rules (code r.setup) m (undivided r (suc n))) state fine.0 fine.1

    after_both : (a b : List Entry) (t : Trace) → after a (after b t) ≡ after (a ++ b) t
    after_both a b t = ap (λ (es : List Entry). record { entries = es; outcome = t.outcome })
        (sym (append_assoc a b t.entries))

    trace_at : (n m : ℕ) → ((j : ℕ) → j < n → ends_at r j ≡ false)
        → rest_trace 0 (n + m) ≡ after (entries_of (noted r n)) (rest_trace n m)
    trace_at zero m h = ap (rest_trace 0) (omega arith)
    trace_at (suc n) m h =
        let e : suc n + m ≡ n + suc m = omega arith in
        ap (rest_trace 0) e ∙ trace_at n (suc m) (λ j l. h j (omega (arith, l)))
        ∙ ap (after (entries_of (noted r n))) (trace_step n m (h n (omega arith)))
        ∙ after_both (entries_of (noted r n)) (entries_of (notes_of r n)) (rest_trace (suc n) m)
        ∙ ap (λ (es : List Entry). after es (rest_trace (suc n) m))
        (sym (entries_both (noted r n) (notes_of r n)))

    -- behind a place where an end is met there are no works
    rest_works : (n m : ℕ) → ends_at r n ≡ true → works_of (rest_trace n (suc m)).entries ≡ []
    rest_works n m h = go (is_full r n) refl
      where
        more : List Note
        more = noted_from r.setup r.rules (code r.setup) m (undivided r (suc n))

        go : (b : Bool) → is_full r n ≡ b → works_of (rest_trace n (suc m)).entries ≡ []
        go true e = full_rest r (op_of r n) (undivided r n).control (undivided r n).state
            (lengths_before r n) more state (sym (by_length r n (op_of r n)) ∙ e)
        go false e = let met = end_there n h e in
            met_rest r (op_of r n) (undivided r n).control (undivided r n).state
            (lengths_before r n) more state met.0 (one_there n e) met.1

-- ---- the whole run

module _ (r : Run) (run : IsRun r) (trace : Trace)
    (runs : RunsAs r.setup r.rules r.first r.so_far trace) where
  abbrev last_state : State
  last_state = (flat_from r.setup r.rules (code r.setup) runs.count r.first).state

  trace_is : (n m : ℕ) → n + m ≡ runs.count → ((j : ℕ) → j < n → ends_at r j ≡ false)
      → trace ≡ after (entries_of (noted r n)) (rest_trace r run last_state n m)
  trace_is n m e before = runs.run_is ∙ ap (rest_trace r run last_state 0) (sym e)
      ∙ trace_at r run last_state n m before

  all_works : (n : ℕ) → n ≤ runs.count → ((j : ℕ) → j < n → ends_at r j ≡ false)
      → (n ≡ runs.count) ⊎ (ends_at r n ≡ true) → works_of trace.entries ≡ works_before r n
  all_works n l before at = go (cases_lt n runs.count) at
    where
      no_more : (es : List Entry) → works_of es ≡ []
          → works_of (entries_of (noted r n) ++ es) ≡ works_before r n
      no_more es e = works_both (entries_of (noted r n)) es
          ∙ ap (λ (xs : List Entry). works_before r n ++ xs) e ∙ append-nil (works_before r n)

      go : (n < runs.count) ⊎ (runs.count ≤ n) → (n ≡ runs.count) ⊎ (ends_at r n ≡ true)
          → works_of trace.entries ≡ works_before r n
      go (inr h) c =
          let e : n + 0 ≡ runs.count = omega (arith, l, h) in
          ap (λ (t : Trace). works_of t.entries) (trace_is n 0 e before) ∙ no_more [] refl
      go (inl h) (inl e) = absurd (omega (arith, h, e))
      go (inl h) (inr met) =
          let e : n + suc (runs.count - suc n) ≡ runs.count = omega (arith, h) in
          ap (λ (t : Trace). works_of t.entries) (trace_is n (suc (runs.count - suc n)) e before)
          ∙ no_more (rest_trace r run last_state n (suc (runs.count - suc n))).entries
          (rest_works r run last_state n (runs.count - suc n) met)

  -- the last state of a run that comes to its last operation
  last_is_state : ((j : ℕ) → j < runs.count → ends_at r j ≡ false)
      → trace.outcome ≡ Goes (undivided r runs.count).state
  last_is_state before =
      let e : runs.count + 0 ≡ runs.count = omega arith in
      ap (λ (t : Trace). t.outcome) (trace_is runs.count 0 e before)
      ∙ ap (λ (g : Flat). Goes g.state) (sym (undivided_is r runs.count))

  stands : op_of r runs.count ≡ Halt
  stands = halt_is (op_of r runs.count) (halted_there r run trace runs)

  none_last : end_at r runs.count ≡ None
  none_last = ap (λ (o : Op). if passes_limit r runs.count o
      then Some (OutputLimit (undivided r runs.count).control.iteration)
      else met_of (notes_at r.setup r.rules o (undivided r runs.count).control
      (undivided r runs.count).state)) stands

  ends_here : (n : ℕ) → n ≤ runs.count → ((j : ℕ) → j < n → ends_at r j ≡ false)
      → (n ≡ runs.count) ⊎ (ends_at r n ≡ true) → EndsAt r trace n
  ends_here n l before at = record {
    ends = subst (EndsBy (end_at r n))
        (sym (trace_outcome r run (some_part r run) last_state trace runs refl))
        (end_is r run (some_part r run) last_state n runs.count l before at stands);
    earlier = entries_at r run (some_part r run) last_state trace runs refl n l before;
  }

-- ---- a state that is reached

module _ (tells : Type 0) (r : Run) (run : IsRun r) (trace : Trace)
    (runs : RunsAs r.setup r.rules r.first r.so_far trace)
    (o : Oracle) (w : World Held (Message tells) Channel Lengths) (st : IsReachedState tells r o w)
    (t : tells) (n : ℕ) (over : w.over ≡ Some n) where
  abbrev there : ℕ
  there = end_place tells r run o st.oracle_is t

  is_there : n ≡ there
  is_there = ((st.ended t).ended n over).0

  within : there ≤ runs.count
  within = end_within tells r run o st.oracle_is t trace runs

  before : (j : ℕ) → j < there → ends_at r j ≡ false
  before = before_end tells r run o st.oracle_is t

  met_or_last : (there ≡ runs.count) ⊎ (ends_at r there ≡ true)
  met_or_last = at_end (ends_at r there ≡ true) there (last_of r o) runs.count
      (count_is tells r run o st.oracle_is t trace runs) (first_at (last_of r o) 0 (ends_at r))

  ends : EndsAt r trace n
  ends = subst (EndsAt r trace) (sym is_there)
      (ends_here r run trace runs there within before met_or_last)

  -- all works before the end have been written
  works_there : works_before r there ≡ handed_out r w
  works_there =
      works_upto tells r run o w st t there (wrote_before tells r run o w st t)
      (λ m x y q. not_both (w.wrote) m x (((st.ended t).ended n over).1 m (before_n m y) q))
    where
      not_both : (a m : ℕ) → a ≤ m → m < a → ⊥
      not_both a m h k = omega (arith, h, k)

      before_n : (m : ℕ) → m < there → m < n
      before_n m l = subst (λ k. m < k) (sym is_there) l

  works : works_of trace.entries ≡ handed_out r w
  works = all_works r run trace runs there within before met_or_last ∙ works_there

  module _ (last : n ≡ last_of r o) where
    at_count : n ≡ runs.count
    at_count = last ∙ count_is tells r run o st.oracle_is t trace runs

    goes : trace.outcome ≡ Goes (undivided r runs.count).state
    goes = last_is_state r run trace runs
        (λ j l. before j (subst (λ m. j < m) (sym at_count ∙ is_there) l))

    scalars : (state : State) → trace.outcome ≡ Goes state → (k : ℕ) (v : VarId) → k < parts_in r
        → is_scalar r.setup v ≡ true → scalar_of (w.held k).numbers v ≡ scalar_of state v
    scalars state e k v l s =
        (st.woven.agrees k l).stands.scalars v s
        ∙ ap (λ (g : Flat). scalar_of g.state v) (way tells r run o st.oracle_is t (w.place k))
        ∙ ap (λ m. scalar_of (undivided r m).state v)
        (((st.ended t).ended n over).2 last k l ∙ sym last ∙ at_count)
        ∙ ap (λ (x : State). scalar_of x v) (same_goes (sym goes ∙ e))

  earlier : (n ≡ last_of r o → ⊥)
      → (end : End) × (end_met_by r (op_of r n) (undivided r n).control.iteration ≡ Some end)
      × EndsBy (Some end) trace.outcome
  earlier no_last = go met_or_last
    where
      go : (there ≡ runs.count) ⊎ (ends_at r there ≡ true)
          → (end : End) × (end_met_by r (op_of r n) (undivided r n).control.iteration ≡ Some end)
          × EndsBy (Some end) trace.outcome
      go (inl e) =
          absurd (no_last (is_there ∙ e ∙ sym (count_is tells r run o st.oracle_is t trace runs)))
      go (inr e) =
          let met = end_is_met r run n (subst (λ m. ends_at r m ≡ true) (sym is_there) e) in
          (met.0, met.1, subst (λ (x : Option End). EndsBy x trace.outcome) met.2 ends.ends)

  pub ends_as_run : EndsAsRun r trace o w n
  ends_as_run = record {
    ends = ends;
    works = works;
    last = λ e. ((undivided r runs.count).state, goes e);
    earlier = earlier;
    scalars = scalars;
  }

pub end_is_the_runs : (tells : Type 0) (r : Run) → IsRun r → (trace : Trace)
    → RunsAs r.setup r.rules r.first r.so_far trace → EndIsTheRuns tells r trace
end_is_the_runs tells r run trace runs t o w st n over =
    ends_as_run tells r run trace runs o w st t n over
