-- The undivided run ends at the first place where some part meets an end or a text passes the
-- limit, and by what is met there.
use Rattle.std.proofs.Common.{◌≡◌, ℕ, zero, suc, ◌+◌, ◌-◌, ◌<◌, ◌≤◌, ◌⊎◌, inl, inr, Bool, true, false, ◌||◌, List, ◌++◌, Option, Some, is_some, arith, append_assoc, refl, sym, ap, ◌∙◌, subst}
use Rattle.std.specs.Prelude.{if◌then◌else◌}
use Rattle.std.specs.List.{list_any, range_with_len}
use Rattle.std.proofs.lemmas.Bool.{cases_lt, both_ways, or_parts}
use Rattle.cx_rule.specs.States.{State}
use Rattle.cx_model.specs.declared.ends.End.{End}
use Rattle.cx_model.specs.declared.ends.End.TheVariants.{OutputLimit}
use Rattle.cx_model.specs.Traces.{Entry, Outcome, Trace, after}
use Rattle.cx_model.specs.Courses.{Note}
use Rattle.cx_flat.specs.declared.op.Op.{Op}
use Rattle.cx_flat.specs.declared.op.Op.TheVariants.{Halt}
use Rattle.cx_flat.specs.Code.{code}
use Rattle.cx_flat.specs.Flats.{notes_at, noted_from, flat_from}
use Rattle.cx_flat.specs.Laws.{RunsAs}
use Rattle.law_parts.specs.Ends.{noted, met_of, end_at, EndsBy}
use Rattle.law_parts.specs.Runs.{Run, parts_in, undivided, op_of, notes_of}
use Rattle.law_parts.specs.Truths.{entries_of, is_faulty, lengths_before, passes_limit, is_full, ends_at}
use Rattle.law_parts.proofs.TraceTotals.{entries_both}
use Rattle.law_parts.proofs.EndTiles.{tiles_meet}
use Rattle.law_parts.proofs.WholeRun.{IsRun, names_at}
use Rattle.law_parts.proofs.EndNotes.{outcome_from, trace_from, trace_through, OneNote, goes_through, met_some, met_none, fits_one, ends_one, op_one, op_full, by_length}

-- ---- the run by places

module _ (r : Run) (run : IsRun r) (some_part : 0 < parts_in r) (state : State) where
  -- how the run goes on from a place, over so many operations
  abbrev pub rest_outcome : ℕ → ℕ → Outcome
  rest_outcome n m = outcome_from (lengths_before r n)
      (noted_from r.setup r.rules (code r.setup) m (undivided r n)) state

  meets : (n : ℕ) → list_any (λ k. is_faulty r k (op_of r n) (undivided r n))
      (range_with_len 0 (parts_in r)) ≡ is_some (met_of (notes_of r n))
  meets n = tiles_meet r run some_part (op_of r n) (undivided r n)
      (names_at r run (undivided r n).control.pc)

  one_there : (n : ℕ) → is_full r n ≡ false → OneNote r (lengths_before r n) (notes_of r n)
  one_there n h = op_one r (op_of r n) (undivided r n).control (undivided r n).state
      (lengths_before r n) (sym (by_length r n (op_of r n)) ∙ h)

  step : (n m : ℕ) → ends_at r n ≡ false → rest_outcome n (suc m) ≡ rest_outcome (suc n) m
  step n m h =
      let both =
      or_parts (list_any (λ k. is_faulty r k (op_of r n) (undivided r n))
      (range_with_len 0 (parts_in r))) (is_full r n) h in
      let fine = fits_one r (lengths_before r n) (notes_of r n) (one_there n both.1)
      (met_none (met_of (notes_of r n)) (sym (meets n) ∙ both.0)) in
      goes_through (lengths_before r n) (notes_of r n)
      (noted_from r.setup r.rules (code r.setup) m (undivided r (suc n))) state fine.0 fine.1

  through : (n m : ℕ) → ((j : ℕ) → j < n → ends_at r j ≡ false)
      → rest_outcome 0 (n + m) ≡ rest_outcome n m
  through zero m h = ap (rest_outcome 0) (omega arith)
  through (suc n) m h =
      let e : suc n + m ≡ n + suc m = omega arith in
      ap (rest_outcome 0) e ∙ through n (suc m) (λ j l. h j (omega (arith, l)))
      ∙ step n m (h n (omega arith))

  -- where an end is met
  pub ends_there : (n m : ℕ) → ends_at r n ≡ true → EndsBy (end_at r n) (rest_outcome n (suc m))
  ends_there n m h = go (is_full r n) refl
    where
      more : List Note
      more = noted_from r.setup r.rules (code r.setup) m (undivided r (suc n))

      left_true : (a b : Bool) → (a || b) ≡ true → b ≡ false → a ≡ true
      left_true true b e f = refl
      left_true false b e f = absurd (both_ways b f e)

      by_met : is_full r n ≡ false → (end : End) × (met_of (notes_of r n) ≡ Some end)
          → EndsBy (met_of (notes_of r n)) (rest_outcome n (suc m))
      by_met f x = subst (λ (o : Option End). EndsBy o (rest_outcome n (suc m))) (sym x.1)
          (ends_one r (lengths_before r n) (notes_of r n) more state x.0 (one_there n f) x.1)

      go : (b : Bool) → is_full r n ≡ b
          → EndsBy (if is_full r n then Some (OutputLimit (undivided r n).control.iteration)
          else met_of (notes_of r n)) (rest_outcome n (suc m))
      go true e =
          subst (λ (b : Bool). EndsBy
          (if b then Some (OutputLimit (undivided r n).control.iteration)
          else met_of (notes_of r n)) (rest_outcome n (suc m))) (sym e)
          (op_full r (op_of r n) (undivided r n).control (undivided r n).state (lengths_before r n)
          more state (sym (by_length r n (op_of r n)) ∙ e))
      go false e =
          subst (λ (b : Bool). EndsBy
          (if b then Some (OutputLimit (undivided r n).control.iteration)
          else met_of (notes_of r n)) (rest_outcome n (suc m))) (sym e)
          (by_met e (met_some (met_of (notes_of r n))
          (sym (meets n) ∙ left_true
          (list_any (λ k. is_faulty r k (op_of r n) (undivided r n))
          (range_with_len 0 (parts_in r))) (is_full r n) h e)))

  -- a run that stands at its last operation
  last_there : (n : ℕ) (o : Op) → op_of r n ≡ o → o ≡ Halt → EndsBy (end_at r n) (rest_outcome n 0)
  last_there n o e h =
      subst (λ (p : Op). EndsBy
      (if passes_limit r n p then Some (OutputLimit (undivided r n).control.iteration)
      else met_of (notes_at r.setup r.rules p (undivided r n).control (undivided r n).state))
      (rest_outcome n 0)) (sym (e ∙ h)) (state, refl)

  pub end_is : (n count : ℕ) → n ≤ count → ((j : ℕ) → j < n → ends_at r j ≡ false)
      → (n ≡ count) ⊎ (ends_at r n ≡ true) → op_of r count ≡ Halt
      → EndsBy (end_at r n) (rest_outcome 0 count)
  end_is n count l before at halt = go (cases_lt n count) at
    where
      go : (n < count) ⊎ (count ≤ n) → (n ≡ count) ⊎ (ends_at r n ≡ true)
          → EndsBy (end_at r n) (rest_outcome 0 count)
      go (inr h) c =
          let e : n + 0 ≡ count = omega (arith, l, h) in
          let f : count ≡ n = omega (arith, l, h) in
          subst (EndsBy (end_at r n)) (sym (ap (rest_outcome 0) (sym e) ∙ through n 0 before))
          (last_there n (op_of r n) refl (sym (ap (op_of r) f) ∙ halt))
      go (inl h) (inl e) = absurd (omega (arith, h, e))
      go (inl h) (inr met) =
          let e : n + suc (count - suc n) ≡ count = omega (arith, h) in
          subst (EndsBy (end_at r n))
          (sym (ap (rest_outcome 0) (sym e) ∙ through n (suc (count - suc n)) before))
          (ends_there n (count - suc n) met)

  pub trace_outcome : (trace : Trace) (runs : RunsAs r.setup r.rules r.first r.so_far trace)
      → state ≡ (flat_from r.setup r.rules (code r.setup) runs.count r.first).state
      → trace.outcome ≡ rest_outcome 0 runs.count
  trace_outcome trace runs e =
      ap (λ (t : Trace). t.outcome) runs.run_is
      ∙ ap (outcome_from r.so_far (noted_from r.setup r.rules (code r.setup) runs.count r.first))
      (sym e)

  -- ---- what is noted before

  abbrev pub rest_trace : ℕ → ℕ → Trace
  rest_trace n m = trace_from (lengths_before r n)
      (noted_from r.setup r.rules (code r.setup) m (undivided r n)) state

  trace_step : (n m : ℕ) → ends_at r n ≡ false
      → rest_trace n (suc m) ≡ after (entries_of (notes_of r n)) (rest_trace (suc n) m)
  trace_step n m h =
      let both =
      or_parts (list_any (λ k. is_faulty r k (op_of r n) (undivided r n))
      (range_with_len 0 (parts_in r))) (is_full r n) h in
      let fine = fits_one r (lengths_before r n) (notes_of r n) (one_there n both.1)
      (met_none (met_of (notes_of r n)) (sym (meets n) ∙ both.0)) in
      trace_through (lengths_before r n) (notes_of r n)
      (noted_from r.setup r.rules (code r.setup) m (undivided r (suc n))) state fine.0 fine.1

  after_both : (a b : List Entry) (t : Trace) → after a (after b t) ≡ after (a ++ b) t
  after_both a b t = ap (λ (es : List Entry). record { entries = es; outcome = t.outcome })
      (sym (append_assoc a b t.entries))

  trace_at : (n m : ℕ) → ((j : ℕ) → j < n → ends_at r j ≡ false)
      → rest_trace 0 (n + m) ≡ after (entries_of (noted r n)) (rest_trace n m)
  trace_at zero m h = ap (rest_trace 0) (omega arith)
  trace_at (suc n) m h =
      let e : suc n + m ≡ n + suc m = omega arith in
      ap (rest_trace 0) e ∙ trace_at n (suc m) (λ j l. h j (omega (arith, l)))
      ∙ ap (after (entries_of (noted r n))) (trace_step n m (h n (omega arith)))
      ∙ after_both (entries_of (noted r n)) (entries_of (notes_of r n)) (rest_trace (suc n) m)
      ∙ ap (λ (es : List Entry). after es (rest_trace (suc n) m))
      (sym (entries_both (noted r n) (notes_of r n)))

  pub entries_at : (trace : Trace) (runs : RunsAs r.setup r.rules r.first r.so_far trace)
      → state ≡ (flat_from r.setup r.rules (code r.setup) runs.count r.first).state
      → (n : ℕ) → n ≤ runs.count → ((j : ℕ) → j < n → ends_at r j ≡ false)
      → (later : List Entry) × (trace.entries ≡ entries_of (noted r n) ++ later)
  entries_at trace runs e n l before =
      let c : n + (runs.count - n) ≡ runs.count = omega (arith, l) in (
        (rest_trace n (runs.count - n)).entries,
        ap (λ (t : Trace). t.entries) runs.run_is
            ∙ ap (λ (s : State). (trace_from r.so_far
            (noted_from r.setup r.rules (code r.setup) runs.count r.first) s).entries) (sym e)
            ∙ ap (λ (k : ℕ). (rest_trace 0 k).entries) (sym c)
            ∙ ap (λ (t : Trace). t.entries) (trace_at n (runs.count - n) before),
      )
