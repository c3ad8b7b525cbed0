-- A run that has come to a checkpoint is what it has done up to there, and the run that goes on
-- from that checkpoint, whatever it began from.
use Rattle.std.proofs.Common.{◌≡◌, ◌≤◌, ◌<◌, ◌+◌, inl, inr, ℕ, suc, Bool, true, false, List, [], ◌∷◌, ◌++◌, length, Option, Some, None, if◌then◌else◌, arith, eqb-true, refl, sym, ap, ◌∙◌, subst}
use Rattle.std.proofs.lemmas.Bool.{eq-eqb}
use Rattle.std.specs.Prelude.{◌==◌}
use Rattle.cx_plan.specs.declared.variable.VarId.{VarId}
use Rattle.cx_plan.specs.Dues.{is_due}
use Rattle.cx_plan.specs.Lookups.{bin}
use Rattle.cx_plan.specs.Setups.{Setup}
use Rattle.cx_rule.specs.Routine.{Rule}
use Rattle.cx_rule.specs.States.{State, rotate}
use Rattle.cx_model.specs.Checkpoints.{Continues, ReachesFrom}
use Rattle.cx_model.specs.Runs.{Lengths, no_lengths, lengths_after, lengths_behind, all_written, run_stage, run_stages, passing, stop_or, within_limit, continued_run, Reaches}
use Rattle.cx_model.specs.Stages.{Stage, Bin, Rotate, Save, Write, stages, stages_after}
use Rattle.cx_model.specs.States.{start}
use Rattle.cx_model.specs.declared.ends.End.{End}
use Rattle.cx_model.specs.declared.ends.End.TheVariants as ends
use Rattle.cx_model.specs.Traces.{Entry, Turned, Overflowed, Exchanged, Tested, Rotated, Wrote, Saved, Outcome, Goes, Ends, Trace, after, does}
use Rattle.cx_model.specs.Trees.{run_tree}
use Rattle.cx_model.proofs.WalkLaws.{Each, OfEnd, OfTrees, Throughout, throughout-stays, throughout-then, walk-tree}
use Rattle.cx_outputs.specs.Names.{lengths_in, lengths_by}
use Rattle.law_parts.specs.Beginnings.{Beginning, Afresh, From}
use Rattle.law_parts.specs.Totals.{undivided_from}
use Rattle.law_reached.specs.Works.{works_of}
use Rattle.cx_core.specs.declared.answers.Outcome.TheVariants.{Done}
use Rattle.cx_core.specs.Hands.{ended_as}
use Rattle.law_course.proofs.OutputLaws.{IsAmong, WritesTo, each_front, each_within, run_writes}
use Rattle.cx_run_loop.specs.Sums.{AreUnsaved}

-- ---- works among entries

-- a checkpoint place among works is one among the entries
pub record SplitsAt (es a b : List Entry) (c : ℕ) (s : State) : Type 0 where
  pub earlier : List Entry
  pub later : List Entry
  pub there : es ≡ earlier ++ Saved c s ∷ later
  pub before : works_of earlier ≡ a
  pub rest : works_of later ≡ b

heads : (x y : Entry) (xs ys : List Entry) → x ∷ xs ≡ y ∷ ys → (x ≡ y) × (xs ≡ ys)
heads x y xs ys e = ((let h : x ≡ y = cc in h), (let h : xs ≡ ys = cc in h))

-- one more entry that isn't a work
skipped : (x : Entry) (es a b : List Entry) (c : ℕ) (s : State) → SplitsAt es a b c s
    → works_of (x ∷ []) ≡ [] → ((l : List Entry) → works_of (x ∷ l) ≡ works_of l)
    → SplitsAt (x ∷ es) a b c s
skipped x es a b c s p none over = record {
  earlier = x ∷ p.earlier;
  later = p.later;
  there = ap (λ (l : List Entry). x ∷ l) p.there;
  before = over p.earlier ∙ p.before;
  rest = p.rest;
}

pub split_works : (es a b : List Entry) (c : ℕ) (s : State) → AreUnsaved a
    → works_of es ≡ a ++ Saved c s ∷ b → SplitsAt es a b c s
split_works [] [] b c s u e = absurd cc
split_works [] (x ∷ a) b c s u e = absurd cc
split_works (Saved i t ∷ es) [] b c s u e =
    let h = heads (Saved i t) (Saved c s) (works_of es) b e in
    record {
      earlier = [];
      later = es;
      there = ap (λ (x : Entry). x ∷ es) h.0;
      before = refl;
      rest = h.1;
    }
split_works (Saved i t ∷ es) (x ∷ a) b c s u e =
    let h = heads (Saved i t) x (works_of es) (a ++ Saved c s ∷ b) e in
    absurd (subst AreUnsaved (ap (λ (y : Entry). y ∷ a) (sym h.0)) u).0
split_works (Wrote v i text t ∷ es) [] b c s u e =
    let h = heads (Wrote v i text t) (Saved c s) (works_of es) b e in
    absurd (let same = h.0 in cc)
split_works (Wrote v i text t ∷ es) (x ∷ a) b c s u e =
    let h = heads (Wrote v i text t) x (works_of es) (a ++ Saved c s ∷ b) e in
    let p = split_works es a b c s u.1 h.1 in
    record {
      earlier = Wrote v i text t ∷ p.earlier;
      later = p.later;
      there = ap (λ (l : List Entry). Wrote v i text t ∷ l) p.there;
      before = ap (λ (l : List Entry). Wrote v i text t ∷ l) p.before
          ∙ ap (λ (y : Entry). y ∷ a) h.0;
      rest = p.rest;
    }
split_works (Turned k i t ∷ es) a b c s u e =
    skipped (Turned k i t) es a b c s (split_works es a b c s u e) refl (λ l. refl)
split_works (Overflowed k i t ∷ es) a b c s u e =
    skipped (Overflowed k i t) es a b c s (split_works es a b c s u e) refl (λ l. refl)
split_works (Exchanged vars path t ∷ es) a b c s u e =
    skipped (Exchanged vars path t) es a b c s (split_works es a b c s u e) refl (λ l. refl)
split_works (Tested v path t ∷ es) a b c s u e =
    skipped (Tested v path t) es a b c s (split_works es a b c s u e) refl (λ l. refl)
split_works (Rotated t ∷ es) a b c s u e =
    skipped (Rotated t) es a b c s (split_works es a b c s u e) refl (λ l. refl)

-- ---- a run writes to the job's outputs alone, and no end that it meets is that of the last
-- iteration

abbrev pub IsStop : End → Type 0
IsStop ends.Done = ⊥
IsStop (ends.Overflow iteration path) = Unit {0}
IsStop (ends.WhileLimit iteration path) = Unit {0}
IsStop (ends.OutputLimit iteration) = Unit {0}

trees_write_none : (vs : List VarId) → OfTrees (WritesTo vs) IsStop
trees_write_none vs = record {
  turned = λ k n state. tt;
  overflowed = λ k n state. tt;
  exchanged = λ vars path state. tt;
  tested = λ v path state. tt;
  overflow = λ n path. tt;
  while_limit = λ n path. tt;
}

all_write : (setup : Setup) (n : ℕ) (state : State) (vs us : List VarId)
    → ((u : VarId) → IsAmong us u → IsAmong vs u)
    → Each (WritesTo vs) (all_written setup n state us)
all_write setup n state vs [] some = tt
all_write setup n state vs (u ∷ us) some =
    (some u (inl refl), all_write setup n state vs us (λ v there. some v (inr there)))

module _ (setup : Setup) (rules : List Rule) where
  stages_write : (ss : List Stage) (state : State)
      → Throughout (WritesTo setup.out_vars) IsStop (run_stages setup rules ss state)
  stages_write [] state = throughout-stays (WritesTo setup.out_vars) IsStop state
  stages_write (Bin k n ∷ ss) state =
      throughout-then (WritesTo setup.out_vars) IsStop
      (run_tree setup rules n (bin setup k) state) (run_stages setup rules ss)
      (walk-tree (WritesTo setup.out_vars) IsStop setup rules n (bin setup k) state
      (trees_write_none setup.out_vars)) (stages_write ss)
  stages_write (Rotate ∷ ss) state =
      throughout-then (WritesTo setup.out_vars) IsStop
      (does (Rotated state) (rotate state)) (run_stages setup rules ss)
      (record { entries = (tt, tt); outcome = tt }) (stages_write ss)
  stages_write (Save n ∷ ss) state =
      throughout-then (WritesTo setup.out_vars) IsStop
      (does (Saved n state) state) (run_stages setup rules ss)
      (record { entries = (tt, tt); outcome = tt }) (stages_write ss)
  stages_write (Write n ∷ ss) state =
      throughout-then (WritesTo setup.out_vars) IsStop
      (run_stage setup rules (Write n) state) (run_stages setup rules ss)
      (record {
        entries = all_write setup n state setup.out_vars setup.out_vars (λ u there. there);
        outcome = tt;
      }) (stages_write ss)

  continued_writes : (c : ℕ) (state : State) (so_far : Lengths)
      → Each (WritesTo setup.out_vars) (continued_run setup rules c state so_far).entries
  continued_writes c state so_far =
      let t = run_stages setup rules (stages_after setup c) state in
      each_within (WritesTo setup.out_vars) so_far t.entries t.outcome
      (stages_write (stages_after setup c) state).entries

  limit_stops : (so_far : Lengths) (es : List Entry) (o : Outcome) → OfEnd IsStop o
      → OfEnd IsStop (within_limit so_far es o).outcome
  limit_stops so_far [] o of = of
  limit_stops so_far (e ∷ es) o of =
      by (passing so_far e) (within_limit (lengths_after so_far e) es o)
      (limit_stops (lengths_after so_far e) es o of)
    where
      by : (p : Option ℕ) (rest : Trace) → OfEnd IsStop rest.outcome
          → OfEnd IsStop (stop_or p (after (e ∷ []) rest)).outcome
      by None rest of = of
      by (Some n) rest of = tt

  pub run_stops : (b : Beginning) → OfEnd IsStop (undivided_from setup rules b).outcome
  run_stops Afresh =
      let t = run_stages setup rules (stages setup) (start setup) in
      limit_stops no_lengths t.entries t.outcome (stages_write (stages setup) (start setup)).outcome
  run_stops (From c state so_far) =
      let t = run_stages setup rules (stages_after setup c) state in
      limit_stops so_far t.entries t.outcome (stages_write (stages_after setup c) state).outcome

-- a run that is done goes on to a last state
pub done_goes : (o : Outcome) → OfEnd IsStop o → ended_as o ≡ Done
    → (last : State) × (o ≡ Goes last)
done_goes (Goes last) of is = (last, refl)
done_goes (Ends ends.Done) of is = absurd of
done_goes (Ends (ends.Overflow iteration path)) of is = absurd cc
done_goes (Ends (ends.WhileLimit iteration path)) of is = absurd cc
done_goes (Ends (ends.OutputLimit iteration)) of is = absurd cc

-- ---- lengths by the variables' numbers, in a list and back

-- of variables that aren't written nothing is counted
abbrev pub IsOfOutputs : List VarId → Lengths → Type 0
IsOfOutputs vs f = (v : VarId) → (IsAmong vs v → ⊥) → f v.0 ≡ 0

by_one : (x y : ℕ) (b : Bool) (q : Bool) → q ≡ b → (b ≡ true → x ≡ y) → (rest : ℕ)
    → (b ≡ false → rest ≡ y) → (if b then x else rest) ≡ y
by_one x y true q is same rest other = same refl
by_one x y false q is same rest other = other refl

by_in : (vs : List VarId) (f : Lengths) (v : VarId) → ((IsAmong vs v → ⊥) → f v.0 ≡ 0)
    → lengths_by vs (lengths_in vs f) v.0 ≡ f v.0
by_in [] f v none = sym (none (λ x. x))
by_in (w ∷ ws) f v none =
    by_one (f w.0) (f v.0) (w.0 == v.0) (w.0 == v.0) refl
    (λ is. ap f (eqb-true w.0 v.0 is))
    (lengths_by ws (lengths_in ws f) v.0)
    (λ other. by_in ws f v (λ missing. none (not_among other missing)))
  where
    not_among : (w.0 == v.0) ≡ false → (IsAmong ws v → ⊥) → IsAmong (w ∷ ws) v → ⊥
    not_among other missing (inl is) =
        let bad : true ≡ false = sym (eq-eqb w.0 v.0 (sym is)) ∙ other in
        absurd cc
    not_among other missing (inr there) = missing there

-- a list of lengths names those that are written alone
pub by_outputs : (vs : List VarId) (ls : List ℕ) → IsOfOutputs vs (lengths_by vs ls)
by_outputs [] ls v missing = refl
by_outputs (w ∷ ws) [] v missing = refl
by_outputs (w ∷ ws) (l ∷ ls) v missing =
    go (w.0 == v.0) refl (by_outputs ws ls v (λ there. missing (inr there)))
  where
    go : (b : Bool) → (w.0 == v.0) ≡ b → lengths_by ws ls v.0 ≡ 0
        → (if b then l else lengths_by ws ls v.0) ≡ 0
    go true is rest = absurd (missing (inl (sym (eqb-true w.0 v.0 is))))
    go false is rest = rest

-- entries that write to outputs alone make no other longer
entries_outputs : (vs : List VarId) (es : List Entry) (f : Lengths) → Each (WritesTo vs) es
    → IsOfOutputs vs f → IsOfOutputs vs (lengths_behind f es)
entries_outputs vs [] f each none = none
entries_outputs vs (Wrote w i text t ∷ es) f each none =
    entries_outputs vs es (lengths_after f (Wrote w i text t)) each.1
    (λ v missing. go v missing (w.0 == v.0) refl)
  where
    among_same : (us : List VarId) (v : VarId) → w.0 ≡ v.0 → IsAmong us w → IsAmong us v
    among_same [] v same there = there
    among_same (u ∷ us) v same (inl is) = inl (sym same ∙ is)
    among_same (u ∷ us) v same (inr there) = inr (among_same us v same there)

    go : (v : VarId) → (IsAmong vs v → ⊥) → (b : Bool) → (w.0 == v.0) ≡ b
        → (if b then f v.0 + length text else f v.0) ≡ 0
    go v missing true is = absurd (missing (among_same vs v (eqb-true w.0 v.0 is) each.0))
    go v missing false is = none v missing
entries_outputs vs (Saved i t ∷ es) f each none = entries_outputs vs es f each.1 none
entries_outputs vs (Turned k i t ∷ es) f each none = entries_outputs vs es f each.1 none
entries_outputs vs (Overflowed k i t ∷ es) f each none = entries_outputs vs es f each.1 none
entries_outputs vs (Exchanged us path t ∷ es) f each none = entries_outputs vs es f each.1 none
entries_outputs vs (Tested w path t ∷ es) f each none = entries_outputs vs es f each.1 none
entries_outputs vs (Rotated t ∷ es) f each none = entries_outputs vs es f each.1 none

lengths_again : (vs : List VarId) (f : Lengths) → IsOfOutputs vs f
    → lengths_by vs (lengths_in vs f) ≡ f
lengths_again vs f none = (λ i v. by_in vs f (record { 0 = v }) (none (record { 0 = v })) i)

-- ---- a run from a beginning

-- how long outputs are there, by the variables' numbers
abbrev pub first_lengths : Beginning → Lengths
first_lengths Afresh = no_lengths
first_lengths (From c state so_far) = so_far

-- the iteration that comes first there
abbrev pub first_place : Beginning → ℕ
first_place Afresh = 0
first_place (From c state so_far) = suc c

-- it goes on from a checkpoint place: the entries before it, and the run that is continued there
pub record GoesOnAt (setup : Setup) (rules : List Rule) (b : Beginning) (earlier : List Entry)
    (c : ℕ) (s : State) (ls : List ℕ) : Type 0 where
  pub run : undivided_from setup rules b
      ≡ after (earlier ++ Saved c s ∷ [])
      (undivided_from setup rules (From c s (lengths_by setup.out_vars ls)))
  pub later : first_place b ≤ c
  pub due : is_due setup c ≡ true

module _ (setup : Setup) (rules : List Rule) (laws : Continues setup rules)
    (earlier later : List Entry) (c : ℕ) (s : State) (ls : List ℕ) where
  again : (f : Lengths) → Each (WritesTo setup.out_vars) earlier → IsOfOutputs setup.out_vars f
      → ls ≡ lengths_in setup.out_vars (lengths_behind f earlier)
      → lengths_by setup.out_vars ls ≡ lengths_behind f earlier
  again f each none is =
      ap (lengths_by setup.out_vars) is
      ∙ lengths_again setup.out_vars (lengths_behind f earlier)
      (entries_outputs setup.out_vars earlier f each none)

  pub goes_on_at : (b : Beginning) → IsOfOutputs setup.out_vars (first_lengths b)
      → (undivided_from setup rules b).entries ≡ earlier ++ Saved c s ∷ later
      → ls ≡ lengths_in setup.out_vars (lengths_behind (first_lengths b) earlier)
      → GoesOnAt setup rules b earlier c s ls
  goes_on_at Afresh none there is =
      let each : Each (WritesTo setup.out_vars) earlier =
      each_front (WritesTo setup.out_vars) earlier (Saved c s ∷ later)
      (subst (Each (WritesTo setup.out_vars)) there (run_writes setup rules)) in
      let r : Reaches setup rules c s (lengths_by setup.out_vars ls) = record {
        earlier = earlier;
        later = later;
        there = there;
        lengths_there = again no_lengths each none is;
      } in
      record {
        run = laws.run c s (lengths_by setup.out_vars ls) r;
        later = omega arith;
        due = laws.due c s (lengths_by setup.out_vars ls) r;
      }
  goes_on_at (From d t so_far) none there is =
      let each : Each (WritesTo setup.out_vars) earlier =
      each_front (WritesTo setup.out_vars) earlier (Saved c s ∷ later)
      (subst (Each (WritesTo setup.out_vars)) there (continued_writes setup rules d t so_far)) in
      let r : ReachesFrom setup rules d t so_far c s (lengths_by setup.out_vars ls) = record {
        earlier = earlier;
        later = later;
        there = there;
        lengths_there = again so_far each none is;
      } in
      let l = laws.due_later d t so_far c s (lengths_by setup.out_vars ls) r in
      let less : d < c = l.1 in
      record {
        run = laws.rest d t so_far c s (lengths_by setup.out_vars ls) r;
        later = omega (arith, less);
        due = l.0;
      }
