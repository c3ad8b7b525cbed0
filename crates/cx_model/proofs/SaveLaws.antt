-- Where a checkpoint place stands among a run's entries.
use Rattle.std.proofs.Common.{◌≡◌, ℕ, ◌+◌, ◌≤◌, refl, sym, ap, subst, ◌∙◌, Bool, true, false, nat_le, List, [], ◌∷◌, ◌++◌, length, append_assoc, Option, Some, None, arith, if◌then◌else◌}
use Rattle.std.specs.Prelude.{◌==◌}
use Rattle.std.proofs.lemmas.Bool.{eqb-true}
use Rattle.cx_plan.specs.declared.variable.VarId.{VarId}
use Rattle.cx_plan.specs.Setups.{Setup}
use Rattle.cx_plan.specs.Lookups.{bin}
use Rattle.cx_rule.specs.Routine.{Rule}
use Rattle.cx_rule.specs.States.{State, rotate}
use Rattle.cx_model.specs.Traces.{Entry, Turned, Overflowed, Exchanged, Tested, Rotated, Wrote, Saved, Outcome, Goes, Ends, Trace, after, follow}
use Rattle.cx_model.specs.Trees.{run_tree}
use Rattle.cx_model.specs.Stages.{Stage, Bin, Rotate, Save, Write}
use Rattle.cx_model.specs.Runs.{all_written, run_stages, text_to, output_of, Lengths, AreNoLonger, lengths_after, lengths_behind, passing, stop_or, within_limit, limited, greatest_output}
use Rattle.cx_model.proofs.ListLaws.{heads, tails, nothing_there}
use Rattle.cx_model.proofs.WalkLaws.{Each, OfTrees, walk-tree}

-- ---- entries that are no checkpoint place

abbrev pub IsOther : Entry → Type 0
IsOther (Saved n state) = ⊥
IsOther _ = Unit {0}

pub others : OfTrees IsOther (λ _. Unit {0})
others = record {
  turned = λ _ _ _. tt;
  overflowed = λ _ _ _. tt;
  exchanged = λ _ _ _. tt;
  tested = λ _ _ _. tt;
  overflow = λ _ _. tt;
  while_limit = λ _ _. tt;
}

pub others-written : (setup : Setup) (iteration : ℕ) (state : State) (vs : List VarId)
    → Each IsOther (all_written setup iteration state vs)
others-written setup iteration state [] = tt
others-written setup iteration state (v ∷ vs) = (tt, others-written setup iteration state vs)

-- ---- lengths

pub output-both : (v : VarId) (xs ys : List Entry)
    → output_of v (xs ++ ys) ≡ output_of v xs ++ output_of v ys
output-both v [] ys = refl
output-both v (e ∷ xs) ys =
    ap (λ t. text_to v e ++ t) (output-both v xs ys)
    ∙ sym (append_assoc (text_to v e) (output_of v xs) (output_of v ys))

pub lengths-both : (xs ys : List Entry) (n : Lengths)
    → lengths_behind n (xs ++ ys) ≡ lengths_behind (lengths_behind n xs) ys
lengths-both [] ys n = refl
lengths-both (e ∷ xs) ys n = lengths-both xs ys (lengths_after n e)

after-more : (n : Lengths) (e : Entry) (v : ℕ) → n v ≤ lengths_after n e v
after-more n (Wrote w i text state) v = by (w.0 == v)
  where
    by : (b : Bool) → n v ≤ (if b then n v + length text else n v)
    by true = omega arith
    by false = omega arith
after-more n (Turned k i state) v = omega arith
after-more n (Overflowed k i state) v = omega arith
after-more n (Exchanged vars path state) v = omega arith
after-more n (Tested w path state) v = omega arith
after-more n (Rotated state) v = omega arith
after-more n (Saved i state) v = omega arith

-- no output gets shorter
pub lengths-more : (es : List Entry) (n : Lengths) → AreNoLonger n (lengths_behind n es)
lengths-more [] n v = omega arith
lengths-more (e ∷ es) n v = let a = after-more n e v in
    let b = lengths-more es (lengths_after n e) v in omega arith

-- ---- behind entries that are no checkpoint place

abbrev pub Stands : Trace → List Entry → ℕ → State → List Entry → Type 0
Stands t earlier c state later = t.entries ≡ earlier ++ Saved c state ∷ later

-- where a checkpoint place stands behind some entries, they are passed
pub record Passes (so_far : Lengths) (es more : List Entry) (o : Outcome) (earlier : List Entry)
    (c : ℕ) (state : State) (later : List Entry) : Type 0 where
  pub between : List Entry
  pub is : earlier ≡ es ++ between
  pub all : within_limit so_far (es ++ more) o
      ≡ after es (within_limit (lengths_behind so_far es) more o)
  pub there : Stands (within_limit (lengths_behind so_far es) more o) between c state later

not_other : (e : Entry) (c : ℕ) (state : State) → IsOther e → e ≡ Saved c state → ⊥
not_other e c state other is = subst IsOther is other

pub passes : (so_far : Lengths) (es more : List Entry) (o : Outcome) (earlier : List Entry) (c : ℕ)
    (state : State) (later : List Entry)
    → Each IsOther es → Stands (within_limit so_far (es ++ more) o) earlier c state later
    → Passes so_far es more o earlier c state later
passes so_far [] more o earlier c state later none there =
    record {
      between = earlier;
      is = refl;
      all = refl;
      there = there;
    }
passes so_far (e ∷ es) more o earlier c state later none there =
    by (passing so_far e) refl earlier there
    (λ rest at. passes (lengths_after so_far e) es more o rest c state later none.1 at)
  where
    inner : Trace
    inner = within_limit (lengths_after so_far e) (es ++ more) o

    by : (p : Option ℕ) → passing so_far e ≡ p → (earlier : List Entry)
        → Stands (stop_or p (after (e ∷ []) inner)) earlier c state later
        → ((rest : List Entry) → Stands inner rest c state later
        → Passes (lengths_after so_far e) es more o rest c state later)
        → Passes so_far (e ∷ es) more o earlier c state later
    by None is [] there again =
        absurd (not_other e c state none.0 (heads e (Saved c state) inner.entries later there))
    by None is (f ∷ rest) there again =
        let r = again rest (tails e f inner.entries (rest ++ Saved c state ∷ later) there) in
        record {
          between = r.between;
          is = ap (λ g. g ∷ rest)
              (sym (heads e f inner.entries (rest ++ Saved c state ∷ later) there))
              ∙ ap (λ l. e ∷ l) r.is;
          all = ap (λ p. stop_or p (after (e ∷ []) inner)) is ∙ ap (after (e ∷ [])) r.all;
          there = r.there;
        }
    by (Some n) is earlier there again = absurd (nothing_there earlier (Saved c state) later there)

-- ---- a run of stages

-- what holds of each checkpoint place of some stages and of the stages behind it
abbrev pub EachSave : (ℕ → List Stage → Type 0) → List Stage → Type 0
EachSave P [] = Unit {0}
EachSave P (Save n ∷ ss) = P n ss × EachSave P ss
EachSave P (Bin b n ∷ ss) = EachSave P ss
EachSave P (Rotate ∷ ss) = EachSave P ss
EachSave P (Write n ∷ ss) = EachSave P ss

-- a place that a run of stages reaches, with the stages behind it
pub record Found (P : ℕ → List Stage → Type 0) (setup : Setup) (rules : List Rule) (t : Trace)
    (entries : List Entry) (so_far : Lengths) (earlier : List Entry) (c : ℕ)
    (state : State) : Type 0 where
  pub behind : List Stage
  pub holds : P c behind
  pub all : t ≡ after (earlier ++ Saved c state ∷ [])
      (limited (lengths_behind so_far earlier) (run_stages setup rules behind state))
  pub full : entries ≡ earlier ++ Saved c state ∷ (run_stages setup rules behind state).entries

after-joined : (es between earlier : List Entry) (x : Entry) (t : Trace) → earlier ≡ es ++ between
    → after es (after (between ++ x ∷ []) t) ≡ after (earlier ++ x ∷ []) t
after-joined es between earlier x t is =
    ap (λ (all : List Entry). record { entries = all; outcome = t.outcome })
    (sym (append_assoc es (between ++ x ∷ []) t.entries)
    ∙ ap (λ (a : List Entry). a ++ t.entries)
    (sym (append_assoc es between (x ∷ [])) ∙ ap (λ (a : List Entry). a ++ x ∷ []) (sym is)))

-- the place stands behind the entries of one stage
found_behind : (P : ℕ → List Stage → Type 0) (setup : Setup) (rules : List Rule) (es : List Entry)
    (out : Outcome) (ss : List Stage) (so_far : Lengths) (earlier : List Entry) (c : ℕ)
    (state : State) (later : List Entry)
    → Each IsOther es
    → ((first : State) (n : Lengths) (between : List Entry)
    → Stands (limited n (run_stages setup rules ss first)) between c state later
    → Found P setup rules (limited n (run_stages setup rules ss first))
    (run_stages setup rules ss first).entries n between c state)
    → Stands (limited so_far (after es (follow out (run_stages setup rules ss))))
    earlier c state later
    → Found P setup rules (limited so_far (after es (follow out (run_stages setup rules ss))))
    (after es (follow out (run_stages setup rules ss))).entries so_far earlier c state
found_behind P setup rules es (Goes first) ss so_far earlier c state later others again there =
    let rest = run_stages setup rules ss first in
    let r = passes so_far es rest.entries rest.outcome earlier c state later others there in
    let f = again first (lengths_behind so_far es) r.between r.there in
    record {
      behind = f.behind;
      holds = f.holds;
      all = r.all ∙ ap (after es) f.all
          ∙ after-joined es r.between earlier (Saved c state)
          (limited (lengths_behind (lengths_behind so_far es) r.between)
          (run_stages setup rules f.behind state)) r.is
          ∙ ap (λ n. after (earlier ++ Saved c state ∷ [])
          (limited n (run_stages setup rules f.behind state)))
          (sym (lengths-both es r.between so_far) ∙ ap (lengths_behind so_far) (sym r.is));
      full = ap (λ l. es ++ l) f.full
          ∙ sym (append_assoc es r.between
          (Saved c state ∷ (run_stages setup rules f.behind state).entries))
          ∙ ap (λ a. a ++ Saved c state ∷ (run_stages setup rules f.behind state).entries)
          (sym r.is);
    }
found_behind P setup rules es (Ends end) ss so_far earlier c state later others again there =
    let r = passes so_far es [] (Ends end) earlier c state later others there in
    absurd (nothing_there r.between (Saved c state) later r.there)

pub found : (P : ℕ → List Stage → Type 0) (setup : Setup) (rules : List Rule) (ss : List Stage)
    → EachSave P ss
    → (first : State) (so_far : Lengths) (earlier : List Entry) (c : ℕ) (state : State)
    (later : List Entry)
    → Stands (limited so_far (run_stages setup rules ss first)) earlier c state later
    → Found P setup rules (limited so_far (run_stages setup rules ss first))
    (run_stages setup rules ss first).entries so_far earlier c state
found P setup rules [] each first so_far earlier c state later there =
    absurd (nothing_there earlier (Saved c state) later there)
found P setup rules (Bin b n ∷ ss) each first so_far earlier c state later there =
    let t = run_tree setup rules n (bin setup b) first in
    found_behind P setup rules t.entries t.outcome ss so_far earlier c state later
    (walk-tree IsOther (λ _. Unit {0}) setup rules n (bin setup b) first others).entries
    (λ now k between at. found P setup rules ss each now k between c state later at) there
found P setup rules (Rotate ∷ ss) each first so_far earlier c state later there =
    found_behind P setup rules (Rotated first ∷ []) (Goes (rotate first))
    ss so_far earlier c state later (tt, tt)
    (λ now k between at. found P setup rules ss each now k between c state later at) there
found P setup rules (Write n ∷ ss) each first so_far earlier c state later there =
    found_behind P setup rules (all_written setup n first setup.out_vars) (Goes first)
    ss so_far earlier c state later (others-written setup n first setup.out_vars)
    (λ now k between at. found P setup rules ss each now k between c state later at) there
found P setup rules (Save n ∷ ss) each first so_far [] c state later there =
    let same = heads (Saved n first) (Saved c state)
    (limited so_far (run_stages setup rules ss first)).entries later there in
    let s : first ≡ state = ap state_saved same in
    record {
      behind = ss;
      holds = subst (λ k. P k ss) (ap place_saved same) each.0;
      all = ap (λ (e : Entry). after (e ∷ []) (limited so_far (run_stages setup rules ss first)))
          same
          ∙ ap (λ (now : State).
          after (Saved c state ∷ []) (limited so_far (run_stages setup rules ss now))) s;
      full = ap (λ (e : Entry). e ∷ (run_stages setup rules ss first).entries) same
          ∙ ap (λ (now : State). Saved c state ∷ (run_stages setup rules ss now).entries) s;
    }
  where
    place_saved : Entry → ℕ
    place_saved (Saved k now) = k
    place_saved _ = n

    state_saved : Entry → State
    state_saved (Saved k now) = now
    state_saved _ = first
found P setup rules (Save n ∷ ss) each first so_far (e ∷ earlier) c state later there =
    let rest = limited so_far (run_stages setup rules ss first) in
    let same = heads (Saved n first) e rest.entries (earlier ++ Saved c state ∷ later) there in
    let f = found P setup rules ss each.1 first so_far earlier c state later
    (tails (Saved n first) e rest.entries (earlier ++ Saved c state ∷ later) there) in
    record {
      behind = f.behind;
      holds = f.holds;
      all = ap (after (Saved n first ∷ [])) f.all
          ∙ ap (λ (g : Entry). after (g ∷ earlier ++ Saved c state ∷ [])
          (limited (lengths_behind so_far earlier) (run_stages setup rules f.behind state)))
          same
          ∙ ap (λ k. after (e ∷ earlier ++ Saved c state ∷ [])
          (limited k (run_stages setup rules f.behind state))) (longer e same);
      full = ap (λ (l : List Entry). Saved n first ∷ l) f.full
          ∙ ap (λ (g : Entry). g ∷ earlier ++ Saved c state
          ∷ (run_stages setup rules f.behind state).entries) same;
    }
  where
    longer : (e : Entry) → Saved n first ≡ e
        → lengths_behind so_far earlier ≡ lengths_behind so_far (e ∷ earlier)
    longer e same = ap (λ (g : Entry). lengths_behind so_far (g ∷ earlier)) same

-- ---- the limit

abbrev AreSmall : Lengths → Type 0
AreSmall n = (v : ℕ) → n v ≤ greatest_output

text_small : (so_far : Lengths) (w : VarId) (n : ℕ) (text : List ℕ) (state : State)
    → passing so_far (Wrote w n text state) ≡ None → so_far w.0 + length text ≤ greatest_output
text_small so_far w n text state none =
    by (nat_le (so_far w.0 + length text) greatest_output) refl none
  where
    by : (b : Bool) → nat_le (so_far w.0 + length text) greatest_output ≡ b
        → (if b then None else Some n) ≡ None → so_far w.0 + length text ≤ greatest_output
    by true is none = grind (arith, is)
    by false is none = absurd cc

not_passed : (so_far : Lengths) (e : Entry) → AreSmall so_far → passing so_far e ≡ None
    → AreSmall (lengths_after so_far e)
not_passed so_far (Wrote w n text state) below none = λ v. by v (w.0 == v) refl
  where
    by : (v : ℕ) (b : Bool) → (w.0 == v) ≡ b
        → (if b then so_far v + length text else so_far v) ≤ greatest_output
    by v true is = subst (λ (k : ℕ). so_far k + length text ≤ greatest_output) (eqb-true w.0 v is)
        (text_small so_far w n text state none)
    by v false is = below v
not_passed so_far (Turned k n state) below none = below
not_passed so_far (Overflowed k n state) below none = below
not_passed so_far (Exchanged vars path state) below none = below
not_passed so_far (Tested v path state) below none = below
not_passed so_far (Rotated state) below none = below
not_passed so_far (Saved n state) below none = below

pub within-greatest : (so_far : Lengths) (es : List Entry) (o : Outcome) → AreSmall so_far
    → AreSmall (lengths_behind so_far (within_limit so_far es o).entries)
within-greatest so_far [] o below = below
within-greatest so_far (e ∷ es) o below =
    by (passing so_far e) (within_limit (lengths_after so_far e) es o) (not_passed so_far e below)
    (within-greatest (lengths_after so_far e) es o)
  where
    by : (p : Option ℕ) (rest : Trace) → (p ≡ None → AreSmall (lengths_after so_far e))
        → (AreSmall (lengths_after so_far e)
        → AreSmall (lengths_behind (lengths_after so_far e) rest.entries))
        → AreSmall (lengths_behind so_far (stop_or p (after (e ∷ []) rest)).entries)
    by None rest fits again = again (fits refl)
    by (Some n) rest fits again = below
