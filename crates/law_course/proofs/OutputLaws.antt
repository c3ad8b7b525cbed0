-- The outputs of the variables that are written, read off a run's entries, and their lengths.
use Rattle.std.proofs.Common.{◌≡◌, ◌≢◌, ◌⊎◌, inl, inr, ℕ, zero, suc, ◌+◌, ◌<◌, ◌≤◌, refl, sym, ap, ◌∙◌, subst, Bool, true, false, ◌==◌, List, [], ◌∷◌, ◌++◌, map, length, length-append, append_assoc, get_or, take, Option, Some, None, if◌then◌else◌, arith, eqb-true}
use Rattle.std.specs.Prelude.{slice_index, All, AllPairs}
use Rattle.std.proofs.lemmas.Bool.{eq-eqb, ne_eqb}
use Rattle.std.proofs.lemmas.List.{take_at}
use Rattle.std.proofs.lemmas.List.Elements.{All-head, All-tail}
use Rattle.cx_plan.specs.declared.variable.VarId.{VarId}
use Rattle.cx_plan.specs.Lookups.{bin}
use Rattle.cx_plan.specs.Setups.{Setup}
use Rattle.cx_rule.specs.Routine.{Rule}
use Rattle.cx_rule.specs.States.{State, rotate}
use Rattle.cx_model.specs.States.{start}
use Rattle.cx_model.specs.Stages.{Stage, Bin, Rotate, Save, Write, stages}
use Rattle.cx_model.specs.Traces.{Entry, Turned, Overflowed, Exchanged, Tested, Rotated, Wrote, Saved, Outcome, Trace, after, does}
use Rattle.cx_model.specs.Trees.{run_tree}
use Rattle.cx_model.specs.Runs.{Lengths, no_lengths, AreNoLonger, lengths_after, lengths_behind, text_to, text_added, output_of, former_output, all_written, run_stage, run_stages, passing, stop_or, within_limit, undivided_run}
use Rattle.cx_model.proofs.SaveLaws.{output-both}
use Rattle.cx_model.proofs.WalkLaws.{Each, OfTrees, Throughout, throughout-stays, throughout-then, walk-tree}
use Rattle.cx_outputs.specs.Names.{lengths_in, lengths_by, place_in}
use Rattle.cx_keep.specs.Trails.{total}

-- ---- variables that are written

-- a variable is one of some
abbrev pub IsAmong : List VarId → VarId → Type 0
IsAmong [] w = ⊥
IsAmong (v ∷ vs) w = (w.0 ≡ v.0) ⊎ IsAmong vs w

-- a text is of one of these
abbrev pub WritesTo : List VarId → Entry → Type 0
WritesTo vs (Wrote w iteration text state) = IsAmong vs w
WritesTo vs (Turned k iteration state) = Unit {0}
WritesTo vs (Overflowed k iteration state) = Unit {0}
WritesTo vs (Exchanged vars path state) = Unit {0}
WritesTo vs (Tested v path state) = Unit {0}
WritesTo vs (Rotated state) = Unit {0}
WritesTo vs (Saved iteration state) = Unit {0}

trees_write_none : (vs : List VarId) → OfTrees (WritesTo vs) (λ end. Unit {0})
trees_write_none vs = record {
  turned = λ k n state. tt;
  overflowed = λ k n state. tt;
  exchanged = λ vars path state. tt;
  tested = λ v path state. tt;
  overflow = λ n path. tt;
  while_limit = λ n path. tt;
}

all_write : (setup : Setup) (n : ℕ) (state : State) (vs us : List VarId)
    → ((u : VarId) → IsAmong us u → IsAmong vs u)
    → Each (WritesTo vs) (all_written setup n state us)
all_write setup n state vs [] some = tt
all_write setup n state vs (u ∷ us) some =
    (some u (inl refl), all_write setup n state vs us (λ v there. some v (inr there)))

module _ (setup : Setup) (rules : List Rule) where
  abbrev Writes : Trace → Type 0
  Writes t = Throughout (WritesTo setup.out_vars) (λ end. Unit {0}) t

  stages_write : (ss : List Stage) (state : State) → Writes (run_stages setup rules ss state)
  stages_write [] state = throughout-stays (WritesTo setup.out_vars) (λ end. Unit {0}) state
  stages_write (Bin k n ∷ ss) state =
      throughout-then (WritesTo setup.out_vars) (λ end. Unit {0})
      (run_tree setup rules n (bin setup k) state) (run_stages setup rules ss)
      (walk-tree (WritesTo setup.out_vars) (λ end. Unit {0}) setup rules n (bin setup k) state
      (trees_write_none setup.out_vars)) (stages_write ss)
  stages_write (Rotate ∷ ss) state =
      throughout-then (WritesTo setup.out_vars) (λ end. Unit {0})
      (does (Rotated state) (rotate state)) (run_stages setup rules ss)
      (record { entries = (tt, tt); outcome = tt }) (stages_write ss)
  stages_write (Save n ∷ ss) state =
      throughout-then (WritesTo setup.out_vars) (λ end. Unit {0})
      (does (Saved n state) state) (run_stages setup rules ss)
      (record { entries = (tt, tt); outcome = tt }) (stages_write ss)
  stages_write (Write n ∷ ss) state =
      throughout-then (WritesTo setup.out_vars) (λ end. Unit {0})
      (run_stage setup rules (Write n) state) (run_stages setup rules ss)
      (record {
        entries = all_write setup n state setup.out_vars setup.out_vars (λ u there. there);
        outcome = tt;
      }) (stages_write ss)

pub each_within : (P : Entry → Type 0) (so_far : Lengths) (es : List Entry) (o : Outcome)
    → Each P es → Each P (within_limit so_far es o).entries
each_within P so_far [] o each = tt
each_within P so_far (e ∷ es) o each =
    by (passing so_far e) (within_limit (lengths_after so_far e) es o)
    (each_within P (lengths_after so_far e) es o each.1)
  where
    by : (p : Option ℕ) (rest : Trace) → Each P rest.entries
        → Each P (stop_or p (after (e ∷ []) rest)).entries
    by None rest others = (each.0, others)
    by (Some n) rest others = tt

pub each_front : (P : Entry → Type 0) (a b : List Entry) → Each P (a ++ b) → Each P a
each_front P [] b each = tt
each_front P (e ∷ a) b each = (each.0, each_front P a b each.1)

pub each_rest : (P : Entry → Type 0) (a b : List Entry) → Each P (a ++ b) → Each P b
each_rest P [] b each = each
each_rest P (e ∷ a) b each = each_rest P a b each.1

-- a run writes to nothing else
pub run_writes : (setup : Setup) (rules : List Rule)
    → Each (WritesTo setup.out_vars) (undivided_run setup rules).entries
run_writes setup rules =
    let t = run_stages setup rules (stages setup) (start setup) in
    each_within (WritesTo setup.out_vars) no_lengths t.entries t.outcome
    (stages_write setup rules (stages setup) (start setup)).entries

-- ---- lengths behind entries

nothing_more : (n : ℕ) → n ≡ n + 0
nothing_more n = omega arith

pub after_is : (n : Lengths) (e : Entry) (v : VarId)
    → lengths_after n e v.0 ≡ n v.0 + length (text_to v e)
after_is n (Wrote w i text state) v = by (w.0 == v.0)
  where
    by : (b : Bool) → (if b then n v.0 + length text else n v.0)
        ≡ n v.0 + length (if b then text else [])
    by true = refl
    by false = nothing_more (n v.0)
after_is n (Turned k i state) v = nothing_more (n v.0)
after_is n (Overflowed k i state) v = nothing_more (n v.0)
after_is n (Exchanged vars path state) v = nothing_more (n v.0)
after_is n (Tested w path state) v = nothing_more (n v.0)
after_is n (Rotated state) v = nothing_more (n v.0)
after_is n (Saved i state) v = nothing_more (n v.0)

-- they grow by what is written
pub behind_is : (es : List Entry) (n : Lengths) (v : VarId)
    → lengths_behind n es v.0 ≡ n v.0 + length (output_of v es)
behind_is [] n v = nothing_more (n v.0)
behind_is (e ∷ es) n v =
    let one = after_is n e v in
    let rest = behind_is es (lengths_after n e) v in
    let size = length-append (text_to v e) (output_of v es) in
    omega (arith, one, rest, size)

pub first_behind : (es : List Entry) (v : VarId)
    → lengths_behind no_lengths es v.0 ≡ length (output_of v es)
first_behind es v = let e = behind_is es no_lengths v in omega (arith, e)

-- the front of an output
pub front_at : (v : VarId) (earlier later : List Entry)
    → take (length (output_of v earlier)) (output_of v (earlier ++ later)) ≡ output_of v earlier
front_at v earlier later =
    ap (take (length (output_of v earlier))) (output-both v earlier later)
    ∙ take_at (output_of v earlier) (output_of v later) (length (output_of v earlier)) refl

pub front_within : (v : VarId) (earlier later : List Entry)
    → length (output_of v earlier) ≤ length (output_of v (earlier ++ later))
front_within v earlier later =
    let e = ap (λ (t : List ℕ). length t) (output-both v earlier later) in
    let size = length-append (output_of v earlier) (output_of v later) in
    omega (arith, e, size)

-- ---- lengths in a list

-- longer outputs have longer lengths
pub longer_in : (vs : List VarId) (f g : Lengths) → AreNoLonger f g → (j : ℕ)
    → slice_index (lengths_in vs f) j ≤ slice_index (lengths_in vs g) j
longer_in [] f g more j = omega arith
longer_in (v ∷ vs) f g more zero = more v.0
longer_in (v ∷ vs) f g more (suc j) = longer_in vs f g more j

-- the variable at a place, or another one past the end
abbrev pub var_at : List VarId → ℕ → VarId
var_at vs j = get_or vs j (record { 0 = 0 })

pub length_at : (vs : List VarId) (f : Lengths) (j : ℕ) → j < length vs
    → slice_index (lengths_in vs f) j ≡ f (var_at vs j).0
length_at [] f j lt = absurd (omega (arith, lt))
length_at (v ∷ vs) f zero lt = refl
length_at (v ∷ vs) f (suc j) lt = length_at vs f j (omega (arith, lt))

pub text_at : (vs : List VarId) (f : VarId → List ℕ) (j : ℕ) → j < length vs
    → get_or (map f vs) j [] ≡ f (var_at vs j)
text_at [] f j lt = absurd (omega (arith, lt))
text_at (v ∷ vs) f zero lt = refl
text_at (v ∷ vs) f (suc j) lt = text_at vs f j (omega (arith, lt))

pub count_in : (vs : List VarId) (f : Lengths) → length (lengths_in vs f) ≡ length vs
count_in [] f = refl
count_in (v ∷ vs) f = ap suc (count_in vs f)

pub count_of : (vs : List VarId) (f : VarId → List ℕ) → length (map f vs) ≡ length vs
count_of [] f = refl
count_of (v ∷ vs) f = ap suc (count_of vs f)

-- lists of the same lengths
pub same_in : (vs : List VarId) (f : Lengths) (ls : List ℕ) → length ls ≡ length vs
    → ((j : ℕ) → j < length vs → slice_index ls j ≡ f (var_at vs j).0) → ls ≡ lengths_in vs f
same_in [] f [] e each = refl
same_in [] f (l ∷ ls) e each = absurd (omega (arith, e))
same_in (v ∷ vs) f [] e each = absurd (omega (arith, e))
same_in (v ∷ vs) f (l ∷ ls) e each =
    let first : l ≡ f v.0 = each 0 (omega arith) in
    let rest = same_in vs f ls (omega (arith, e)) (λ j lt. each (suc j) (omega (arith, lt))) in
    (λ i. first i ∷ rest i)

-- ---- and by the variables' numbers again

by_one : (w v : ℕ) (x y : ℕ) (b : Bool) → (w == v) ≡ b → (b ≡ true → x ≡ y) → (rest : ℕ)
    → (b ≡ false → rest ≡ y) → (if b then x else rest) ≡ y
by_one w v x y true is same rest other = same refl
by_one w v x y false is same rest other = other refl

by_in : (vs : List VarId) (f : Lengths) (v : VarId) → ((IsAmong vs v → ⊥) → f v.0 ≡ 0)
    → lengths_by vs (lengths_in vs f) v.0 ≡ f v.0
by_in [] f v none = sym (none (λ x. x))
by_in (w ∷ ws) f v none =
    by_one w.0 v.0 (f w.0) (f v.0) (w.0 == v.0) refl (λ is. ap f (eqb-true w.0 v.0 is))
    (lengths_by ws (lengths_in ws f) v.0)
    (λ other. by_in ws f v (λ missing. none (not_among other missing)))
  where
    not_among : (w.0 == v.0) ≡ false → (IsAmong ws v → ⊥) → IsAmong (w ∷ ws) v → ⊥
    not_among other missing (inl is) =
        let bad : true ≡ false = sym (eq-eqb w.0 v.0 (sym is)) ∙ other in
        absurd cc
    not_among other missing (inr there) = missing there

among_same : (vs : List VarId) (w v : VarId) → w.0 ≡ v.0 → IsAmong vs w → IsAmong vs v
among_same [] w v same there = there
among_same (u ∷ us) w v same (inl is) = inl (sym same ∙ is)
among_same (u ∷ us) w v same (inr there) = inr (among_same us w v same there)

-- the output of another variable gets nothing
pub none_written : (vs : List VarId) (es : List Entry) (v : VarId) → Each (WritesTo vs) es
    → (IsAmong vs v → ⊥) → output_of v es ≡ []
none_written vs [] v each missing = refl
none_written vs (e ∷ es) v each missing =
    ap (λ (t : List ℕ). t ++ output_of v es) (one e each.0)
    ∙ none_written vs es v each.1 missing
  where
    one : (d : Entry) → WritesTo vs d → text_to v d ≡ []
    one (Wrote w i text state) there = by (w.0 == v.0) refl
      where
        by : (b : Bool) → (w.0 == v.0) ≡ b → (if b then text else []) ≡ []
        by true is = absurd (missing (among_same vs w v (eqb-true w.0 v.0 is) there))
        by false is = refl
    one (Turned k i state) there = refl
    one (Overflowed k i state) there = refl
    one (Exchanged vars path state) there = refl
    one (Tested w path state) there = refl
    one (Rotated state) there = refl
    one (Saved i state) there = refl

-- the lengths behind entries that write to these alone, in a list and back
pub lengths_again : (vs : List VarId) (es : List Entry) → Each (WritesTo vs) es
    → lengths_by vs (lengths_in vs (lengths_behind no_lengths es)) ≡ lengths_behind no_lengths es
lengths_again vs es each =
    (λ i v. at (record { 0 = v }) i)
  where
    at : (v : VarId) → lengths_by vs (lengths_in vs (lengths_behind no_lengths es)) v.0
        ≡ lengths_behind no_lengths es v.0
    at v = by_in vs (lengths_behind no_lengths es) v
        (λ missing. first_behind es v ∙ ap (λ (t : List ℕ). length t)
        (none_written vs es v each missing))

-- ---- the place of a variable

pub place_within : (vs : List VarId) (v : VarId) → IsAmong vs v → place_in vs v < length vs
place_within [] v there = absurd there
place_within (w ∷ ws) v there = by (w.0 == v.0) refl there (λ t. place_within ws v t)
  where
    by : (b : Bool) → (w.0 == v.0) ≡ b → IsAmong (w ∷ ws) v
        → (IsAmong ws v → place_in ws v < length ws)
        → (if b then 0 else suc (place_in ws v)) < suc (length ws)
    by true is t rest = omega arith
    by false is (inl same) rest =
        absurd (let bad : true ≡ false = sym (eq-eqb w.0 v.0 (sym same)) ∙ is in cc)
    by false is (inr t) rest = let lt = rest t in omega (arith, lt)

pub place_is : (vs : List VarId) (v : VarId) → IsAmong vs v → (var_at vs (place_in vs v)).0 ≡ v.0
place_is [] v there = absurd there
place_is (w ∷ ws) v there = by (w.0 == v.0) refl there (λ t. place_is ws v t)
  where
    by : (b : Bool) → (w.0 == v.0) ≡ b → IsAmong (w ∷ ws) v
        → (IsAmong ws v → (var_at ws (place_in ws v)).0 ≡ v.0)
        → (var_at (w ∷ ws) (if b then 0 else suc (place_in ws v))).0 ≡ v.0
    by true is t rest = eqb-true w.0 v.0 is
    by false is (inl same) rest =
        absurd (let bad : true ≡ false = sym (eq-eqb w.0 v.0 (sym same)) ∙ is in cc)
    by false is (inr t) rest = rest t

-- ---- variables in rising order

abbrev pub Above : ℕ → List VarId → Type 0
Above w [] = Unit {0}
Above w (v ∷ vs) = (w < v.0) × Above w vs

abbrev pub Rise : List VarId → Type 0
Rise [] = Unit {0}
Rise (v ∷ vs) = Above v.0 vs × Rise vs

above_from : (w : ℕ) (vs : List VarId) → ((j : ℕ) → j < length vs → w < (var_at vs j).0)
    → Above w vs
above_from w [] each = tt
above_from w (v ∷ vs) each =
    (each 0 (omega arith), above_from w vs (λ j lt. each (suc j) (omega (arith, lt))))

pub rise_from : (vs : List VarId) → AllPairs (λ (a b : VarId). a.0 < b.0) vs → Rise vs
rise_from [] pairs = tt
rise_from (v ∷ vs) pairs = (
  above_from v.0 vs (λ j lt. pairs 0 (suc j) (record { 0 = 0 }) (omega arith) (omega (arith, lt))),
  rise_from vs (λ i j d l h. pairs (suc i) (suc j) d (omega (arith, l)) (omega (arith, h))),
)

is_above : (vs : List VarId) (v : ℕ) (w : VarId) → Above v vs → IsAmong vs w → v < w.0
is_above [] v w above there = absurd there
is_above (u ∷ us) v w above (inl is) = let lt = above.0 in omega (arith, lt, is)
is_above (u ∷ us) v w above (inr there) = is_above us v w above.1 there

not_this : (w v : ℕ) → w < v → w ≡ v → ⊥
not_this w v lt same = omega (arith, lt, same)

few_rising : (w n : ℕ) (vs : List VarId) → w ≤ n → Rise vs
    → ((v : VarId) → IsAmong vs v → w ≤ v.0) → ((v : VarId) → IsAmong vs v → v.0 < n)
    → w + length vs ≤ n
few_rising w n [] le rise least most = omega (arith, le)
few_rising w n (v ∷ vs) le rise least most =
    let low = least v (inl refl) in
    let high = most v (inl refl) in
    let rest = few_rising (suc v.0) n vs (omega (arith, high)) rise.1
    (λ u there. is_above vs v.0 u rise.0 there) (λ u there. most u (inr there)) in
    omega (arith, low, rest)

-- there are no more of them than numbers below their bound
pub few_among : (n : ℕ) (vs : List VarId) → Rise vs → ((v : VarId) → IsAmong vs v → v.0 < n)
    → length vs ≤ n
few_among n vs rise most =
    let few = few_rising 0 n vs (omega arith) rise (λ v there. omega arith) most in
    omega (arith, few)

-- what holds of each number of some holds of one among them
pub among_all : (P : ℕ → Type 0) (vs : List VarId) → All (λ (v : VarId). P v.0) vs
    → (v : VarId) → IsAmong vs v → P v.0
among_all P [] all v there = absurd there
among_all P (w ∷ ws) all v (inl is) =
    subst P (sym is) (All-head (λ (u : VarId). P u.0) w ws all)
among_all P (w ∷ ws) all v (inr there) =
    among_all P ws (All-tail (λ (u : VarId). P u.0) w ws all) v there

-- ---- texts of all but one variable are the same

all_same : (w : ℕ) (vs : List VarId) (f g : VarId → List ℕ) → Above w vs
    → ((u : VarId) → u.0 ≢ w → f u ≡ g u) → (i : ℕ)
    → get_or (map f vs) i [] ≡ get_or (map g vs) i []
all_same w [] f g above same i = refl
all_same w (v ∷ vs) f g above same zero = same v (λ is. not_this w v.0 above.0 (sym is))
all_same w (v ∷ vs) f g above same (suc i) = all_same w vs f g above.1 same i

pub others_same : (vs : List VarId) → Rise vs → (v : VarId) (f g : VarId → List ℕ)
    → ((u : VarId) → u.0 ≢ v.0 → f u ≡ g u) → (i : ℕ) → i ≢ place_in vs v
    → get_or (map f vs) i [] ≡ get_or (map g vs) i []
others_same [] rise v f g same i other = refl
others_same (w ∷ ws) rise v f g same i other =
    by (w.0 == v.0) refl i other (λ k h. others_same ws rise.1 v f g same k h)
  where
    not_same : (w.0 == v.0) ≡ false → w.0 ≢ v.0
    not_same is e = let bad : true ≡ false = sym (eq-eqb w.0 v.0 e) ∙ is in cc

    by : (b : Bool) → (w.0 == v.0) ≡ b → (i : ℕ) → i ≢ (if b then 0 else suc (place_in ws v))
        → ((k : ℕ) → k ≢ place_in ws v → get_or (map f ws) k [] ≡ get_or (map g ws) k [])
        → get_or (map f (w ∷ ws)) i [] ≡ get_or (map g (w ∷ ws)) i []
    by true is zero other rest = absurd (other refl)
    by true is (suc k) other rest =
        all_same v.0 ws f g (subst (λ (n : ℕ). Above n ws) (eqb-true w.0 v.0 is) rise.0) same k
    by false is zero other rest = same w (not_same is)
    by false is (suc k) other rest = rest k (λ e. other (ap suc e))

-- ---- the former output is as long as all outputs together

nothing_before : (n : ℕ) → 0 + n ≡ n
nothing_before n = omega arith

-- the lengths of some texts, one for each variable
abbrev sizes : List VarId → (VarId → ℕ) → ℕ
sizes vs f = total (map f vs)

sizes_none : (vs : List VarId) (f : VarId → ℕ) → ((v : VarId) → f v ≡ 0) → sizes vs f ≡ 0
sizes_none [] f none = refl
sizes_none (v ∷ vs) f none = let a = none v in let b = sizes_none vs f none in
    omega (arith, a, b)

sizes_same : (vs : List VarId) (f g : VarId → ℕ) → ((v : VarId) → f v ≡ g v)
    → sizes vs f ≡ sizes vs g
sizes_same [] f g each = refl
sizes_same (v ∷ vs) f g each = let a = each v in let b = sizes_same vs f g each in
    omega (arith, a, b)

sizes_both : (vs : List VarId) (f g h : VarId → ℕ) → ((v : VarId) → h v ≡ f v + g v)
    → sizes vs h ≡ sizes vs f + sizes vs g
sizes_both [] f g h each = refl
sizes_both (v ∷ vs) f g h each = let a = each v in let b = sizes_both vs f g h each in
    omega (arith, a, b)

-- a text counts for its own variable alone
abbrev size_for : VarId → ℕ → VarId → ℕ
size_for w n v = if w.0 == v.0 then n else 0

not_there : (vs : List VarId) (w : VarId) (n : ℕ) → Above w.0 vs → sizes vs (size_for w n) ≡ 0
not_there [] w n above = refl
not_there (v ∷ vs) w n above =
    ap (λ (b : Bool). (if b then n else 0) + sizes vs (size_for w n))
    (ne_eqb w.0 v.0 (not_this w.0 v.0 above.0))
    ∙ nothing_before (sizes vs (size_for w n)) ∙ not_there vs w n above.1

once : (vs : List VarId) (w : VarId) (n : ℕ) → Rise vs → IsAmong vs w
    → sizes vs (size_for w n) ≡ n
once [] w n rise there = absurd there
once (v ∷ vs) w n rise (inl is) =
    ap (λ (b : Bool). (if b then n else 0) + sizes vs (size_for w n)) (eq-eqb w.0 v.0 is)
    ∙ ap (λ (k : ℕ). n + k) (not_there vs w n (subst (λ (k : ℕ). Above k vs) (sym is) rise.0))
    ∙ sym (nothing_more n)
once (v ∷ vs) w n rise (inr there) =
    ap (λ (b : Bool). (if b then n else 0) + sizes vs (size_for w n))
    (ne_eqb w.0 v.0 (λ same. not_this v.0 w.0 (is_above vs v.0 w rise.0 there) (sym same)))
    ∙ nothing_before (sizes vs (size_for w n)) ∙ once vs w n rise.1 there

text_size : (b : Bool) (text : List ℕ)
    → length (if b then text else []) ≡ (if b then length text else 0)
text_size true text = refl
text_size false text = refl

one_size : (vs : List VarId) (e : Entry) → Rise vs → WritesTo vs e
    → sizes vs (λ v. length (text_to v e)) ≡ length (text_added e)
one_size vs (Wrote w i text state) rise there =
    sizes_same vs (λ v. length (text_to v (Wrote w i text state))) (size_for w (length text))
    (λ v. text_size (w.0 == v.0) text)
    ∙ once vs w (length text) rise there
one_size vs (Turned k i state) rise there = sizes_none vs (λ v. 0) (λ v. refl)
one_size vs (Overflowed k i state) rise there = sizes_none vs (λ v. 0) (λ v. refl)
one_size vs (Exchanged vars path state) rise there = sizes_none vs (λ v. 0) (λ v. refl)
one_size vs (Tested w path state) rise there = sizes_none vs (λ v. 0) (λ v. refl)
one_size vs (Rotated state) rise there = sizes_none vs (λ v. 0) (λ v. refl)
one_size vs (Saved i state) rise there = sizes_none vs (λ v. 0) (λ v. refl)

all_sizes : (vs : List VarId) (es : List Entry) → Rise vs → Each (WritesTo vs) es
    → sizes vs (λ v. length (output_of v es)) ≡ length (former_output es)
all_sizes vs [] rise each = sizes_none vs (λ v. 0) (λ v. refl)
all_sizes vs (e ∷ es) rise each =
    let both = sizes_both vs (λ v. length (text_to v e)) (λ v. length (output_of v es))
    (λ v. length (output_of v (e ∷ es)))
    (λ v. length-append (text_to v e) (output_of v es)) in
    let one = one_size vs e rise each.0 in
    let rest = all_sizes vs es rise each.1 in
    let all = length-append (text_added e) (former_output es) in
    omega (arith, both, one, rest, all)

pub former_size : (vs : List VarId) (es : List Entry) → Rise vs → Each (WritesTo vs) es
    → total (lengths_in vs (lengths_behind no_lengths es)) ≡ length (former_output es)
former_size vs es rise each =
    sizes_same vs (λ v. lengths_behind no_lengths es v.0) (λ v. length (output_of v es))
    (first_behind es) ∙ all_sizes vs es rise each

pub former-both : (xs ys : List Entry)
    → former_output (xs ++ ys) ≡ former_output xs ++ former_output ys
former-both [] ys = refl
former-both (e ∷ xs) ys =
    ap (λ (t : List ℕ). text_added e ++ t) (former-both xs ys)
    ∙ sym (append_assoc (text_added e) (former_output xs) (former_output ys))

pub former_front : (earlier later : List Entry)
    → take (length (former_output earlier)) (former_output (earlier ++ later))
    ≡ former_output earlier
former_front earlier later =
    ap (take (length (former_output earlier))) (former-both earlier later)
    ∙ take_at (former_output earlier) (former_output later) (length (former_output earlier)) refl

pub former_within : (earlier later : List Entry)
    → length (former_output earlier) ≤ length (former_output (earlier ++ later))
former_within earlier later =
    let e = ap (λ (t : List ℕ). length t) (former-both earlier later) in
    let size = length-append (former_output earlier) (former_output later) in
    omega (arith, e, size)
