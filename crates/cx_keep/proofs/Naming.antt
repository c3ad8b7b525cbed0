-- How many outputs a job has, that their names differ, and how long what a former output splits
-- into is.
use Rattle.std.proofs.Common.{◌≡◌, ◌≢◌, ℕ, suc, ◌+◌, ◌≤◌, ◌<◌, Bool, true, false, ◌&&◌, ◌||◌, List, [], ◌∷◌, ◌++◌, length, map, refl, sym, ◌∙◌, ap, subst, arith}
use Rattle.std.specs.Prelude.{Some, bytes_eq, slice_index_or, All, AllPairs}
use Rattle.std.specs.List.{flat_map, list_all, list_any}
use Rattle.std.proofs.lemmas.List.{length-append, length-map}
use Rattle.std.proofs.lemmas.Slice.Eq.{bytes_eq-Decides}
use Rattle.cx_plan.specs.declared.variable.VarId.{VarId}
use Rattle.cx_plan.specs.declared.variable.VarInfo.{VarInfo}
use Rattle.cx_plan.specs.declared.job.Job.{Job}
use Rattle.cx_plan.specs.Lookups.{variable, no_variable}
use Rattle.cx_plan.specs.Setups.{Setup, setup_of}
use Rattle.cx_plan.specs.Whole.{IsWhole}
use Rattle.cx_outputs.specs.Names.{output_count, full_names}
use Rattle.cx_ascii_read.specs.declared.record.Record.{Record}
use Rattle.cx_ascii_read.specs.Records.{record_text}
use Rattle.cx_ascii_read.specs.Splitting.{is_named, text_named, texts_named, split_of}
use Rattle.cx_ascii_read.proofs.SplitLaws.{split_spelled}
use Rattle.cx_keep.specs.Trails.{total}

-- rising numbers below a limit are no more than that
few_from : (vs : List VarId) (n k : ℕ) → k ≤ n → All (λ (v : VarId). v.0 < n) vs
    → AllPairs (λ (a b : VarId). a.0 < b.0) vs → All (λ (v : VarId). k ≤ v.0) vs
    → length vs + k ≤ n
few_from [] n k le all rise low = omega arith
few_from (v ∷ vs) n k le all rise low =
    let a : v.0 < n = all 0 v (omega arith) in
    let b : k ≤ v.0 = low 0 v (omega arith) in
    let rest = few_from vs n (v.0 + 1) (omega arith) (λ j d lt. all (suc j) d (omega arith))
    (λ i j d lt within. rise (suc i) (suc j) d (omega arith) (omega arith))
    (λ j d lt.
    let r : v.0 < (slice_index_or vs j d).0 = rise 0 (suc j) d (omega arith) (omega arith) in
    omega arith) in
    omega arith

pub few_outputs : (job : Job) → IsWhole job → output_count (setup_of job) ≤ 256
few_outputs job whole =
    let most = few_from job.out_vars (length job.vars) 0 (omega arith)
    (λ j d lt. (whole.outputs j d lt).0) whole.outputs_rise (λ j d lt. omega arith) in
    let limit = whole.variables_limit in
    omega arith

-- ---- names

-- no name is there twice
abbrev Differ : List (List ℕ) → Type 0
Differ [] = Unit {0}
Differ (n ∷ ns) = (list_any (λ (m : List ℕ). bytes_eq n m) ns ≡ false) × Differ ns

not_same : (a b : List ℕ) → (a ≡ b → ⊥) → bytes_eq a b ≡ false
not_same a b ne = by (bytes_eq a b) refl
  where
    by : (t : Bool) → bytes_eq a b ≡ t → t ≡ false
    by true is = absurd (ne ((bytes_eq-Decides a b).0 is))
    by false is = refl

module _ (setup : Setup) (apart : AllPairs (λ (a b : VarInfo). a.full ≢ b.full) setup.vars) where
  name_of : VarId → List ℕ
  name_of v = (variable setup v).full

  no_other : (v : VarId) (ws : List VarId) → All (λ (w : VarId). w.0 < length setup.vars) ws
      → All (λ (w : VarId). v.0 < w.0) ws
      → list_any (λ (m : List ℕ). bytes_eq (name_of v) m) (map name_of ws) ≡ false
  unfolding name_of
  no_other v [] all above = refl
  no_other v (w ∷ ws) all above =
      rw (not_same (name_of v) (name_of w)
      (apart v.0 w.0 no_variable (above 0 w (omega arith)) (all 0 w (omega arith))))
      (no_other v ws (λ j d lt. all (suc j) d (omega arith))
      (λ j d lt. above (suc j) d (omega arith)))

  names_apart : (vs : List VarId) → All (λ (w : VarId). w.0 < length setup.vars) vs
      → AllPairs (λ (a b : VarId). a.0 < b.0) vs → Differ (map name_of vs)
  names_apart [] all rise = tt
  names_apart (v ∷ vs) all rise = (
    no_other v vs (λ j d lt. all (suc j) d (omega arith))
        (λ j d lt. rise 0 (suc j) d (omega arith) (omega arith)),
    names_apart vs (λ j d lt. all (suc j) d (omega arith))
        (λ i j d lt within. rise (suc i) (suc j) d (omega arith) (omega arith)),
  )

full_differ : (job : Job) → IsWhole job → Differ (full_names (setup_of job))
unfolding name_of
full_differ job whole =
    names_apart (setup_of job) whole.names_differ job.out_vars
    (λ j d lt. (whole.outputs j d lt).0) whole.outputs_rise

-- ---- texts

-- how long the texts of a record are, by the names
all_named : List (List ℕ) → Record → ℕ
all_named names r = total (map (λ (name : List ℕ). length (text_named name r)) names)

none_named : (names : List (List ℕ)) (r : Record)
    → list_any (λ (name : List ℕ). bytes_eq r.full name) names ≡ false → all_named names r ≡ 0
unfolding all_named
none_named [] r none = refl
none_named (n ∷ ns) r none = by (bytes_eq r.full n) refl none (none_named ns r)
  where
    by : (t : Bool) → bytes_eq r.full n ≡ t
        → (t || list_any (λ (name : List ℕ). bytes_eq r.full name) ns) ≡ false
        → (list_any (λ (name : List ℕ). bytes_eq r.full name) ns ≡ false → all_named ns r ≡ 0)
        → all_named (n ∷ ns) r ≡ 0
    by true is bad more = absurd cc
    by false is rest more =
        let first : length (text_named n r) ≡ 0 = rw is refl in
        let others : all_named ns r ≡ 0 = more rest in
        omega arith

-- just one of the names is the record's
one_named : (names : List (List ℕ)) (r : Record) → Differ names
    → list_any (λ (name : List ℕ). bytes_eq r.full name) names ≡ true
    → all_named names r ≡ length (record_text r)
unfolding all_named
one_named [] r differ named = absurd cc
one_named (n ∷ ns) r differ named =
    by (bytes_eq r.full n) refl named (one_named ns r differ.1)
  where
    by : (t : Bool) → bytes_eq r.full n ≡ t
        → (t || list_any (λ (name : List ℕ). bytes_eq r.full name) ns) ≡ true
        → (list_any (λ (name : List ℕ). bytes_eq r.full name) ns ≡ true
        → all_named ns r ≡ length (record_text r))
        → all_named (n ∷ ns) r ≡ length (record_text r)
    by true is some more =
        let same : r.full ≡ n = (bytes_eq-Decides r.full n).0 is in
        let rest : all_named ns r ≡ 0 =
        none_named ns r (subst (λ (m : List ℕ).
        list_any (λ (name : List ℕ). bytes_eq m name) ns ≡ false) (sym same) differ.0) in
        let first : length (text_named n r) ≡ length (record_text r) = rw is refl in
        omega arith
    by false is rest more =
        let first : length (text_named n r) ≡ 0 = rw is refl in
        let others : all_named ns r ≡ length (record_text r) = more rest in
        omega arith

-- a record more
more_named : (names : List (List ℕ)) (r : Record) (rs : List Record)
    → total (map (λ (t : List ℕ). length t) (texts_named names (r ∷ rs)))
    ≡ all_named names r + total (map (λ (t : List ℕ). length t) (texts_named names rs))
unfolding all_named
more_named [] r rs = refl
more_named (n ∷ ns) r rs =
    let rest = more_named ns r rs in
    let first : length (text_named n r ++ flat_map (text_named n) rs)
    ≡ length (text_named n r) + length (flat_map (text_named n) rs) =
    length-append (text_named n r) (flat_map (text_named n) rs) in
    omega arith

none_total : (names : List (List ℕ))
    → total (map (λ (t : List ℕ). length t) (texts_named names [])) ≡ 0
none_total [] = refl
none_total (n ∷ ns) = let rest = none_total ns in omega arith

and_parts : (a b : Bool) → (a && b) ≡ true → (a ≡ true) × (b ≡ true)
and_parts true b e = (refl, e)
and_parts false b e = absurd cc

all_total : (names : List (List ℕ)) (rs : List Record) → Differ names
    → list_all (is_named names) rs ≡ true
    → total (map (λ (t : List ℕ). length t) (texts_named names rs))
    ≡ length (flat_map record_text rs)
all_total names [] differ all = none_total names
all_total names (r ∷ rs) differ all =
    let a = and_parts (is_named names r) (list_all (is_named names) rs) all in
    let more = more_named names r rs in
    let one = one_named names r differ a.0 in
    let rest = all_total names rs differ a.1 in
    let size : length (record_text r ++ flat_map record_text rs)
    ≡ length (record_text r) + length (flat_map record_text rs) =
    length-append (record_text r) (flat_map record_text rs) in
    omega arith

-- all that is split is there
pub split_total : (job : Job) → IsWhole job → (bytes : List ℕ) (texts : List (List ℕ))
    → split_of bytes (full_names (setup_of job)) ≡ Some texts
    → total (map (λ (t : List ℕ). length t) texts) ≡ length bytes
split_total job whole bytes texts is =
    let names = full_names (setup_of job) in
    let s = split_spelled bytes names texts is in
    ap (λ (ts : List (List ℕ)). total (map (λ (t : List ℕ). length t) ts)) s.3
    ∙ all_total names s.0 (full_differ job whole) s.2
    ∙ sym (ap length s.1.spelled)

pub split_many : (job : Job) (bytes : List ℕ) (texts : List (List ℕ))
    → split_of bytes (full_names (setup_of job)) ≡ Some texts
    → length texts ≡ output_count (setup_of job)
split_many job bytes texts is =
    let names = full_names (setup_of job) in
    let s = split_spelled bytes names texts is in
    ap length s.3
    ∙ length-map names (λ (name : List ℕ). flat_map (text_named name) s.0)
    ∙ length-map job.out_vars (λ (v : VarId). (variable (setup_of job) v).full)
