-- The lengths of the outputs, by the variables that are written.
use Rattle.std.proofs.Common.{◌≡◌, ℕ, suc, ◌+◌, ◌<◌, ◌⊎◌, inl, inr, Bool, true, false, ◌||◌, List, [], ◌∷◌, length, replicate, arith, refl, sym, ap, ◌∙◌, subst, eq-eqb}
use Rattle.std.specs.Prelude.{AllPairs, ◌==◌, slice_index, slice_index_or, slice_set, if◌then◌else◌}
use Rattle.std.proofs.lemmas.Bool.{cases_eq, ne_eqb}
use Rattle.cx_plan.specs.declared.variable.VarId.{VarId}
use Rattle.cx_plan.specs.Regions.{is_among}
use Rattle.cx_model.specs.Runs.{Lengths, grown_by, no_lengths}
use Rattle.cx_outputs.specs.Names.{place_in, lengths_in, lengths_by}

abbrev pub Rise : List VarId → Type 0
Rise vs = AllPairs (λ (a b : VarId). a.0 < b.0) vs

-- the numbers of some variables are above a number
abbrev Above : ℕ → List VarId → Type 0
Above n vs = (k : ℕ) (d : VarId) → k < length vs → n < (slice_index_or vs k d).0

first_least : (v : VarId) (vs : List VarId) → Rise (v ∷ vs) → Above v.0 vs
first_least v vs rise = λ k d l. rise 0 (suc k) d (omega arith) (omega (arith, l))

rise_on : (v : VarId) (vs : List VarId) → Rise (v ∷ vs) → Rise vs
rise_on v vs rise = λ i j d l m. rise (suc i) (suc j) d (omega (arith, l)) (omega (arith, m))

among_on : (v w : VarId) (ws : List VarId) → is_among v (w ∷ ws) ≡ true → (w.0 ≡ v.0 → ⊥)
    → is_among v ws ≡ true
among_on v w ws among other =
    sym (ap (λ (b : Bool). b || is_among v ws) (ne_eqb v.0 w.0 (λ e. other (sym e)))) ∙ among

none_among : {P : Type 0} → false ≡ true → P
none_among e = absurd cc

-- lengths that agree above a number
same_above : (n : ℕ) (f g : Lengths) → ((u : ℕ) → n < u → f u ≡ g u) → (vs : List VarId)
    → Above n vs → lengths_in vs f ≡ lengths_in vs g
same_above n f g same [] above = refl
same_above n f g same (v ∷ vs) above =
    ap (λ (l : ℕ). l ∷ lengths_in vs f) (same v.0 (above 0 v (omega arith)))
    ∙ ap (λ (ls : List ℕ). g v.0 ∷ ls)
    (same_above n f g same vs (λ k d l. above (suc k) d (omega (arith, l))))

pub lengths_count : (vs : List VarId) (f : Lengths) → length (lengths_in vs f) ≡ length vs
lengths_count [] f = refl
lengths_count (v ∷ vs) f = ap suc (lengths_count vs f)

-- ---- the place of a variable

place_by : (v w : VarId) (ws : List VarId) → (w.0 ≡ v.0) ⊎ (w.0 ≡ v.0 → ⊥)
    → ((w.0 ≡ v.0 → ⊥) → place_in ws v < length ws)
    → (if w.0 == v.0 then 0 else suc (place_in ws v)) < suc (length ws)
place_by v w ws (inl e) on =
    subst (λ (b : Bool). (if b then 0 else suc (place_in ws v)) < suc (length ws))
    (sym (eq-eqb w.0 v.0 e)) (omega arith)
place_by v w ws (inr other) on =
    let l = on other in
    subst (λ (b : Bool). (if b then 0 else suc (place_in ws v)) < suc (length ws))
    (sym (ne_eqb w.0 v.0 other)) (omega (arith, l))

pub place_there : (v : VarId) (vs : List VarId) → is_among v vs ≡ true → place_in vs v < length vs
place_there v [] among = none_among among
place_there v (w ∷ ws) among = place_by v w ws (cases_eq w.0 v.0)
    (λ other. place_there v ws (among_on v w ws among other))

length_by : (f : Lengths) (v w : VarId) (ws : List VarId) → (w.0 ≡ v.0) ⊎ (w.0 ≡ v.0 → ⊥)
    → ((w.0 ≡ v.0 → ⊥) → slice_index (lengths_in ws f) (place_in ws v) ≡ f v.0)
    → slice_index (lengths_in (w ∷ ws) f) (if w.0 == v.0 then 0 else suc (place_in ws v)) ≡ f v.0
length_by f v w ws (inl e) on =
    ap (λ (b : Bool). slice_index (lengths_in (w ∷ ws) f) (if b then 0 else suc (place_in ws v)))
    (eq-eqb w.0 v.0 e) ∙ ap f e
length_by f v w ws (inr other) on =
    ap (λ (b : Bool). slice_index (lengths_in (w ∷ ws) f) (if b then 0 else suc (place_in ws v)))
    (ne_eqb w.0 v.0 other) ∙ on other

-- the length at its place is its own
pub length_there : (f : Lengths) (v : VarId) (vs : List VarId) → is_among v vs ≡ true
    → slice_index (lengths_in vs f) (place_in vs v) ≡ f v.0
length_there f v [] among = none_among among
length_there f v (w ∷ ws) among = length_by f v w ws (cases_eq w.0 v.0)
    (λ other. length_there f v ws (among_on v w ws among other))

-- ---- behind a text

grown_same : (f : Lengths) (w v : VarId) (n : ℕ) → w.0 ≡ v.0 → f v.0 + n ≡ grown_by f v n w.0
grown_same f w v n e =
    ap (λ (m : ℕ). f m + n) (sym e)
    ∙ ap (λ (b : Bool). if b then f w.0 + n else f w.0) (sym (eq-eqb v.0 w.0 (sym e)))

grown_other : (f : Lengths) (v : VarId) (n u : ℕ) → (v.0 ≡ u → ⊥) → f u ≡ grown_by f v n u
grown_other f v n u other = ap (λ (b : Bool). if b then f u + n else f u) (sym (ne_eqb v.0 u other))

put_by : (f : Lengths) (v : VarId) (n : ℕ) (w : VarId) (ws : List VarId) → Rise (w ∷ ws)
    → (w.0 ≡ v.0) ⊎ (w.0 ≡ v.0 → ⊥)
    → ((w.0 ≡ v.0 → ⊥) → slice_set (lengths_in ws f) (place_in ws v) (f v.0 + n)
    ≡ lengths_in ws (grown_by f v n))
    → slice_set (lengths_in (w ∷ ws) f) (if w.0 == v.0 then 0 else suc (place_in ws v)) (f v.0 + n)
    ≡ lengths_in (w ∷ ws) (grown_by f v n)
put_by f v n w ws rise (inl e) on =
    ap (λ (b : Bool). slice_set (lengths_in (w ∷ ws) f) (if b then 0 else suc (place_in ws v))
    (f v.0 + n)) (eq-eqb w.0 v.0 e)
    ∙ ap (λ (l : ℕ). l ∷ lengths_in ws f) (grown_same f w v n e)
    ∙ ap (λ (ls : List ℕ). grown_by f v n w.0 ∷ ls)
    (same_above w.0 f (grown_by f v n)
    (λ u l. grown_other f v n u (λ q. omega (arith, e, q, l))) ws (first_least w ws rise))
put_by f v n w ws rise (inr other) on =
    ap (λ (b : Bool). slice_set (lengths_in (w ∷ ws) f) (if b then 0 else suc (place_in ws v))
    (f v.0 + n)) (ne_eqb w.0 v.0 other)
    ∙ ap (λ (ls : List ℕ). f w.0 ∷ ls) (on other)
    ∙ ap (λ (l : ℕ). l ∷ lengths_in ws (grown_by f v n))
    (grown_other f v n w.0 (λ q. other (sym q)))

-- only the length of the variable that has the text has grown
pub length_put : (f : Lengths) (v : VarId) (n : ℕ) (vs : List VarId) → Rise vs
    → is_among v vs ≡ true
    → slice_set (lengths_in vs f) (place_in vs v) (f v.0 + n) ≡ lengths_in vs (grown_by f v n)
length_put f v n [] rise among = none_among among
length_put f v n (w ∷ ws) rise among = put_by f v n w ws rise (cases_eq w.0 v.0)
    (λ other. length_put f v n ws (rise_on w ws rise) (among_on v w ws among other))

-- ---- where a run begins

pub none_again : (vs : List VarId) → replicate (length vs) 0 ≡ lengths_in vs no_lengths
none_again [] = refl
none_again (v ∷ vs) = ap (λ (ls : List ℕ). 0 ∷ ls) (none_again vs)

-- the lengths of a list, by the variables' numbers, are those of the list
pub lengths_again : (vs : List VarId) (ls : List ℕ) → Rise vs → length ls ≡ length vs
    → ls ≡ lengths_in vs (lengths_by vs ls)
lengths_again [] [] rise many = refl
lengths_again [] (l ∷ ls) rise many = absurd (omega (arith, many))
lengths_again (v ∷ vs) [] rise many = absurd (omega (arith, many))
lengths_again (v ∷ vs) (l ∷ ls) rise many =
    ap (λ (b : Bool). (if b then l else lengths_by vs ls v.0) ∷ ls) (sym (eq-eqb v.0 v.0 refl))
    ∙ ap (λ (ms : List ℕ). lengths_by (v ∷ vs) (l ∷ ls) v.0 ∷ ms)
    (lengths_again vs ls (rise_on v vs rise) (omega (arith, many))
    ∙ same_above v.0 (lengths_by vs ls) (lengths_by (v ∷ vs) (l ∷ ls))
    (λ u m. ap (λ (b : Bool). if b then l else lengths_by vs ls u)
    (sym (ne_eqb v.0 u (λ q. omega (arith, q, m))))) vs (first_least v vs rise))
