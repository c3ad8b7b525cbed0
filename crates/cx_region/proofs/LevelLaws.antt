-- At how many levels the followed flag is set on all ways; it falls where ways join that show a
-- further level.
use Rattle.std.proofs.Common.{◌≡◌, ℕ, suc, ◌+◌, ◌<◌, ◌≤◌, Bool, true, false, ◌||◌, ◌&&◌, cond, refl, sym, ap, ◌∙◌, List, [], ◌∷◌, get_or, inl, inr, arith}
use Rattle.std.specs.List.{All, list_all, range_with_len}
use Rattle.std.proofs.lemmas.List.Elements.{All-head, All-tail}
use Rattle.std.proofs.lemmas.List.FromFn.{get_or-range_with_len, length-range_with_len}
use Rattle.cx_region.specs.declared.witness.Witness.{Witness}
use Rattle.cx_region.specs.declared.witness.Followed.{Followed}
use Rattle.cx_region_flags.specs.Cells.{flags_in}
use Rattle.cx_region.specs.Witnesses.{IsAmong, is_cleared_on, covers_one, covers, Joins}
use Rattle.cx_region.proofs.WitnessLaws.{cleared-from, cleared-to}

-- how many numbers don't pass
abbrev failing : (ℕ → Bool) → List ℕ → ℕ
failing p [] = 0
failing p (l ∷ ls) = cond (p l) (failing p ls) (suc (failing p ls))

pub set_everywhere : Followed → List Witness → ℕ
set_everywhere x ways = failing (is_cleared_on x ways) (range_with_len 0 8)

no_less : (a b : Bool) (m n : ℕ) → (a ≡ true → b ≡ true) → m ≤ n
    → cond b m (suc m) ≤ cond a n (suc n)
no_less true true m n h below = below
no_less true false m n h below = absurd (by (h refl))
  where
    by : false ≡ true → ⊥
    by e = absurd (cc)
no_less false true m n h below = omega arith
no_less false false m n h below = omega arith

fewer : (p q : ℕ → Bool) (ls : List ℕ) → All (λ l. p l ≡ true → q l ≡ true) ls
    → failing q ls ≤ failing p ls
fewer p q [] more = omega arith
fewer p q (l ∷ ls) more =
    no_less (p l) (q l) (failing q ls) (failing p ls)
    (All-head (λ l. p l ≡ true → q l ≡ true) l ls more)
    (fewer p q ls (All-tail (λ l. p l ≡ true → q l ≡ true) l ls more))

less : (f a b rest : Bool) (m n : ℕ) → (a ≡ true → b ≡ true) → (f ≡ false → b ≡ true)
    → ((f || a) && rest) ≡ false → m ≤ n → (rest ≡ false → m < n)
    → cond b m (suc m) < cond a n (suc n)
less true true true rest m n h g e below strict = strict e
less true false true rest m n h g e below strict = let s = strict e in omega arith
less true false false rest m n h g e below strict = let s = strict e in omega arith
less true true false rest m n h g e below strict = absurd (by (h refl))
  where
    by : false ≡ true → ⊥
    by e = absurd (cc)
less false true true rest m n h g e below strict = strict e
less false false true rest m n h g e below strict = omega arith
less false true false rest m n h g e below strict = absurd (by (g refl))
  where
    by : false ≡ true → ⊥
    by e = absurd (cc)
less false false false rest m n h g e below strict = absurd (by (g refl))
  where
    by : false ≡ true → ⊥
    by e = absurd (cc)

strictly : (p q f : ℕ → Bool) (ls : List ℕ) → All (λ l. p l ≡ true → q l ≡ true) ls
    → All (λ l. f l ≡ false → q l ≡ true) ls → list_all (λ l. f l || p l) ls ≡ false
    → failing q ls < failing p ls
strictly p q f [] more new e = absurd (cc)
strictly p q f (l ∷ ls) more new e =
    let more_rest = All-tail (λ l. p l ≡ true → q l ≡ true) l ls more in
    let new_rest = All-tail (λ l. f l ≡ false → q l ≡ true) l ls new in
    less (f l) (p l) (q l) (list_all (λ l. f l || p l) ls) (failing q ls) (failing p ls)
    (All-head (λ l. p l ≡ true → q l ≡ true) l ls more)
    (All-head (λ l. f l ≡ false → q l ≡ true) l ls new) e
    (fewer p q ls more_rest) (strictly p q f ls more_rest new_rest)

in_range : (P : ℕ → Type 0) → ((l : ℕ) → l < 8 → P l) → All P (range_with_len 0 8)
in_range P each = λ i d below.
    let at : get_or (range_with_len 0 8) i d ≡ 0 + i = get_or-range_with_len 0 8 i d below in
    each (get_or (range_with_len 0 8) i d) (omega (arith, length-range_with_len 0 8))

-- one that doesn't pass, where not all do
fails_at : (p : Witness → Bool) (ways : List Witness) → list_all p ways ≡ false
    → (way : Witness) × IsAmong ways way × (p way ≡ false)
fails_at p [] e = absurd (cc)
fails_at p (way ∷ ways) e = by (p way) refl e (λ h. fails_at p ways h)
  where
    by : (t : Bool) → p way ≡ t → (t && list_all p ways) ≡ false
        → (list_all p ways ≡ false → (one : Witness) × IsAmong ways one × (p one ≡ false))
        → (one : Witness) × IsAmong (way ∷ ways) one × (p one ≡ false)
    by false at e later = (way, (0, refl), at)
    by true at e later =
        let one = later e in
        (one.0, (suc one.1.0, one.1.1), one.2)

pub fewer_set : (x : Followed) (first second new : List Witness) → covers x first second ≡ false
    → Joins x first second new → set_everywhere x new < set_everywhere x first
unfolding set_everywhere
fewer_set x first second new e joins =
    let one = fails_at (covers_one x first) second e in
    let way = one.0 in
    let ls = range_with_len 0 8 in
    let p = is_cleared_on x first in
    let q = is_cleared_on x new in
    let f = λ (l : ℕ). flags_in way.flags x.variable l x.flag in
    strictly p q f ls
    (in_range (λ l. p l ≡ true → q l ≡ true)
    (λ l below h. cleared-to x new l (joins.cleared l below (inl (cleared-from x first l h)))))
    (in_range (λ l. f l ≡ false → q l ≡ true)
    (λ l below h. cleared-to x new l (joins.cleared l below (inr (way, one.1, h)))))
    one.2

-- the same, as the code has it
pub fewer_after : (x : Followed) (first lent_first second lent_second new : List Witness)
    (covered : Bool) → lent_first ≡ first → lent_second ≡ second
    → covered ≡ covers x lent_first lent_second → covered ≡ false → Joins x first second new
    → set_everywhere x new < set_everywhere x first
fewer_after x first lent_first second lent_second new covered same same_second told e joins =
    fewer_set x first second new
    (ap (λ (ways : List Witness). covers x ways second) (sym same)
    ∙ ap (λ (ways : List Witness). covers x lent_first ways) (sym same_second) ∙ sym told ∙ e)
    joins

pub covered-after : (x : Followed) (first lent_first second lent_second : List Witness)
    (covered : Bool) → lent_first ≡ first → lent_second ≡ second
    → covered ≡ covers x lent_first lent_second → covered ≡ true → covers x first second ≡ true
covered-after x first lent_first second lent_second covered same same_second told e =
    ap (λ (ways : List Witness). covers x ways second) (sym same)
    ∙ ap (λ (ways : List Witness). covers x lent_first ways) (sym same_second) ∙ sym told ∙ e
