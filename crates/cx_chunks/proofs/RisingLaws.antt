-- Numbers in rising order, each once: there is only one such list with given members.
use Rattle.std.proofs.Common.{◌≡◌, ℕ, suc, ◌<◌, ◌≤◌, ◌⊎◌, inl, inr, Bool, true, false, ◌||◌, eqb, arith, refl, sym, ap, ◌∙◌, subst, List, [], ◌∷◌, length}
use Rattle.std.specs.Prelude.{nat_lt, slice_index_or}
use Rattle.std.specs.List.{list_any, AllByRecursion, AllPairs, dedup}
use Rattle.std.specs.List.Sorted.{IsPermutation, IsSorted}
use Rattle.std.specs.Ordering.{nat_cmp}
use Rattle.std.proofs.lemmas.Bool.{eqb-true, eqb-false, eq-eqb, ne_eqb, ltb-true, ltb-false, cases_Bool, true≢false}
use Rattle.std.proofs.lemmas.Cmp.{nat_eq_equiv}
use Rattle.std.proofs.lemmas.List.Kept.{AllPairs-from_increasing, Contains-dedup_nat, Contains-from_dedup}
use Rattle.std.proofs.lemmas.List.Sorted.{Contains-permutation, IsPermutation-sym}
use Rattle.std.proofs.lemmas.Map.Keys.{IsStrictlyIncreasing-dedup}
use Rattle.std.proofs.lemmas.Map.Views.{list_any-from_Contains, Contains-from_any}
use Rattle.cx_chunks.specs.Cutting.{IsRising}
use Rattle.cx_chunks.specs.Combining.{with_number, rising}

-- ---- each pair of a list

abbrev pub Pairs : {X : Type 0} → (X → X → Type 0) → List X → Type 0
Pairs R [] = Unit {0}
Pairs R (x ∷ xs) = AllByRecursion (R x) xs × Pairs R xs

pub all_from : {X : Type 0} (P : X → Type 0) (xs : List X)
    → ((k : ℕ) (d : X) → k < length xs → P (slice_index_or xs k d)) → AllByRecursion P xs
all_from P [] h = tt
all_from P (x ∷ xs) h = (
  h 0 x (omega arith),
  all_from P xs (λ k d l. h (suc k) d (omega (arith, l))),
)

pub pairs_from : {X : Type 0} (R : X → X → Type 0) (xs : List X) → AllPairs R xs → Pairs R xs
pairs_from R [] h = tt
pairs_from R (x ∷ xs) h = (
  all_from (R x) xs (λ k d l. h 0 (suc k) d (omega arith) (omega (arith, l))),
  pairs_from R xs (λ i j d less l. h (suc i) (suc j) d (omega (arith, less)) (omega (arith, l))),
)

pub rising_from : (xs : List ℕ) → Pairs (λ i j. i < j) xs → IsRising xs
rising_from [] h = tt
rising_from (x ∷ xs) h = (h.0, rising_from xs h.1)

pub all_map : {X : Type 0} (P Q : X → Type 0) (xs : List X) → ((x : X) → P x → Q x)
    → AllByRecursion P xs → AllByRecursion Q xs
all_map P Q [] since h = tt
all_map P Q (x ∷ xs) since h = (since x h.0, all_map P Q xs since h.1)

-- ---- members

abbrev pub has : ℕ → List ℕ → Bool
has n ms = list_any (eqb n) ms

or_twice : (a b c : Bool) → a ≡ b → (b || c) ≡ (a || (b || c))
or_twice true true c e = refl
or_twice false false c e = refl
or_twice true false c e = absurd (true≢false e)
or_twice false true c e = absurd (true≢false (sym e))

or_swap : (a b c : Bool) → (a || (b || c)) ≡ (b || (a || c))
or_swap true true c = refl
or_swap true false c = refl
or_swap false true c = refl
or_swap false false c = refl

has_with : (k n : ℕ) (ms : List ℕ) → has k (with_number n ms) ≡ (eqb k n || has k ms)
has_with k n [] = refl
has_with k n (m ∷ ms) =
    go (has_with k n ms) (cases_Bool (eqb n m)) (cases_Bool (nat_lt n m))
  where
    go : has k (with_number n ms) ≡ (eqb k n || has k ms) → (eqb n m ≡ true) ⊎ (eqb n m ≡ false)
        → (nat_lt n m ≡ true) ⊎ (nat_lt n m ≡ false)
        → has k (with_number n (m ∷ ms)) ≡ (eqb k n || has k (m ∷ ms))
    go others (inl same) l =
        rw same (or_twice (eqb k n) (eqb k m) (has k ms) (ap (eqb k) (eqb-true n m same)))
    go others (inr differs) (inl less) = rw (differs, less) refl
    go others (inr differs) (inr more) =
        rw (differs, more)
        (ap (λ b. eqb k m || b) others ∙ or_swap (eqb k m) (eqb k n) (has k ms))

above_with : (l n : ℕ) (ms : List ℕ) → l < n → AllByRecursion (λ j. l < j) ms
    → AllByRecursion (λ j. l < j) (with_number n ms)
above_with l n [] less above = (less, tt)
above_with l n (m ∷ ms) less above =
    go (above_with l n ms less above.1) (cases_Bool (eqb n m)) (cases_Bool (nat_lt n m))
  where
    go : AllByRecursion (λ j. l < j) (with_number n ms) → (eqb n m ≡ true) ⊎ (eqb n m ≡ false)
        → (nat_lt n m ≡ true) ⊎ (nat_lt n m ≡ false)
        → AllByRecursion (λ j. l < j) (with_number n (m ∷ ms))
    go others (inl same) o = rw same above
    go others (inr differs) (inl before) = rw (differs, before) (less, above)
    go others (inr differs) (inr more) = rw (differs, more) (above.0, others)

with_rises : (n : ℕ) (ms : List ℕ) → IsRising ms → IsRising (with_number n ms)
with_rises n [] rises = (tt, tt)
with_rises n (m ∷ ms) rises =
    go (with_rises n ms rises.1) (cases_Bool (eqb n m)) (cases_Bool (nat_lt n m))
  where
    go : IsRising (with_number n ms) → (eqb n m ≡ true) ⊎ (eqb n m ≡ false)
        → (nat_lt n m ≡ true) ⊎ (nat_lt n m ≡ false) → IsRising (with_number n (m ∷ ms))
    go others (inl same) o = rw same rises
    go others (inr differs) (inl before) =
        let less : n < m = ltb-true n m before in
        rw (differs, before) (
          (
            less,
            all_map (λ j. m < j) (λ j. n < j) ms (λ j more. omega (arith, less, more))
                rises.0,
          ),
          rises,
        )
    go others (inr differs) (inr more) =
        let least : m ≤ n = ltb-false n m more in
        let apart = eqb-false n m differs in
        rw (differs, more) (above_with m n ms (omega (arith, least, apart)) rises.0, others)

pub rising_rises : (ns : List ℕ) → IsRising (rising ns)
rising_rises [] = tt
rising_rises (n ∷ ns) = with_rises n (rising ns) (rising_rises ns)

pub has_rising : (k : ℕ) (ns : List ℕ) → has k (rising ns) ≡ has k ns
has_rising k [] = refl
has_rising k (n ∷ ns) = has_with k n (rising ns) ∙ ap (λ b. eqb k n || b) (has_rising k ns)

-- ---- one list for given members

has_own : (x : ℕ) (xs : List ℕ) → has x (x ∷ xs) ≡ true
has_own x xs = rw (eq-eqb x x refl) refl

above_lacks : (l k : ℕ) (ms : List ℕ) → k ≤ l → AllByRecursion (λ j. l < j) ms → has k ms ≡ false
above_lacks l k [] less above = refl
above_lacks l k (m ∷ ms) less above =
    let more = above.0 in
    rw (ne_eqb k m (λ e. absurd (omega (arith, less, more, e)))) (above_lacks l k ms less above.1)

-- a number that a rising list has isn't below its first one
above_has : (y x : ℕ) (zs : List ℕ) → AllByRecursion (λ j. y < j) zs → has x zs ≡ true → y ≤ x
above_has y x [] up there = absurd (true≢false (sym there))
above_has y x (z ∷ zs) up there = go (above_has y x zs up.1) (cases_Bool (eqb x z))
  where
    go : (has x zs ≡ true → y ≤ x) → (eqb x z ≡ true) ⊎ (eqb x z ≡ false) → y ≤ x
    go others (inl same) =
        let e = eqb-true x z same in let more = up.0 in omega (arith, e, more)
    go others (inr differs) = others (rw differs at there)

first_least : (y : ℕ) (ys : List ℕ) (x : ℕ) → AllByRecursion (λ j. y < j) ys
    → has x (y ∷ ys) ≡ true → y ≤ x
first_least y ys x above there = go (cases_Bool (eqb x y))
  where
    go : (eqb x y ≡ true) ⊎ (eqb x y ≡ false) → y ≤ x
    go (inl same) = let e = eqb-true x y same in omega (arith, e)
    go (inr differs) = above_has y x ys above (rw differs at there)

tail_same : (x : ℕ) (xs ys : List ℕ) → AllByRecursion (λ j. x < j) xs
    → AllByRecursion (λ j. x < j) ys
    → ((k : ℕ) → has k (x ∷ xs) ≡ has k (x ∷ ys)) → (k : ℕ) → has k xs ≡ has k ys
tail_same x xs ys up_x up_y same k = go (cases_Bool (eqb k x))
  where
    go : (eqb k x ≡ true) ⊎ (eqb k x ≡ false) → has k xs ≡ has k ys
    go (inl e) =
        let is : k ≡ x = eqb-true k x e in
        above_lacks x k xs (omega (arith, is)) up_x
        ∙ sym (above_lacks x k ys (omega (arith, is)) up_y)
    go (inr differs) = let s = same k in rw differs at s

pub only_rising : (xs ys : List ℕ) → IsRising xs → IsRising ys → ((k : ℕ) → has k xs ≡ has k ys)
    → xs ≡ ys
only_rising [] [] up_x up_y same = refl
only_rising [] (y ∷ ys) up_x up_y same = absurd (true≢false (sym (same y ∙ has_own y ys)))
only_rising (x ∷ xs) [] up_x up_y same = absurd (true≢false (sym (has_own x xs) ∙ same x))
only_rising (x ∷ xs) (y ∷ ys) up_x up_y same =
    let low = first_least y ys x up_y.0 (sym (same x) ∙ has_own x xs) in
    let high = first_least x xs y up_x.0 (same y ∙ has_own y ys) in
    let e : x ≡ y = omega (arith, low, high) in
    let up = subst (λ z. AllByRecursion (λ j. z < j) ys) (sym e) up_y.0 in
    let tails = tail_same x xs ys up_x.0 up
    (λ k. same k ∙ ap (λ z. has k (z ∷ ys)) (sym e)) in
    ap (λ z. z ∷ xs) e ∙ ap (λ zs. y ∷ zs) (only_rising xs ys up_x.1 up_y.1 tails)

-- the rising list of numbers with these members
pub rising_is : (ns xs : List ℕ) → IsRising xs → ((k : ℕ) → has k xs ≡ has k ns) → rising ns ≡ xs
rising_is ns xs up same =
    only_rising (rising ns) xs (rising_rises ns) up (λ k. has_rising k ns ∙ sym (same k))

-- ---- sorted, and each once

pub same_bool : (a b : Bool) → (a ≡ true → b ≡ true) → (b ≡ true → a ≡ true) → a ≡ b
same_bool true b there back = sym (there refl)
same_bool false true there back = back refl
same_bool false false there back = refl

pub sorted_rising : (ns sorted : List ℕ) → IsPermutation ns sorted → IsSorted nat_cmp sorted
    → dedup eqb sorted ≡ rising ns
sorted_rising ns sorted moved up =
    sym (rising_is ns (dedup eqb sorted)
    (rising_from (dedup eqb sorted) (pairs_from (λ i j. i < j) (dedup eqb sorted)
    (AllPairs-from_increasing (dedup eqb sorted) (IsStrictlyIncreasing-dedup sorted up))))
    (λ k. same_bool (has k (dedup eqb sorted)) (has k ns)
    (λ h. list_any-from_Contains nat_eq_equiv k ns
    (Contains-permutation sorted ns k (IsPermutation-sym ns sorted moved)
    (Contains-from_dedup eqb sorted k
    (Contains-from_any {eq = eqb} eqb-true k (dedup eqb sorted) h))))
    (λ h. list_any-from_Contains nat_eq_equiv k (dedup eqb sorted)
    (Contains-dedup_nat sorted k (Contains-permutation ns sorted k moved
    (Contains-from_any {eq = eqb} eqb-true k ns h))))))

pub eqb_flip : (a b : ℕ) → eqb a b ≡ eqb b a
eqb_flip a b = same_bool (eqb a b) (eqb b a) (λ e. eq-eqb b a (sym (eqb-true a b e)))
    (λ e. eq-eqb a b (sym (eqb-true b a e)))
