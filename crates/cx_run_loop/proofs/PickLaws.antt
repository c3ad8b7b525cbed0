-- The events that don't lie ahead, one after another.
use Rattle.std.proofs.Common.{◌≡◌, ◌≢◌, ◌<◌, ◌≤◌, ◌+◌, ◌-◌, ℕ, zero, suc, Bool, true, false, List, [], ◌∷◌, length, Some, None, arith, refl, sym, ap, ◌∙◌, subst}
use Rattle.std.specs.Prelude.{filter, slice_get}
use Rattle.std.specs.List.{range_with_len}

-- from a number on, those that pass a test
abbrev pub passing_from : (ℕ → Bool) → (k n : ℕ) → List ℕ
passing_from test k n = filter test (range_with_len k (n - k))

rest_is : (k n : ℕ) → k < n → n - k ≡ suc (n - (k + 1))
rest_is k n l = omega (arith, l)

first_passes : (test : ℕ → Bool) (k m : ℕ) → test k ≡ true
    → filter test (range_with_len k (suc m)) ≡ k ∷ filter test (range_with_len (k + 1) m)
first_passes test k m passes = rw passes refl

first_fails : (test : ℕ → Bool) (k m : ℕ) → test k ≡ false
    → filter test (range_with_len k (suc m)) ≡ filter test (range_with_len (k + 1) m)
first_fails test k m fails = rw fails refl

passing_yes : (test : ℕ → Bool) (k n : ℕ) → k < n → test k ≡ true
    → passing_from test k n ≡ k ∷ passing_from test (k + 1) n
passing_yes test k n l passes =
    ap (λ (m : ℕ). filter test (range_with_len k m)) (rest_is k n l)
    ∙ first_passes test k (n - (k + 1)) passes

passing_no : (test : ℕ → Bool) (k n : ℕ) → k < n → test k ≡ false
    → passing_from test k n ≡ passing_from test (k + 1) n
passing_no test k n l fails =
    ap (λ (m : ℕ). filter test (range_with_len k m)) (rest_is k n l)
    ∙ first_fails test k (n - (k + 1)) fails

-- all of them
abbrev pub passing : (ℕ → Bool) → (n : ℕ) → List ℕ
passing test n = filter test (range_with_len 0 n)

passing_all : (test : ℕ → Bool) (n : ℕ) → passing_from test 0 n ≡ passing test n
passing_all test n =
    let whole : n - 0 ≡ n = omega arith in
    ap (λ (m : ℕ). filter test (range_with_len 0 m)) whole

-- none is left at the end
passing_end : (test : ℕ → Bool) (k n : ℕ) → n ≤ k → passing_from test k n ≡ []
passing_end test k n l =
    let none : n - k ≡ 0 = omega (arith, l) in
    ap (λ (m : ℕ). filter test (range_with_len k m)) none

-- ---- how many there are

-- so many of those before k pass
pub record HasCounted (test : ℕ → Bool) (n k count : ℕ) : Type 0 where
  pub all : count + length (passing_from test k n) ≡ length (passing test n)
  pub few : count ≤ k

pub counted_none : (test : ℕ → Bool) (n : ℕ) → HasCounted test n 0 0
counted_none test n =
    let whole : length (passing_from test 0 n) ≡ length (passing test n) =
    ap (λ (ks : List ℕ). length ks) (passing_all test n) in
    record { all = omega (arith, whole); few = omega arith }

pub counted_yes : (test : ℕ → Bool) (n k count : ℕ) → k < n → test k ≡ true
    → HasCounted test n k count → HasCounted test n (k + 1) (count + 1)
counted_yes test n k count l passes h =
    let all = h.all in
    let few : count ≤ k = h.few in
    let more : length (passing_from test k n) ≡ suc (length (passing_from test (k + 1) n)) =
    ap (λ (ks : List ℕ). length ks) (passing_yes test k n l passes) in
    record { all = omega (arith, all, more); few = omega (arith, few) }

pub counted_no : (test : ℕ → Bool) (n k count : ℕ) → k < n → test k ≡ false
    → HasCounted test n k count → HasCounted test n (k + 1) count
counted_no test n k count l fails h =
    let few : count ≤ k = h.few in
    record {
      all = ap (λ (ks : List ℕ). count + length ks) (sym (passing_no test k n l fails)) ∙ h.all;
      few = omega (arith, few);
    }

pub counted_all : (test : ℕ → Bool) (n k count : ℕ) → n ≤ k → HasCounted test n k count
    → count ≡ length (passing test n)
counted_all test n k count l h =
    let none : length (passing_from test k n) ≡ 0 =
    ap (λ (ks : List ℕ). length ks) (passing_end test k n l) in
    let all = h.all in
    omega (arith, none, all)

-- ---- one of them

-- the one of a place is so far on among those from k on
abbrev pub IsLeft : (ℕ → Bool) → (n i k left : ℕ) → Type 0
IsLeft test n i k left =
    slice_get (passing_from test k n) left ≡ slice_get (passing test n) i

pub left_all : (test : ℕ → Bool) (n i : ℕ) → IsLeft test n i 0 i
left_all test n i = ap (λ (ks : List ℕ). slice_get ks i) (passing_all test n)

pub left_yes : (test : ℕ → Bool) (n i k left : ℕ) → k < n → test k ≡ true → left ≢ 0
    → IsLeft test n i k left → IsLeft test n i (k + 1) (left - 1)
left_yes test n i k zero l passes other h = absurd (other refl)
left_yes test n i k (suc left) l passes other h =
    ap (λ (m : ℕ). slice_get (passing_from test (k + 1) n) m) (back left)
    ∙ sym (ap (λ (ks : List ℕ). slice_get ks (suc left)) (passing_yes test k n l passes)) ∙ h
  where
    back : (m : ℕ) → suc m - 1 ≡ m
    back m = omega arith

pub left_no : (test : ℕ → Bool) (n i k left : ℕ) → k < n → test k ≡ false
    → IsLeft test n i k left → IsLeft test n i (k + 1) left
left_no test n i k left l fails h =
    ap (λ (ks : List ℕ). slice_get ks left) (sym (passing_no test k n l fails)) ∙ h

pub left_here : (test : ℕ → Bool) (n i k left : ℕ) → k < n → test k ≡ true → left ≡ 0
    → IsLeft test n i k left → slice_get (passing test n) i ≡ Some k
left_here test n i k left l passes none h =
    sym h ∙ ap (λ (m : ℕ). slice_get (passing_from test k n) m) none
    ∙ ap (λ (ks : List ℕ). slice_get ks 0) (passing_yes test k n l passes)

has_place : (ks : List ℕ) (i : ℕ) → i < length ks → slice_get ks i ≡ None → ⊥
has_place [] i l e = omega (arith, l)
has_place (k ∷ ks) zero l e = cc
has_place (k ∷ ks) (suc i) l e = has_place ks i (omega (arith, l)) e

pub left_end : (test : ℕ → Bool) (n i k left : ℕ) → n ≤ k
    → i < length (passing test n) → IsLeft test n i k left → ⊥
left_end test n i k left l there h =
    has_place (passing test n) i there
    (sym h ∙ ap (λ (ks : List ℕ). slice_get ks left) (passing_end test k n l))

-- ---- there is one

some_from : (test : ℕ → Bool) (from count k : ℕ) → from ≤ k → k < from + count
    → test k ≡ true → 0 < length (filter test (range_with_len from count))
some_from test from zero k low high passes = absurd (omega (arith, low, high))
some_from test from (suc count) k low high passes =
    go (λ later. some_from test (from + 1) count k later (omega (arith, high)) passes)
    (test from) refl
  where
    later : test from ≡ false → from + 1 ≤ k
    later fails = omega (arith, low, other)
      where
        other : k ≡ from → ⊥
        other same = let bad : true ≡ false = sym passes ∙ ap test same ∙ fails in absurd cc

    go : (from + 1 ≤ k → 0 < length (filter test (range_with_len (from + 1) count)))
        → (b : Bool) → test from ≡ b → 0 < length (filter test (range_with_len from (suc count)))
    go more true is =
        let longer : length (filter test (range_with_len from (suc count)))
        ≡ suc (length (filter test (range_with_len (from + 1) count))) =
        ap (λ (ks : List ℕ). length ks) (first_passes test from count is) in
        omega (arith, longer)
    go more false is =
        subst (λ (ks : List ℕ). 0 < length ks) (sym (first_fails test from count is))
        (more (later is))

pub some_passes : (test : ℕ → Bool) (n k : ℕ) → k < n → test k ≡ true
    → 0 < length (passing test n)
some_passes test n k l passes = some_from test 0 n k (omega arith) (omega (arith, l)) passes

-- ---- where all pass

all_from : (test : ℕ → Bool) → ((k : ℕ) → test k ≡ true) → (from count : ℕ)
    → filter test (range_with_len from count) ≡ range_with_len from count
all_from test all from zero = refl
all_from test all from (suc count) =
    first_passes test from count (all from)
    ∙ ap (λ (ks : List ℕ). from ∷ ks) (all_from test all (from + 1) count)

pub all_pass : (test : ℕ → Bool) (n : ℕ) → ((k : ℕ) → test k ≡ true)
    → passing test n ≡ range_with_len 0 n
all_pass test n all = all_from test all 0 n

counted_from : (from count : ℕ) → length (range_with_len from count) ≡ count
counted_from from zero = refl
counted_from from (suc count) = ap suc (counted_from (from + 1) count)

pub all_counted : (test : ℕ → Bool) (n : ℕ) → ((k : ℕ) → test k ≡ true)
    → length (passing test n) ≡ n
all_counted test n all =
    ap (λ (ks : List ℕ). length ks) (all_pass test n all) ∙ counted_from 0 n

there_from : (from count i : ℕ) → i < count
    → slice_get (range_with_len from count) i ≡ Some (from + i)
there_from from zero i l = absurd (omega (arith, l))
there_from from (suc count) zero l =
    let same : from ≡ from + 0 = omega arith in
    ap (λ (k : ℕ). Some k) same
there_from from (suc count) (suc i) l =
    let same : from + 1 + i ≡ from + suc i = omega arith in
    there_from (from + 1) count i (omega (arith, l)) ∙ ap (λ (k : ℕ). Some k) same

-- each has its own place
pub each_there : (test : ℕ → Bool) (n i : ℕ) → ((k : ℕ) → test k ≡ true) → i < n
    → slice_get (passing test n) i ≡ Some i
each_there test n i all l =
    let same : 0 + i ≡ i = omega arith in
    ap (λ (ks : List ℕ). slice_get ks i) (all_pass test n all) ∙ there_from 0 n i l
    ∙ ap (λ (k : ℕ). Some k) same

-- ---- each of them passes

passes_from : (test : ℕ → Bool) (from count i k : ℕ)
    → slice_get (filter test (range_with_len from count)) i ≡ Some k → test k ≡ true
passes_from test from zero i k there = absurd cc
passes_from test from (suc count) i k there =
    go (λ j. passes_from test (from + 1) count j k) (test from) refl i there
  where
    some_is : (a b : ℕ) → Some a ≡ Some b → a ≡ b
    some_is a b e = cc

    go : ((j : ℕ) → slice_get (filter test (range_with_len (from + 1) count)) j ≡ Some k
        → test k ≡ true)
        → (b : Bool) → test from ≡ b → (i : ℕ)
        → slice_get (filter test (range_with_len from (suc count))) i ≡ Some k → test k ≡ true
    go more true is zero there =
        let first : Some from ≡ Some k =
        sym (ap (λ (ks : List ℕ). slice_get ks 0) (first_passes test from count is)) ∙ there in
        subst (λ (j : ℕ). test j ≡ true) (some_is from k first) is
    go more true is (suc i) there =
        more i
        (sym (ap (λ (ks : List ℕ). slice_get ks (suc i)) (first_passes test from count is)) ∙ there)
    go more false is i there =
        more i
        (sym (ap (λ (ks : List ℕ). slice_get ks i) (first_fails test from count is)) ∙ there)

pub passes_there : (test : ℕ → Bool) (n i k : ℕ) → slice_get (passing test n) i ≡ Some k
    → test k ≡ true
passes_there test n i k there = passes_from test 0 n i k there
