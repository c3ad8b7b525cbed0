-- Groups in an order in which each stands before those that it contains.
use Rattle.std.proofs.Common.{◌≡◌, refl, sym, ◌∙◌, ap, subst, ℕ, zero, suc, ◌+◌, ◌<◌, ◌≤◌, Bool, true, false, not, ◌||◌, eqb, eqb-true, if◌then◌else◌, List, [], ◌∷◌, ◌++◌, length, get_or, take, drop, arith, length-append}
use Rattle.std.specs.List.{list_all}
use Rattle.std.proofs.lemmas.Bool.{and_parts, eqb-false, false≢true}
use Rattle.cx_order_least.specs.Orders.{Before, count, SameNumbers, IsOrder, may_follow, Respects, numbers_from, numbers}
use Rattle.cx_order_least.specs.Links.{has}
use Rattle.cx_order_least.proofs.Counts.{count-first, count-midst, count-later, nothing}
use Rattle.cx_order_least.proofs.CandidateLaws.{has-first}
use Rattle.cx_order_least.proofs.CycleWalks.{found-at, count-at}
use Rattle.cx_order_least.proofs.LeastOrders.{parts-at}

pub counts-has : (xs : List ℕ) (k : ℕ) → 0 < count k xs → has xs k ≡ true
counts-has [] k there = nothing there
counts-has (x ∷ xs) k there = by_test (counts-has xs k) (eqb x k) refl
  where
    by_test : (0 < count k xs → has xs k ≡ true) → (t : Bool) → eqb x k ≡ t → has (x ∷ xs) k ≡ true
    by_test rest true e = ap (λ t. t || has xs k) e
    by_test rest false e = ap (λ t. t || has xs k) e
        ∙ rest (let P : Bool → Type 0 = λ t. 0 < (if t then 1 else 0) + count k xs in
        let more = subst P e there in omega (arith, more))

higher : (from k : ℕ) → from ≤ k → (from ≡ k → ⊥) → from + 1 ≤ k
higher from k low other = omega (arith, low, other)

counts-numbers : (from n k : ℕ) → from ≤ k → k < from + n → 0 < count k (numbers_from from n)
counts-numbers from zero k low high = absurd (let no : ⊥ = omega (arith, low, high) in no)
counts-numbers from (suc n) k low high = by_test (counts-numbers (from + 1) n k) (eqb from k) refl
  where
    by_test : (from + 1 ≤ k → k < (from + 1) + n → 0 < count k (numbers_from (from + 1) n))
        → (t : Bool) → eqb from k ≡ t → 0 < count k (from ∷ numbers_from (from + 1) n)
    by_test rest true e = (let P : Bool
        → Type 0 = λ t. 0 < (if t then 1 else 0) + count k (numbers_from (from + 1) n) in
        subst P (sym e) (omega arith))
    by_test rest false e = count-later from k (numbers_from (from + 1) n)
        (rest (higher from k low (eqb-false from k e)) (omega (arith, high)))

pub has-all : (p : ℕ → Bool) (xs : List ℕ) (k : ℕ) → list_all p xs ≡ true → has xs k ≡ true
    → p k ≡ true
has-all p [] k all there = absurd (cc)
has-all p (x ∷ xs) k all there =
    by_test (and_parts (p x) (list_all p xs) all).0
    (has-all p xs k (and_parts (p x) (list_all p xs) all).1) (eqb x k) refl
  where
    by_test : p x ≡ true → (has xs k ≡ true → p k ≡ true) → (t : Bool) → eqb x k ≡ t → p k ≡ true
    by_test here rest true e =
        (let P : ℕ → Type 0 = λ m. p m ≡ true in subst P (eqb-true x k e) here)
    by_test here rest false e = rest (sym (ap (λ t. t || has xs k) e) ∙ there)

pub has-later : (x : ℕ) (xs : List ℕ) (k : ℕ) → has xs k ≡ true → has (x ∷ xs) k ≡ true
has-later x xs k there = by_test (eqb x k) refl
  where
    by_test : (t : Bool) → eqb x k ≡ t → has (x ∷ xs) k ≡ true
    by_test true e = ap (λ t. t || has xs k) e
    by_test false e = ap (λ t. t || has xs k) e ∙ there

-- ---- as many

same-length : (xs ys : List ℕ) → SameNumbers xs ys → length xs ≡ length ys
same-length [] [] same = refl
same-length [] (y ∷ ys) same =
    absurd (let a = same y in let b = count-first y ys in let no : ⊥ = omega (arith, a, b) in no)
same-length (x ∷ xs) ys same =
    let there : 0 < count x ys =
    (let a = same x in let b = count-first x xs in omega (arith, a, b)) in
    let at = found-at ys x there in
    let parts = parts-at ys at.0 at.1 in
    let front = take at.0 ys in
    let back = drop (at.0 + 1) ys in
    let whole : ys ≡ front ++ x ∷ back = parts ∙ ap (λ (y : ℕ). front ++ y ∷ back) at.2 in
    let rest : SameNumbers xs (front ++ back) =
    (λ k. let a = same k in let b = ap (count k) whole in let c = count-midst k front x back in
    omega (arith, a, b, c)) in
    let shorter = same-length xs (front ++ back) rest in
    omega (
      arith,
      shorter,
      ap length whole,
      length-append front (x ∷ back),
      length-append front back,
    )

length-numbers : (from n : ℕ) → length (numbers_from from n) ≡ n
length-numbers from zero = refl
length-numbers from (suc n) = omega (arith, length-numbers (from + 1) n)

-- ---- what a group contains stands behind it

module _ (before : Before) (most : ℕ) where
  abbrev pub Closed : List ℕ → Type 0
  Closed xs = (g h : ℕ) → has xs g ≡ true → before g h ≡ true → h < most → has xs h ≡ true

  pub closed-whole : (xs : List ℕ) → IsOrder before (numbers most) xs → Closed xs
  closed-whole xs order = λ g h there inside below.
      counts-has xs h (let a = order.same h in
      let b = counts-numbers 0 most h (omega arith) (omega (arith, below)) in omega (arith, a, b))

  pub whole-length : (xs : List ℕ) → IsOrder before (numbers most) xs → length xs ≡ most
  whole-length xs order = sym (same-length (numbers most) xs order.same) ∙ length-numbers 0 most

  pub whole-has : (xs : List ℕ) → IsOrder before (numbers most) xs → (h : ℕ) → h < most
      → has xs h ≡ true
  whole-has xs order h below =
      counts-has xs h (let a = order.same h in
      let b = counts-numbers 0 most h (omega arith) (omega (arith, below)) in omega (arith, a, b))

  module _ (x : ℕ) (xs : List ℕ) (follows : may_follow before x (x ∷ xs) ≡ true)
      (closed : Closed (x ∷ xs)) where
    not-before : (g : ℕ) → has (x ∷ xs) g ≡ true → before g x ≡ true → ⊥
    not-before g there is =
        false≢true (sym (ap not is) ∙ has-all (λ y. not (before y x)) (x ∷ xs) g follows there)

    behind : (g h : ℕ) → has (x ∷ xs) g ≡ true → before g h ≡ true → h < most → has xs h ≡ true
    behind g h there inside below = by_test (eqb x h) refl
      where
        by_test : (t : Bool) → eqb x h ≡ t → has xs h ≡ true
        by_test true e = absurd
            (not-before g there (subst (λ m. before g m ≡ true) (sym (eqb-true x h e)) inside))
        by_test false e = sym (ap (λ t. t || has xs h) e) ∙ closed g h there inside below

    pub closed-rest : Closed xs
    closed-rest = λ g h there inside below. behind g h (has-later x xs g there) inside below

    pub has-inside : (h : ℕ) → before x h ≡ true → h < most → has xs h ≡ true
    has-inside h inside below = behind x h (has-first x xs) inside below

-- an order holds from each place on
pub respects-drop : (before : Before) (xs : List ℕ) (i : ℕ) → Respects before xs
    → Respects before (drop i xs)
respects-drop before xs zero r = r
respects-drop before [] (suc i) r = r
respects-drop before (x ∷ xs) (suc i) r = respects-drop before xs i r.1

counts-below : (from n k : ℕ) → 0 < count k (numbers_from from n) → k < from + n
counts-below from zero k there = nothing there
counts-below from (suc n) k there = by_test (counts-below (from + 1) n k) (eqb from k) refl
  where
    by_test : (0 < count k (numbers_from (from + 1) n) → k < (from + 1) + n) → (t : Bool)
        → eqb from k ≡ t → k < from + suc n
    by_test rest true e = let same = eqb-true from k e in omega (arith, same)
    by_test rest false e =
        let P : Bool → Type 0 =
        λ t. 0 < (if t then 1 else 0) + count k (numbers_from (from + 1) n) in
        let more = subst P e there in
        let below = rest (omega (arith, more)) in omega (arith, below)

-- each is one of the numbers
pub at-below : (before : Before) (most : ℕ) (xs : List ℕ) (j : ℕ) → IsOrder before (numbers most) xs
    → j < length xs → get_or xs j 0 < most
at-below before most xs j order h =
    let there = count-at xs j h in
    let same = order.same (get_or xs j 0) in
    let below = counts-below 0 most (get_or xs j 0) (omega (arith, there, same)) in
    omega (arith, below)

pub closed-drop : (before : Before) (most : ℕ) (xs : List ℕ) (i : ℕ) → Respects before xs
    → Closed before most xs → Closed before most (drop i xs)
closed-drop before most xs zero r closed = closed
closed-drop before most [] (suc i) r closed = closed
closed-drop before most (x ∷ xs) (suc i) r closed =
    closed-drop before most xs i r.1 (closed-rest before most x xs r.0 closed)

-- what a group contains stands behind it in the order
pub order-behind : (before : Before) (most : ℕ) (all xs : List ℕ) (i x : ℕ)
    → IsOrder before (numbers most) all → drop i all ≡ x ∷ xs → (h : ℕ) → before x h ≡ true
    → h < most → has xs h ≡ true
order-behind before most all xs i x order parts =
    let R : List ℕ → Type 0 = λ ns. Respects before ns in
    let C : List ℕ → Type 0 = λ ns. Closed before most ns in
    let respects = subst R parts (respects-drop before all i order.respects) in
    let closed = subst C parts
    (closed-drop before most all i order.respects (closed-whole before most all order)) in
    has-inside before most x xs respects.0 closed
