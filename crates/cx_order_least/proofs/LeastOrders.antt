-- The least order is made by taking the least number that may stand first, again and again.
use Rattle.std.proofs.Common.{◌≡◌, ◌⊎◌, inl, inr, ℕ, zero, suc, ◌+◌, ◌<◌, ◌≤◌, Bool, true, false, not, List, [], ◌∷◌, ◌++◌, length, get_or, take, drop, refl, sym, ◌∙◌, ap, subst, arith, ltb, ltb-true, ltb-false}
use Rattle.std.proofs.lemmas.List.{take-append-drop, drop_more}
use Rattle.cx_order_least.specs.Orders.{Before, count, SameNumbers, may_follow, IsOrder, IsAtMost, IsLeastOrder, numbers_from}
use Rattle.cx_order_least.proofs.Counts.{nothing, same_or_other, count-first, count-later, count-midst, count-parts, all-same}

-- no number is less than one before it
abbrev pub Rises : List ℕ → Type 0
Rises [] = Unit {0}
Rises (x ∷ xs) = ((k : ℕ) → 0 < count k xs → x ≤ k) × Rises xs

pub rises-behind : (front : List ℕ) (x : ℕ) (back : List ℕ) → Rises (front ++ x ∷ back) → (k : ℕ)
    → 0 < count k back → x ≤ k
rises-behind [] x back h k there = h.0 k there
rises-behind (y ∷ front) x back h k there = rises-behind front x back h.1 k there

pub rises-without : (front : List ℕ) (x : ℕ) (back : List ℕ) → Rises (front ++ x ∷ back)
    → Rises (front ++ back)
rises-without [] x back h = h.1
rises-without (y ∷ front) x back h = (
  (λ k there. h.0 k (let P : ℕ → Type 0 = λ n. 0 < n in
      subst P (sym (count-midst k front x back)) (count-later x k (front ++ back) there))),
  rises-without front x back h.1,
)

abbrev Positive : ℕ → Type 0
Positive n = 0 < n

same-behind : (x : ℕ) (rest xs ys : List ℕ) → ((k : ℕ) → count k rest ≡ count k (x ∷ xs))
    → SameNumbers rest (x ∷ ys) → SameNumbers xs ys
same-behind x rest xs ys split same k = omega (arith, split k, same k)

same-before : (x : ℕ) (rest xs ys : List ℕ) → ((k : ℕ) → count k rest ≡ count k (x ∷ xs))
    → SameNumbers xs ys → SameNumbers rest (x ∷ ys)
same-before x rest xs ys split same k = omega (arith, split k, same k)

true-is-not-false : {A : Type 0} (b : Bool) → b ≡ true → b ≡ false → A
true-is-not-false b t f = absurd (let no : ⊥ = cc (t, f) in no)

below_or_same : (x z : ℕ) → x ≤ z → (x < z) ⊎ (x ≡ z)
below_or_same x z h = by_test (ltb x z) refl
  where
    by_test : (b : Bool) → ltb x z ≡ b → (x < z) ⊎ (x ≡ z)
    by_test true e = inl (ltb-true x z e)
    by_test false e = inr (let above = ltb-false x z e in omega (arith, above, h))

some_or_none : (n : ℕ) → (0 < n) ⊎ (n ≡ 0)
some_or_none zero = inr refl
some_or_none (suc n) = inl (omega arith)

-- what may stand first is at least the first number that may
at-least-first : (free : ℕ → Bool) (front : List ℕ) (x : ℕ) (back : List ℕ) (z : ℕ)
    → Rises (front ++ x ∷ back) → ((k : ℕ) → 0 < count k front → free k ≡ false)
    → 0 < count z (front ++ x ∷ back) → free z ≡ true → x ≤ z
at-least-first free front x back z rises blocked there is_free = elim (same_or_other x z) [
  | inl e ↦ (let P : ℕ → Type 0 = λ n. x ≤ n in subst P e (omega arith))
  | inr other ↦ elim (some_or_none (count z front)) [
    | inl in_front ↦ true-is-not-false (free z) is_free (blocked z in_front)
    | inr none ↦ rises-behind front x back rises z
        (let a = count-midst z front x back in let b = other (front ++ back) in
        let c = count-parts z front back in omega (arith, a, b, c, none, there))
  ]
]

module _ (before : Before) (front : List ℕ) (x : ℕ) (back : List ℕ) where
  abbrev rest : List ℕ
  rest = front ++ x ∷ back

  split : (k : ℕ) → count k rest ≡ count k (x ∷ (front ++ back))
  split k = count-midst k front x back

  first-at-most : (ys : List ℕ) → Rises rest
      → ((k : ℕ) → 0 < count k front → may_follow before k rest ≡ false)
      → IsLeastOrder before (front ++ back) ys → (zs : List ℕ) → IsOrder before rest zs
      → IsAtMost (x ∷ ys) zs
  first-at-most ys rises blocked least [] o =
      absurd (let a = split x in let b = count-first x (front ++ back) in let c = o.same x in
      let no : ⊥ = omega (arith, a, b, c) in no)
  first-at-most ys rises blocked least (z ∷ zs) o = elim (below_or_same x z at_least) [
    | inl below ↦ inl below
    | inr e
        ↦ inr (
          e,
          least.least zs
              (record {
                same = same-behind x rest (front ++ back) zs split
                    (let P : ℕ → Type 0 = λ n. SameNumbers rest (n ∷ zs) in subst P (sym e) o.same);
                respects = o.respects.1;
              }),
        )
  ]
    where
      is_free : may_follow before z rest ≡ true
      is_free = all-same (λ y. not (before y z)) (z ∷ zs) rest (λ k. sym (o.same k)) o.respects.0

      there : 0 < count z rest
      there = subst Positive (sym (o.same z))
          (subst Positive (sym (count-first z zs)) (omega arith))

      at_least : x ≤ z
      at_least = at-least-first (λ k. may_follow before k rest)
          front x back z rises blocked there is_free

  pub first-is-least : (ys : List ℕ) → Rises rest → may_follow before x rest ≡ true
      → ((k : ℕ) → 0 < count k front → may_follow before k rest ≡ false)
      → IsLeastOrder before (front ++ back) ys → IsLeastOrder before rest (x ∷ ys)
  first-is-least ys rises is_free blocked least =
      record {
        order = record {
          same = same;
          respects = (
            all-same (λ y. not (before y x)) rest (x ∷ ys) same is_free,
            least.order.respects,
          );
        };
        least = first-at-most ys rises blocked least;
      }
    where
      same : SameNumbers rest (x ∷ ys)
      same = same-before x rest (front ++ back) ys split least.order.same

-- the same by a place in the list
pub parts-at : (rest : List ℕ) (i : ℕ) → i < length rest
    → rest ≡ take i rest ++ get_or rest i 0 ∷ drop (i + 1) rest
parts-at rest i h = sym (take-append-drop i rest)
    ∙ ap (λ back. take i rest ++ back) (drop_more rest i 0 h)

pub none-is-least : (before : Before) → IsLeastOrder before [] []
none-is-least before = record {
  order = record { same = λ k. refl; respects = tt };
  least = λ ys o. tt;
}

-- ---- the steps of the loop

pub numbers-push : (a n : ℕ) → numbers_from a (suc n) ≡ numbers_from a n ++ (a + n) ∷ []
numbers-push a zero = ap (λ b. b ∷ []) (let e : a ≡ a + 0 = omega arith in e)
numbers-push a (suc n) =
    ap (λ xs. a ∷ xs) (numbers-push (a + 1) n
    ∙ ap (λ m. numbers_from (a + 1) n ++ m ∷ [])
    (let e : a + 1 + n ≡ a + suc n = omega arith in e))

pub numbers-more : (n : ℕ) → numbers_from 0 n ++ n ∷ [] ≡ numbers_from 0 (n + 1)
numbers-more n =
    ap (λ m. numbers_from 0 n ++ m ∷ []) (let e : n ≡ 0 + n = omega arith in e)
    ∙ sym (numbers-push 0 n) ∙ ap (numbers_from 0) (let e : suc n ≡ n + 1 = omega arith in e)

numbers-above : (a n k : ℕ) → 0 < count k (numbers_from a n) → a ≤ k
numbers-above a zero k there = nothing there
numbers-above a (suc n) k there = elim (same_or_other a k) [
  | inl e ↦ (let P : ℕ → Type 0 = λ m. a ≤ m in subst P e (omega arith))
  | inr other
      ↦ (let h = numbers-above (a + 1) n k (subst Positive (other (numbers_from (a + 1) n)) there)
      in omega (arith, h))
]

pub numbers-rise : (a n : ℕ) → Rises (numbers_from a n)
numbers-rise a zero = tt
numbers-rise a (suc n) = (
  (λ k there. let h = numbers-above (a + 1) n k there in omega (arith, h)),
  numbers-rise (a + 1) n,
)
