-- The numbers that are left, in order, and what becomes of them where one more is marked.
use Rattle.std.proofs.Common.{◌≡◌, ◌⊎◌, inl, inr, ℕ, zero, suc, ◌+◌, ◌<◌, ◌≤◌, Bool, true, false, not, cond, eqb, eqb-true, ltb, ltb-true, ltb-false, List, [], ◌∷◌, ◌++◌, length, set, refl, sym, ◌∙◌, ap, subst, arith, length-append}
use Rattle.std.specs.List.{filter, list_all}
use Rattle.std.proofs.lemmas.Bool.{eqb-false, false≢true}
use Rattle.std.proofs.lemmas.List.{get_or-set_same, get_or-set_other, get_or_past}
use Rattle.cx_order_least.specs.Orders.{count, numbers_from}
use Rattle.cx_order_least.specs.Links.{is_left}
use Rattle.cx_order_least.proofs.Counts.{nothing, same_or_other, count-first, count-later, all-at}
use Rattle.cx_order_least.proofs.LeastOrders.{Rises}

abbrev Positive : ℕ → Type 0
Positive n = 0 < n

-- ---- marks

pub left-marked : (marks : List Bool) (x : ℕ) → x < length marks
    → is_left (set marks x true) x ≡ false
left-marked marks x h = ap not (get_or-set_same marks x true true h)

pub left-other : (marks : List Bool) (x k : ℕ) → eqb k x ≡ false
    → is_left (set marks x true) k ≡ is_left marks k
left-other marks x k other =
    ap not (get_or-set_other marks x k true true (λ e. eqb-false k x other e))

pub left-below : (marks : List Bool) (k : ℕ) → is_left marks k ≡ true → k < length marks
left-below marks k left = by_test (ltb k (length marks)) refl
  where
    by_test : (t : Bool) → ltb k (length marks) ≡ t → k < length marks
    by_test true e = ltb-true k (length marks) e
    by_test false e = absurd
        (false≢true (sym (ap not (get_or_past marks k true (ltb-false k (length marks) e))) ∙ left))

pub same_or_not : (k x : ℕ) → (k ≡ x) ⊎ (eqb k x ≡ false)
same_or_not k x = by_test (eqb k x) refl
  where
    by_test : (t : Bool) → eqb k x ≡ t → (k ≡ x) ⊎ (eqb k x ≡ false)
    by_test true e = inl (eqb-true k x e)
    by_test false e = inr e

-- ---- the numbers that pass a test

tested : (p : ℕ → Bool) (x k : ℕ) (xs : List ℕ) → 0 < count k (filter p (x ∷ xs))
    → ((x ≡ k) × (p x ≡ true)) ⊎ (0 < count k (filter p xs))
tested p x k xs there = by_test (p x) refl
  where
    by_test : (t : Bool) → p x ≡ t → ((x ≡ k) × (p x ≡ true)) ⊎ (0 < count k (filter p xs))
    by_test false e =
        inr (subst (λ t. 0 < count k (cond t (x ∷ filter p xs) (filter p xs))) e there)
    by_test true e = elim (same_or_other x k) [
      | inl same ↦ inl (same, e)
      | inr other
          ↦ inr (subst Positive (other (filter p xs))
          (subst (λ t. 0 < count k (cond t (x ∷ filter p xs) (filter p xs))) e there))
    ]

pub in-rest : (p : ℕ → Bool) (a n k : ℕ) → 0 < count k (filter p (numbers_from a n))
    → (p k ≡ true) × ((a ≤ k) × (k < a + n))
in-rest p a zero k there = nothing there
in-rest p a (suc n) k there = elim (tested p a k (numbers_from (a + 1) n) there) [
  | inl here ↦ (let P : ℕ → Type 0 = λ m. (p m ≡ true) × ((a ≤ m) × (m < a + suc n)) in
      subst P here.0 (here.1, (omega arith, omega arith)))
  | inr later ↦ (let h = in-rest p (a + 1) n k later in
      (h.0, (let l = h.1.0 in omega (arith, l), let u = h.1.1 in omega (arith, u))))
]

kept : (p : ℕ → Bool) (x k : ℕ) (xs : List ℕ) → 0 < count k (filter p xs)
    → 0 < count k (filter p (x ∷ xs))
kept p x k xs there = by_test (p x) refl
  where
    by_test : (t : Bool) → p x ≡ t → 0 < count k (filter p (x ∷ xs))
    by_test true e = subst (λ t. 0 < count k (cond t (x ∷ filter p xs) (filter p xs))) (sym e)
        (count-later x k (filter p xs) there)
    by_test false e = subst (λ t. 0 < count k (cond t (x ∷ filter p xs) (filter p xs))) (sym e)
        there

here : (p : ℕ → Bool) (x : ℕ) (xs : List ℕ) → p x ≡ true → 0 < count x (filter p (x ∷ xs))
here p x xs e = subst (λ t. 0 < count x (cond t (x ∷ filter p xs) (filter p xs))) (sym e)
    (subst Positive (sym (count-first x (filter p xs))) (omega arith))

pub to-rest : (p : ℕ → Bool) (a n k : ℕ) → p k ≡ true → a ≤ k → k < a + n
    → 0 < count k (filter p (numbers_from a n))
to-rest p a zero k pass low high = absurd (let no : ⊥ = omega (arith, low, high) in no)
to-rest p a (suc n) k pass low high =
    by_test (λ l. to-rest p (a + 1) n k pass l (omega (arith, high))) (eqb a k) refl
  where
    by_test : (a + 1 ≤ k → 0 < count k (filter p (numbers_from (a + 1) n))) → (t : Bool)
        → eqb a k ≡ t → 0 < count k (filter p (numbers_from a (suc n)))
    by_test rest true e =
        let same = eqb-true a k e in
        let P : ℕ → Type 0 = λ m. p m ≡ true → 0 < count m (filter p (numbers_from a (suc n))) in
        subst P same (here p a (numbers_from (a + 1) n)) pass
    by_test rest false e = kept p a k (numbers_from (a + 1) n)
        (rest (let ne = eqb-false a k e in omega (arith, low, ne)))

pub rest-rises : (p : ℕ → Bool) (a n : ℕ) → Rises (filter p (numbers_from a n))
rest-rises p a zero = tt
rest-rises p a (suc n) = by_test (p a) refl (rest-rises p (a + 1) n)
  where
    by_test : (t : Bool) → p a ≡ t → Rises (filter p (numbers_from (a + 1) n))
        → Rises (filter p (numbers_from a (suc n)))
    by_test true e rises =
        let R : Bool → Type 0 =
        λ t. Rises (cond t (a ∷ filter p (numbers_from (a + 1) n))
        (filter p (numbers_from (a + 1) n))) in
        subst R (sym e) (
          (λ k there. let h = (in-rest p (a + 1) n k there).1.0 in omega (arith, h)),
          rises,
        )
    by_test false e rises =
        let R : Bool → Type 0 =
        λ t. Rises (cond t (a ∷ filter p (numbers_from (a + 1) n))
        (filter p (numbers_from (a + 1) n))) in
        subst R (sym e) rises

-- ---- one number fails from now on

-- the others pass as before
pub record Drops (p q : ℕ → Bool) (x : ℕ) : Type 0 where
  pub passed : p x ≡ true
  pub fails : q x ≡ false
  pub others : (k : ℕ) → eqb k x ≡ false → q k ≡ p k

pub record Splits (p q : ℕ → Bool) (x : ℕ) (xs : List ℕ) : Type 0 where
  pub front : List ℕ
  pub back : List ℕ
  pub whole : filter p xs ≡ front ++ x ∷ back
  pub without : filter q xs ≡ front ++ back
  pub less : (k : ℕ) → 0 < count k front → (p k ≡ true) × (k < x)

not-same : (k x : ℕ) → (k ≡ x → ⊥) → eqb k x ≡ false
not-same k x ne = by_test (eqb k x) refl
  where
    by_test : (t : Bool) → eqb k x ≡ t → eqb k x ≡ false
    by_test true e = absurd (ne (eqb-true k x e))
    by_test false e = e

same-behind : (p q : ℕ → Bool) (x : ℕ) → Drops p q x → (a n : ℕ) → x < a
    → filter q (numbers_from a n) ≡ filter p (numbers_from a n)
same-behind p q x d a zero h = refl
same-behind p q x d a (suc n) h =
    rw (d.others a (not-same a x (λ e. let no : ⊥ = omega (arith, h, e) in no)))
    (ap (λ r. cond (p a) (a ∷ r) r) (same-behind p q x d (a + 1) n (omega (arith, h))))

pub splits : (p q : ℕ → Bool) (x : ℕ) → Drops p q x → (a n : ℕ) → a ≤ x → x < a + n
    → Splits p q x (numbers_from a n)
splits p q x d a zero low high = absurd (let no : ⊥ = omega (arith, low, high) in no)
splits p q x d a (suc n) low high =
    by_test (λ l. splits p q x d (a + 1) n l (omega (arith, high))) (eqb a x) refl
  where
    rest : List ℕ
    rest = numbers_from (a + 1) n

    at_once : a ≡ x → Splits p q x (numbers_from a (suc n))
    at_once e =
        record {
          front = [];
          back = filter p rest;
          whole = (let P : ℕ → Type 0 =
              λ m. cond (p m) (m ∷ filter p rest) (filter p rest) ≡ x ∷ filter p rest in
              subst P (sym e) (ap (λ t. cond t (x ∷ filter p rest) (filter p rest)) d.passed));
          without = (let P : ℕ → Type 0 =
              λ m. cond (q m) (m ∷ filter q rest) (filter q rest) ≡ filter q rest in
              subst P (sym e) (ap (λ t. cond t (x ∷ filter q rest) (filter q rest)) d.fails))
              ∙ same-behind p q x d (a + 1) n (omega (arith, e));
          less = λ k there. nothing there;
        }

    with_first : eqb a x ≡ false → a < x → Splits p q x rest → (t : Bool) → p a ≡ t
        → Splits p q x (numbers_from a (suc n))
    with_first other below s true e =
        record {
          front = a ∷ s.front;
          back = s.back;
          whole = ap (λ t. cond t (a ∷ filter p rest) (filter p rest)) e ∙ ap (λ r. a ∷ r) s.whole;
          without = ap (λ t. cond t (a ∷ filter q rest) (filter q rest)) (d.others a other ∙ e)
              ∙ ap (λ r. a ∷ r) s.without;
          less = λ k there. elim (same_or_other a k) [
            | inl same ↦ (let P : ℕ → Type 0 = λ m. (p m ≡ true) × (m < x) in
                subst P same (e, below))
            | inr apart ↦ s.less k (subst Positive (apart s.front) there)
          ];
        }
    with_first other below s false e =
        record {
          front = s.front;
          back = s.back;
          whole = ap (λ t. cond t (a ∷ filter p rest) (filter p rest)) e ∙ s.whole;
          without = ap (λ t. cond t (a ∷ filter q rest) (filter q rest)) (d.others a other ∙ e)
              ∙ s.without;
          less = s.less;
        }

    by_test : (a + 1 ≤ x → Splits p q x rest) → (t : Bool) → eqb a x ≡ t
        → Splits p q x (numbers_from a (suc n))
    by_test later true e = at_once (eqb-true a x e)
    by_test later false e =
        let ne = eqb-false a x e in
        let below : a < x = omega (arith, low, ne) in
        with_first e below (later (omega (arith, below))) (p a) refl

pub splits-shorter : (p q : ℕ → Bool) (x : ℕ) (xs : List ℕ) → Splits p q x xs
    → length (filter q xs) + 1 ≡ length (filter p xs)
splits-shorter p q x xs s =
    let w = ap length s.whole in
    let v = ap length s.without in
    let a = length-append s.front (x ∷ s.back) in
    let b = length-append s.front s.back in omega (arith, w, v, a, b)

-- a number of a list that fails
pub some-fails : (p : ℕ → Bool) (xs : List ℕ) (k : ℕ) → 0 < count k xs → p k ≡ false
    → list_all p xs ≡ false
some-fails p xs k there fails = by_test (list_all p xs) refl
  where
    by_test : (t : Bool) → list_all p xs ≡ t → list_all p xs ≡ false
    by_test true e = absurd (false≢true (sym fails ∙ all-at p xs k e there))
    by_test false e = e
