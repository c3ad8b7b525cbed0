-- Where there is an order there is no cycle.
use Rattle.std.proofs.Common.{◌≡◌, ℕ, ◌+◌, ◌<◌, Bool, true, false, not, cond, eqb, List, [], ◌∷◌, refl, subst, arith, eqb-true}
use Rattle.std.proofs.lemmas.Bool.{and_parts}
use Rattle.cx_order_least.specs.Orders.{Before, count, Respects, leads, is_cycle}
use Rattle.cx_order_least.proofs.Counts.{nothing, all-at}

Positive : ℕ → Type 0
Positive n = 0 < n

-- the first place of a number
abbrev place : ℕ → List ℕ → ℕ
place k [] = 0
place k (x ∷ xs) = cond (eqb x k) 0 (place k xs + 1)

data Test (x k : ℕ) : Type 0 where
  same : x ≡ k → ((xs : List ℕ) → place k (x ∷ xs) ≡ 0) → Test x k
  other : ((xs : List ℕ) → place k (x ∷ xs) ≡ place k xs + 1)
      → ((xs : List ℕ) → count k (x ∷ xs) ≡ count k xs) → Test x k

test : (x k : ℕ) → Test x k
test x k = by_test (eqb x k) refl
  where
    by_test : (b : Bool) → eqb x k ≡ b → Test x k
    by_test true e = same (eqb-true x k e) (λ xs. rw e refl)
    by_test false e = other (λ xs. rw e refl) (λ xs. rw e (omega arith))

abbrev There : ℕ → List ℕ → Type 0
There k xs = 0 < count k xs

-- what must stand before another stands before it in each order
ahead : (before : Before) (a b : ℕ) (xs : List ℕ) → Respects before xs → before a b ≡ true
    → There a xs → There b xs → place a xs < place b xs
ahead before a b [] r h there_a there_b = nothing there_a
ahead before a b (x ∷ xs) r h there_a there_b = elim (test x b) [
  | same e p ↦ absurd (blocked e)
  | other p c ↦ elim (test x a) [
    | same e q ↦ (let zero_place = q xs in let later = p xs in omega (arith, zero_place, later))
    | other q d ↦ (let rest =
        ahead before a b xs r.1 h (there_in a (d xs) there_a) (there_in b (c xs) there_b) in
        let qa = q xs in let pb = p xs in omega (arith, rest, qa, pb))
  ]
]
  where
    there_in : (k : ℕ) → count k (x ∷ xs) ≡ count k xs → There k (x ∷ xs) → There k xs
    there_in k e t = omega (arith, e, t)

    blocked : x ≡ b → ⊥
    blocked e =
        let free : not (before a x) ≡ true =
        all-at (λ y. not (before y x)) (x ∷ xs) a r.0 there_a in
        let P : ℕ → Type 0 = λ n. not (before a n) ≡ true in
        let free_b : not (before a b) ≡ true = subst P e free in cc (free_b, h)

along : (before : Before) (xs : List ℕ) → Respects before xs
    → ((a b : ℕ) → before a b ≡ true → There a xs × There b xs) → (a : ℕ) (ys : List ℕ) (end : ℕ)
    → leads before a ys end ≡ true → place a xs < place end xs
along before xs r within a [] end h = let t = within a end h in ahead before a end xs r h t.0 t.1
along before xs r within a (y ∷ ys) end h =
    let parts = and_parts (before a y) (leads before y ys end) h in
    let t = within a y parts.0 in
    let first = ahead before a y xs r parts.0 t.0 t.1 in
    let more = along before xs r within y ys end parts.1 in omega (arith, first, more)

-- An order of numbers among which each pair stands leaves no cycle.
pub no-cycle : (before : Before) (xs : List ℕ) → Respects before xs
    → ((a b : ℕ) → before a b ≡ true → There a xs × There b xs) → (ys : List ℕ)
    → is_cycle before ys ≡ true → ⊥
no-cycle before xs r within [] h = cc h
no-cycle before xs r within (y ∷ ys) h = let less = along before xs r within y ys y h in
    omega (arith, less)
