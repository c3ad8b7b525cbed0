-- A walk from number to number backwards meets itself, and makes a cycle.
use Rattle.std.proofs.Common.{◌≡◌, inl, inr, ℕ, zero, suc, ◌+◌, ◌<◌, ◌≤◌, Bool, true, List, [], ◌∷◌, ◌++◌, length, get_or, take, drop, refl, sym, ap, subst, arith, add-one, le-leb, append-nil}
use Rattle.std.specs.Prelude.{nat_le}
use Rattle.std.specs.List.{list_all}
use Rattle.std.proofs.lemmas.Bool.{and_parts, and_from}
use Rattle.std.proofs.lemmas.List.{take-append-drop, drop_more}
use Rattle.cx_order_least.specs.Orders.{Before, count, leads, is_cycle, begins_least, IsChain, IsCycle}
use Rattle.cx_order_least.proofs.Counts.{nothing, same_or_other, count-first, count-later, count-parts, all-from}

abbrev Positive : ℕ → Type 0
Positive n = 0 < n

chain-leads : (before : Before) (x : ℕ) (xs : List ℕ) (j end : ℕ) → IsChain before (x ∷ xs)
    → j < length (x ∷ xs) → before (get_or (x ∷ xs) j 0) end ≡ true
    → leads before x (take j xs) end ≡ true
chain-leads before x xs zero end chain within last = last
chain-leads before x [] (suc j) end chain within last =
    absurd (let no : ⊥ = omega (arith, within) in no)
chain-leads before x (y ∷ ys) (suc j) end chain within last =
    and_from (before x y) (leads before y (take j ys) end) chain.0
    (chain-leads before y ys j end chain.1 (omega (arith, within)) last)

pub chain-cycle : (before : Before) (x : ℕ) (xs : List ℕ) (j : ℕ) → IsChain before (x ∷ xs)
    → j < length (x ∷ xs) → before (get_or (x ∷ xs) j 0) x ≡ true
    → is_cycle before (take (j + 1) (x ∷ xs)) ≡ true
chain-cycle before x xs j chain within last =
    rw add-one (chain-leads before x xs j x chain within last)

-- ---- turning a cycle

leads-append : (before : Before) (a : ℕ) (xs : List ℕ) (y : ℕ) (ys : List ℕ) (end : ℕ)
    → leads before a (xs ++ y ∷ ys) end ≡ true
    → (leads before a xs y ≡ true) × (leads before y ys end ≡ true)
leads-append before a [] y ys end h = and_parts (before a y) (leads before y ys end) h
leads-append before a (x ∷ xs) y ys end h =
    let parts = and_parts (before a x) (leads before x (xs ++ y ∷ ys) end) h in
    let more = leads-append before x xs y ys end parts.1 in
    (and_from (before a x) (leads before x xs y) parts.0 more.0, more.1)

append-leads : (before : Before) (a : ℕ) (xs : List ℕ) (y : ℕ) (ys : List ℕ) (end : ℕ)
    → leads before a xs y ≡ true → leads before y ys end ≡ true
    → leads before a (xs ++ y ∷ ys) end ≡ true
append-leads before a [] y ys end h g = and_from (before a y) (leads before y ys end) h g
append-leads before a (x ∷ xs) y ys end h g =
    let parts = and_parts (before a x) (leads before x xs y) h in
    and_from (before a x) (leads before x (xs ++ y ∷ ys) end) parts.0
    (append-leads before x xs y ys end parts.1 g)

turned : (before : Before) (front : List ℕ) (y : ℕ) (ys : List ℕ)
    → is_cycle before (front ++ y ∷ ys) ≡ true → is_cycle before ((y ∷ ys) ++ front) ≡ true
turned before [] y ys h = let P : List ℕ → Type 0 = λ r. leads before y r y ≡ true in
    subst P (sym (append-nil ys)) h
turned before (x ∷ xs) y ys h = let parts = leads-append before x xs y ys x h in
    append-leads before y ys x xs y parts.1 parts.0

pub found-at : (xs : List ℕ) (k : ℕ) → 0 < count k xs
    → (j : ℕ) × (j < length xs) × (get_or xs j 0 ≡ k)
found-at [] k there = nothing there
found-at (x ∷ xs) k there = elim (same_or_other x k) [
  | inl e ↦ (0, omega arith, e)
  | inr other ↦ (let at = found-at xs k (subst Positive (other xs) there) in
      (suc at.0, omega (arith, at.1), at.2))
]

pub count-at : (xs : List ℕ) (i : ℕ) → i < length xs → 0 < count (get_or xs i 0) xs
count-at [] i h = absurd (let no : ⊥ = omega (arith, h) in no)
count-at (x ∷ xs) zero h = subst Positive (sym (count-first x xs)) (omega arith)
count-at (x ∷ xs) (suc i) h = count-later x (get_or xs i 0) xs (count-at xs i (omega (arith, h)))

pub turned-cycle : (before : Before) (xs turned_xs : List ℕ) (i : ℕ) → i < length xs
    → turned_xs ≡ drop i xs ++ take i xs → is_cycle before xs ≡ true
    → is_cycle before turned_xs ≡ true
turned-cycle before xs turned_xs i h is cycle =
    let C : List ℕ → Type 0 = λ r. is_cycle before r ≡ true in
    let D : List ℕ → Type 0 = λ d. is_cycle before (d ++ take i xs) ≡ true in
    let E : List ℕ → Type 0 = λ d. is_cycle before (take i xs ++ d) ≡ true in
    subst C (sym is)
    (subst D (sym (drop_more xs i 0 h))
    (turned before (take i xs) (get_or xs i 0) (drop (i + 1) xs)
    (subst E (drop_more xs i 0 h) (subst C (sym (take-append-drop i xs)) cycle))))

pub turned-least : (xs turned_xs : List ℕ) (i : ℕ) → i < length xs
    → turned_xs ≡ drop i xs ++ take i xs → ((k : ℕ) → k < length xs → get_or xs i 0 ≤ get_or xs k 0)
    → begins_least turned_xs ≡ true
turned-least xs turned_xs i h is least =
    let B : List ℕ → Type 0 = λ r. begins_least r ≡ true in
    let D : List ℕ → Type 0 = λ d. begins_least (d ++ take i xs) ≡ true in
    subst B (sym is)
    (subst D (sym (drop_more xs i 0 h))
    (all-from (λ y. nat_le (get_or xs i 0) y) (drop (i + 1) xs ++ take i xs)
    (λ k there. le-leb (get_or xs i 0) k (at_most k (found-at xs k (in_all k there))))))
  where
    at_most : (k : ℕ) → ((j : ℕ) × (j < length xs) × (get_or xs j 0 ≡ k)) → get_or xs i 0 ≤ k
    at_most k at = let P : ℕ → Type 0 = λ n. get_or xs i 0 ≤ n in subst P at.2 (least at.0 at.1)

    in_all : (k : ℕ) → 0 < count k (drop (i + 1) xs ++ take i xs) → 0 < count k xs
    in_all k there =
        let whole = ap (count k) (take-append-drop i xs) in
        let parts = count-parts k (take i xs) (drop i xs) in
        let dropped = ap (count k) (drop_more xs i 0 h) in
        let turned_parts = count-parts k (drop (i + 1) xs) (take i xs) in
        omega (arith, whole, parts, dropped, turned_parts, there)

-- ---- the steps of the calls

pub all-below : (p : ℕ → Bool) (xs : List ℕ) → ((k : ℕ) → k < length xs → p (get_or xs k 0) ≡ true)
    → list_all p xs ≡ true
all-below p xs h = all-from p xs
    (λ k there. let at = found-at xs k there in let P : ℕ → Type 0 = λ n. p n ≡ true in
    subst P at.2 (h at.0 at.1))

pub none-counts : (x : ℕ) (xs : List ℕ) → ((k : ℕ) → k < length xs → get_or xs k 0 ≡ x → ⊥)
    → count x xs ≡ 0
none-counts x xs h = by_cases (count x xs) refl
  where
    by_cases : (n : ℕ) → count x xs ≡ n → count x xs ≡ 0
    by_cases zero e = e
    by_cases (suc n) e = absurd
        (let at = found-at xs x (let there : 0 < count x xs = omega (arith, e) in there) in
        h at.0 at.1 at.2)

count-take : (n k : ℕ) (xs : List ℕ) → count k (take n xs) ≤ count k xs
count-take n k xs = let parts = count-parts k (take n xs) (drop n xs) in
    let whole = ap (count k) (take-append-drop n xs) in omega (arith, parts, whole)

count-turned : (i k : ℕ) (xs : List ℕ) → count k (drop i xs ++ take i xs) ≡ count k xs
count-turned i k xs = let parts = count-parts k (take i xs) (drop i xs) in
    let whole = ap (count k) (take-append-drop i xs) in
    let turn = count-parts k (drop i xs) (take i xs) in omega (arith, parts, whole, turn)

front-cycle : (before : Before) (last : ℕ) (path : List ℕ) (i : ℕ) → IsChain before (last ∷ path)
    → i < length path → get_or path i 0 ≡ last → is_cycle before (take (i + 1) path) ≡ true
front-cycle before last [] i chain within found = absurd (let no : ⊥ = omega (arith, within) in no)
front-cycle before last (y ∷ ys) i chain within found =
    let N : ℕ → Type 0 = λ n. before n y ≡ true in
    chain-cycle before y ys i chain.1 within (subst N (sym found) chain.0)

-- The cycle at a walk's beginning, turned so that its least number is the first.
pub turned-front : (before : Before) (last : ℕ) (path cut now new : List ℕ) (i at : ℕ)
    → IsChain before (last ∷ path) → ((k : ℕ) → count k path ≤ 1) → i < length path
    → get_or path i 0 ≡ last → cut ≡ take (i + 1) path → now ≡ cut → at < length now
    → ((k : ℕ) → k < length now → get_or now at 0 ≤ get_or now k 0)
    → new ≡ drop at cut ++ take at cut → IsCycle before new
turned-front before last path cut now new i at chain once within found is same at_within least
    turn =
    let C : List ℕ → Type 0 = λ r. is_cycle before r ≡ true in
    let W : List ℕ → Type 0 = λ r. at < length r in
    let L : List ℕ → Type 0 = λ r. (k : ℕ) → k < length r → get_or r at 0 ≤ get_or r k 0 in
    record {
      cycle = turned-cycle before cut new at (subst W same at_within) turn
          (subst C (sym is) (front-cycle before last path i chain within found));
      once = λ k. (let a = count-turned at k cut in let b = count-take (i + 1) k path in
          let c = once k in let d = ap (count k) is in let e = ap (count k) turn in
          omega (arith, a, b, c, d, e));
      least = turned-least cut new at (subst W same at_within) turn (subst L same least);
    }

leads-more : (before other : Before) → ((a b : ℕ) → before a b ≡ true → other a b ≡ true)
    → (x : ℕ) (xs : List ℕ) (end : ℕ) → leads before x xs end ≡ true → leads other x xs end ≡ true
leads-more before other more x [] end h = more x end h
leads-more before other more x (y ∷ ys) end h =
    let parts = and_parts (before x y) (leads before y ys end) h in
    and_from (other x y) (leads other y ys end) (more x y parts.0)
    (leads-more before other more y ys end parts.1)

more-cycle : (before other : Before) → ((a b : ℕ) → before a b ≡ true → other a b ≡ true)
    → (xs : List ℕ) → is_cycle before xs ≡ true → is_cycle other xs ≡ true
more-cycle before other more [] h = absurd (cc h)
more-cycle before other more (x ∷ xs) h = leads-more before other more x xs x h

pub cycle-more : (before other : Before) → ((a b : ℕ) → before a b ≡ true → other a b ≡ true)
    → (xs : List ℕ) → IsCycle before xs → IsCycle other xs
cycle-more before other more xs c =
    record { cycle = more-cycle before other more xs c.cycle; once = c.once; least = c.least }
