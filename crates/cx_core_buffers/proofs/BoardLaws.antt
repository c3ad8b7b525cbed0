-- What giving and taking leave in each queue.
use Rattle.std.proofs.Common.{◌≡◌, ℕ, zero, suc, ◌+◌, ◌-◌, ◌<◌, ◌≤◌, ◌⊎◌, inl, inr, Bool, true, arith, refl, sym, ap, ◌∙◌, List, [], ◌∷◌, ◌++◌, length, map, take, drop, ◌==◌, length-set}
use Rattle.std.specs.Prelude.{slice_index_or, slice_set, nat_lt, if◌then◌else◌}
use Rattle.std.specs.List.{list_all}
use Rattle.std.proofs.lemmas.Bool.{cases_eq, eq-eqb, ne_eqb, ltb-true}
use Rattle.std.proofs.lemmas.List.{get_or-set_same, get_or-set_other, get_or-map, length-map, length-append, length-drop, append-nil, drop-drop, get_or-drop, get_or-append_right, length-take-le}
use Rattle.cx_field.proofs.PartPoints.{each_passes}
use Rattle.cx_reduce.specs.Partials.{Reduced}
use Rattle.cx_core_buffers.specs.Boards.{Given, IsGiven, IsReady, queue, Gives, Takes}

drop_front : {A : Type 0} (n : ℕ) (xs ys : List A) → n ≤ length xs
    → drop n (xs ++ ys) ≡ drop n xs ++ ys
drop_front zero [] ys h = refl
drop_front zero (x ∷ xs) ys h = refl
drop_front (suc n) [] ys h = absurd (omega (arith, h))
drop_front (suc n) (x ∷ xs) ys h = drop_front n xs ys (omega (arith, h))

-- an element that a loop over a list has not come to yet
pub later_item : {A : Type 0} (f : A → A) (xs first : List A) (i : ℕ) (d : A) → i < length first
    → xs ≡ map f (take i first) ++ drop i first
    → slice_index_or xs i d ≡ slice_index_or first i d
later_item f xs first i d l e =
    let n : length (map f (take i first)) ≡ i =
    length-map (take i first) f ∙ length-take-le i first (omega (arith, l)) in
    let z : i + (i - i) ≡ i = omega arith in
    ap (λ ys. slice_index_or ys i d) e
    ∙ get_or-append_right (map f (take i first)) (drop i first) i i d n (omega arith)
    ∙ get_or-drop i first (i - i) d ∙ ap (λ k. slice_index_or first k d) z

pub over_length : {A : Type 0} (f : A → A) (xs first : List A) (i : ℕ) → i ≤ length first
    → xs ≡ map f (take i first) ++ drop i first → length xs ≡ length first
over_length f xs first i l e =
    let n : length (map f (take i first)) ≡ i =
    length-map (take i first) f ∙ length-take-le i first l in
    let m = length-append (map f (take i first)) (drop i first) in
    let d = length-drop i first in
    let q = ap length e in
    omega (arith, n, m, d, q, l)

pub some_count : (counts : List ℕ) (i : ℕ) → i < length counts
    → list_all (λ count. nat_lt 0 count) counts ≡ true → 0 < slice_index_or counts i 0
some_count counts i l h =
    ltb-true 0 (slice_index_or counts i 0) (each_passes (λ count. nat_lt 0 count) counts h i 0 l)

-- ---- giving

abbrev pub given_by : Given → ℕ → Reduced → Given
given_by b from x = record {
  given =
      slice_set b.given from (slice_index_or b.given from [] ++ x ∷ []);
  taken = b.taken;
}

module _ (b : Given) (h : IsGiven b) (from : ℕ) (x : Reduced) (there : from < length b.given) where
  abbrev row : List Reduced
  row = slice_index_or b.given from [] ++ x ∷ []

  many : length (given_by b from x).given ≡ length b.given
  many = length-set b.given from row

  row_is : (a : ℕ) → (a ≡ from)
      → slice_index_or (given_by b from x).given a [] ≡ slice_index_or b.given a [] ++ x ∷ []
  row_is a e =
      ap (λ k. slice_index_or (given_by b from x).given k []) e
      ∙ get_or-set_same b.given from row [] there
      ∙ ap (λ k. slice_index_or b.given k [] ++ x ∷ []) (sym e)

  row_other : (a : ℕ) → (a ≡ from → ⊥)
      → slice_index_or (given_by b from x).given a [] ≡ slice_index_or b.given a []
  row_other a n = get_or-set_other b.given from a row [] n

  pub gives : Gives b from x (given_by b from x)
  gives = record { parts = many; queues = each }
    where
      each : (a k : ℕ) → a < length b.given → k < length b.given
          → queue (given_by b from x) a k ≡ queue b a k ++ (if a == from then x ∷ [] else [])
      each a k la lk = go (cases_eq a from)
        where
          go : (a ≡ from) ⊎ (a ≡ from → ⊥)
              → queue (given_by b from x) a k ≡ queue b a k ++ (if a == from then x ∷ [] else [])
          go (inl e) =
              ap (drop (slice_index_or b.taken k 0)) (row_is a e)
              ∙ drop_front (slice_index_or b.taken k 0) (slice_index_or b.given a []) (x ∷ [])
              (h.within a k la lk)
              ∙ ap (λ (t : Bool). queue b a k ++ (if t then x ∷ [] else [])) (sym (eq-eqb a from e))
          go (inr n) =
              ap (drop (slice_index_or b.taken k 0)) (row_other a n)
              ∙ sym (append-nil (queue b a k))
              ∙ ap (λ (t : Bool). queue b a k ++ (if t then x ∷ [] else [])) (sym (ne_eqb a from n))

  pub gives_is : IsGiven (given_by b from x)
  gives_is = record { parts = h.parts ∙ sym many; within = each }
    where
      each : (a k : ℕ) → a < length (given_by b from x).given → k < length (given_by b from x).given
          → slice_index_or b.taken k 0 ≤ length (slice_index_or (given_by b from x).given a [])
      each a k la lk = go (cases_eq a from)
        where
          old : slice_index_or b.taken k 0 ≤ length (slice_index_or b.given a [])
          old = h.within a k (omega (arith, la, many)) (omega (arith, lk, many))

          go : (a ≡ from) ⊎ (a ≡ from → ⊥)
              → slice_index_or b.taken k 0 ≤ length (slice_index_or (given_by b from x).given a [])
          go (inl e) = let n = ap length (row_is a e)
              ∙ length-append (slice_index_or b.given a []) (x ∷ []) in omega (arith, old, n)
          go (inr n) = let m = ap length (row_other a n) in omega (arith, old, m)

-- ---- taking

abbrev pub taken_by : Given → ℕ → Given
taken_by b to = record {
  given = b.given;
  taken = slice_set b.taken to (slice_index_or b.taken to 0 + 1);
}

abbrev pub dropped : Given → Given
dropped b = record { given = map (drop 1) b.given; taken = map (λ count. count - 1) b.taken }

module _ (b : Given) (h : IsGiven b) (to : ℕ) (there : to < length b.given) (ready : IsReady b to)
  where
    count_is : (k : ℕ) → k ≡ to
        → slice_index_or (taken_by b to).taken k 0 ≡ slice_index_or b.taken k 0 + 1
    count_is k e =
        ap (λ n. slice_index_or (taken_by b to).taken n 0) e
        ∙ get_or-set_same b.taken to (slice_index_or b.taken to 0 + 1) 0
        (let p = h.parts in omega (arith, p, there))
        ∙ ap (λ n. slice_index_or b.taken n 0 + 1) (sym e)

    count_other : (k : ℕ) → (k ≡ to → ⊥)
        → slice_index_or (taken_by b to).taken k 0 ≡ slice_index_or b.taken k 0
    count_other k n = get_or-set_other b.taken to k (slice_index_or b.taken to 0 + 1) 0 n

    pub takes : Takes b to (taken_by b to)
    takes = record { parts = refl; queues = each }
      where
        each : (a k : ℕ) → a < length b.given → k < length b.given
            → queue (taken_by b to) a k ≡ (if k == to then drop 1 (queue b a k) else queue b a k)
        each a k la lk = go (cases_eq k to)
          where
            go : (k ≡ to) ⊎ (k ≡ to → ⊥)
                → queue (taken_by b to) a k
                ≡ (if k == to then drop 1 (queue b a k) else queue b a k)
            go (inl e) =
                ap (λ n. drop n (slice_index_or b.given a [])) (count_is k e)
                ∙ sym (drop-drop 1 (slice_index_or b.taken k 0) (slice_index_or b.given a []))
                ∙ ap (λ (t : Bool). if t then drop 1 (queue b a k) else queue b a k)
                (sym (eq-eqb k to e))
            go (inr n) =
                ap (λ n. drop n (slice_index_or b.given a [])) (count_other k n)
                ∙ ap (λ (t : Bool). if t then drop 1 (queue b a k) else queue b a k)
                (sym (ne_eqb k to n))

    pub takes_is : IsGiven (taken_by b to)
    takes_is = record {
      parts = length-set b.taken to (slice_index_or b.taken to 0 + 1) ∙ h.parts;
      within = each;
    }
      where
        each : (a k : ℕ) → a < length b.given → k < length b.given
            → slice_index_or (taken_by b to).taken k 0 ≤ length (slice_index_or b.given a [])
        each a k la lk = go (cases_eq k to)
          where
            go : (k ≡ to) ⊎ (k ≡ to → ⊥)
                → slice_index_or (taken_by b to).taken k 0 ≤ length (slice_index_or b.given a [])
            go (inl e) =
                let n = count_is k e in
                let r = ready a la in
                let s : slice_index_or b.taken k 0 ≡ slice_index_or b.taken to 0 =
                ap (λ m. slice_index_or b.taken m 0) e in
                omega (arith, n, r, s)
            go (inr n) = let m = count_other k n in let w = h.within a k la lk in
                omega (arith, m, w)

module _ (b : Given) (h : IsGiven b) (some : list_all (λ count. nat_lt 0 count) b.taken ≡ true)
  where
    same_many : length (dropped b).given ≡ length b.given
    same_many = length-map b.given (drop 1)

    count_less : (k : ℕ) → k < length b.given
        → slice_index_or (dropped b).taken k 0 ≡ slice_index_or b.taken k 0 - 1
    count_less k l = get_or-map (λ count. count - 1) b.taken k 0 0
        (let p = h.parts in omega (arith, p, l))

    row_less : (a : ℕ) → a < length b.given
        → slice_index_or (dropped b).given a [] ≡ drop 1 (slice_index_or b.given a [])
    row_less a l = get_or-map (drop 1) b.given a [] [] l

    count_some : (k : ℕ) → k < length b.given → 0 < slice_index_or b.taken k 0
    count_some k l = some_count b.taken k (let p = h.parts in omega (arith, p, l)) some

    -- no queue changes
    pub queue_same : (a k : ℕ) → a < length b.given → k < length b.given
        → queue (dropped b) a k ≡ queue b a k
    queue_same a k la lk =
        let s = count_some k lk in
        let z : 1 + (slice_index_or b.taken k 0 - 1) ≡ slice_index_or b.taken k 0 =
        omega (arith, s) in
        ap (λ n. drop n (slice_index_or (dropped b).given a [])) (count_less k lk)
        ∙ ap (drop (slice_index_or b.taken k 0 - 1)) (row_less a la)
        ∙ drop-drop (slice_index_or b.taken k 0 - 1) 1 (slice_index_or b.given a [])
        ∙ ap (λ n. drop n (slice_index_or b.given a [])) z

    pub dropped_is : IsGiven (dropped b)
    dropped_is = record {
      parts = length-map b.taken (λ count. count - 1) ∙ h.parts ∙ sym same_many;
      within = each;
    }
      where
        each : (a k : ℕ) → a < length (dropped b).given → k < length (dropped b).given
            → slice_index_or (dropped b).taken k 0 ≤ length (slice_index_or (dropped b).given a [])
        each a k la lk =
            let ma : a < length b.given = omega (arith, la, same_many) in
            let mk : k < length b.given = omega (arith, lk, same_many) in
            let w = h.within a k ma mk in
            let s = count_less k mk in
            let r = ap length (row_less a ma) ∙ length-drop 1 (slice_index_or b.given a []) in
            omega (arith, w, s, r)

-- a row has a number where all parts have taken one
pub row_some : (b : Given) → IsGiven b → (a : ℕ) → a < length b.given
    → list_all (λ count. nat_lt 0 count) b.taken ≡ true → 0 < length (slice_index_or b.given a [])
row_some b h a l some =
    let s = count_some b h some a l in
    let w = h.within a a l l in
    omega (arith, s, w)

pub takes_dropped : (b : Given) → IsGiven b → (to : ℕ) → to < length b.given → IsReady b to
    → list_all (λ count. nat_lt 0 count) (taken_by b to).taken ≡ true
    → Takes b to (dropped (taken_by b to))
takes_dropped b h to there ready some = record {
  parts = same_many (taken_by b to) (takes_is b h to there ready) some;
  queues = λ a k la lk. queue_same (taken_by b to) (takes_is b h to there ready) some a k la lk
      ∙ (takes b h to there ready).queues a k la lk;
}
