-- Numbers that count up to a place.
use Rattle.std.proofs.Common.{◌≡◌, ℕ, zero, suc, max, ◌+◌, ◌<◌, ◌≤◌, arith, refl, sym, ap, ◌∙◌, ℤ, pos, List, [], ◌∷◌, ◌++◌, length, take, drop, replicate}
use Rattle.std.specs.Prelude.{slice_index_or, slice_set}
use Rattle.std.proofs.lemmas.List.{length-drop, length-take-le}
use Rattle.cx_rule.specs.Staging.{no_numbers, put_from}
use Rattle.cx_rule.specs.Buffers.{counted}
use Rattle.cx_rule.specs.Rows.{IsOpened}

pub zeros_length : (ns : List ℤ) → length (no_numbers ns) ≡ length ns
zeros_length [] = refl
zeros_length (m ∷ ns) = ap suc (zeros_length ns)

pub counted_length : (n : ℕ) (ns : List ℤ) → length (counted n ns) ≡ length ns
counted_length zero ns = zeros_length ns
counted_length (suc n) [] = refl
counted_length (suc n) (m ∷ ns) = ap suc (counted_length n ns)

-- all count
pub counted_all : (n : ℕ) (ns : List ℤ) → length ns ≤ n → counted n ns ≡ ns
counted_all zero [] h = refl
counted_all zero (m ∷ ns) h = absurd (omega (arith, h))
counted_all (suc n) [] h = refl
counted_all (suc n) (m ∷ ns) h = ap (λ ms. m ∷ ms) (counted_all n ns (omega (arith, h)))

zeros_again : (ns : List ℤ) → no_numbers (no_numbers ns) ≡ no_numbers ns
zeros_again [] = refl
zeros_again (m ∷ ns) = ap (λ ms. pos 0 ∷ ms) (zeros_again ns)

-- none counts any more
pub counted_none : (n : ℕ) (ns : List ℤ) → no_numbers ns ≡ no_numbers (counted n ns)
counted_none zero ns = sym (zeros_again ns)
counted_none (suc n) [] = refl
counted_none (suc n) (m ∷ ns) = ap (λ ms. pos 0 ∷ ms) (counted_none n ns)

pub counted_new : (n : ℕ) → no_numbers (replicate n (pos 0)) ≡ replicate n (pos 0)
counted_new zero = refl
counted_new (suc n) = ap (λ ms. pos 0 ∷ ms) (counted_new n)

-- one number more is set to 0, and counts
pub counted_more : (n : ℕ) (ns : List ℤ) → n < length ns
    → counted (suc n) (slice_set ns n (pos 0)) ≡ counted n ns
counted_more zero [] h = refl
counted_more zero (m ∷ ns) h = refl
counted_more (suc n) [] h = refl
counted_more (suc n) (m ∷ ns) h = ap (λ ms. m ∷ ms) (counted_more n ns (omega (arith, h)))

pub counted_set : (n at : ℕ) (ns : List ℤ) (v : ℤ) → at < n
    → counted n (slice_set ns at v) ≡ slice_set (counted n ns) at v
counted_set zero at ns v h = absurd (omega (arith, h))
counted_set (suc n) zero [] v h = refl
counted_set (suc n) (suc at) [] v h = refl
counted_set (suc n) zero (m ∷ ns) v h = refl
counted_set (suc n) (suc at) (m ∷ ns) v h =
    ap (λ ms. m ∷ ms) (counted_set n at ns v (omega (arith, h)))

pub counted_number : (n at : ℕ) (ns : List ℤ) → at < n
    → slice_index_or (counted n ns) at (pos 0) ≡ slice_index_or ns at (pos 0)
counted_number zero at ns h = absurd (omega (arith, h))
counted_number (suc n) zero [] h = refl
counted_number (suc n) (suc at) [] h = refl
counted_number (suc n) zero (m ∷ ns) h = refl
counted_number (suc n) (suc at) (m ∷ ns) h = counted_number n at ns (omega (arith, h))

zeros_number : (at : ℕ) (ns : List ℤ) → slice_index_or (no_numbers ns) at (pos 0) ≡ pos 0
zeros_number zero [] = refl
zeros_number (suc at) [] = refl
zeros_number zero (m ∷ ns) = refl
zeros_number (suc at) (m ∷ ns) = zeros_number at ns

pub counted_zero : (n at : ℕ) (ns : List ℤ) → n ≤ at
    → slice_index_or (counted n ns) at (pos 0) ≡ pos 0
counted_zero zero at ns h = zeros_number at ns
counted_zero (suc n) zero ns h = absurd (omega (arith, h))
counted_zero (suc n) (suc at) [] h = refl
counted_zero (suc n) (suc at) (m ∷ ns) h = counted_zero n at ns (omega (arith, h))

-- ---- numbers put from a place on, up to which all count

put_front : (n m e : ℕ) (ns values : List ℤ) → e ≡ length values → m ≡ max n e → e ≤ length ns
    → counted m (values ++ drop e ns) ≡ values ++ drop e (counted n ns)
put_front n m zero ns [] a b c = let e : m ≡ n = omega (arith, b) in ap (λ k. counted k ns) e
put_front n m (suc e) ns [] a b c = absurd (omega (arith, a))
put_front n m zero ns (v ∷ values) a b c = absurd (omega (arith, a))
put_front n m (suc e) [] (v ∷ values) a b c = absurd (omega (arith, c))
put_front n zero (suc e) (k ∷ ns) (v ∷ values) a b c = absurd (omega (arith, b))
put_front zero (suc m) (suc e) (k ∷ ns) (v ∷ values) a b c =
    ap (λ ms. v ∷ ms) (put_front zero m e ns values (omega (arith, a)) (omega (arith, b))
    (omega (arith, c)))
put_front (suc n) (suc m) (suc e) (k ∷ ns) (v ∷ values) a b c =
    ap (λ ms. v ∷ ms) (put_front n m e ns values (omega (arith, a)) (omega (arith, b))
    (omega (arith, c)))

put_behind : (at n m e : ℕ) (ns values : List ℤ) → e ≡ at + length values → m ≡ max n e → at ≤ n
    → e ≤ length ns
    → counted m (take at ns ++ (values ++ drop e ns))
    ≡ take at (counted n ns) ++ (values ++ drop e (counted n ns))
put_behind zero n m e ns values a b l c = put_front n m e ns values (omega (arith, a)) b c
put_behind (suc at) zero m e ns values a b l c = absurd (omega (arith, l))
put_behind (suc at) (suc n) m zero ns values a b l c = absurd (omega (arith, a))
put_behind (suc at) (suc n) m (suc e) [] values a b l c = absurd (omega (arith, c))
put_behind (suc at) (suc n) zero (suc e) (k ∷ ns) values a b l c = absurd (omega (arith, b))
put_behind (suc at) (suc n) (suc m) (suc e) (k ∷ ns) values a b l c =
    ap (λ ms. k ∷ ms) (put_behind at n m e ns values (omega (arith, a)) (omega (arith, b))
    (omega (arith, l)) (omega (arith, c)))

pub counted_put : (at n m : ℕ) (ns values : List ℤ) → at ≤ n → m ≡ max n (at + length values)
    → at + length values ≤ length ns
    → counted m (put_from at ns values) ≡ put_from at (counted n ns) values
counted_put at n m ns values l b c = put_behind at n m (at + length values) ns values refl b l c

-- where all count, they are what was seen
pub all_counted : (n m : ℕ) (old new : List ℤ) → m ≡ length old → length new ≡ length old
    → counted (max n m) new ≡ counted n old → new ≡ counted n old
all_counted n m old new a b e = sym (counted_all (max n m) new (omega (arith, a, b))) ∙ e

-- ---- numbers that are left as they stand

own_front : (count : ℕ) (ns : List ℤ) → take count ns ++ drop (length (take count ns)) ns ≡ ns
own_front zero [] = refl
own_front zero (m ∷ ns) = refl
own_front (suc count) [] = refl
own_front (suc count) (m ∷ ns) = ap (λ ms. m ∷ ms) (own_front count ns)

own_behind : (at count e : ℕ) (ns : List ℤ) → e ≡ at + length (take count (drop at ns))
    → at + count ≤ length ns
    → take at ns ++ (take count (drop at ns) ++ drop e ns) ≡ ns
own_behind zero count e ns a l =
    let same : e ≡ length (take count ns) = omega (arith, a) in
    ap (λ k. take count ns ++ drop k ns) same ∙ own_front count ns
own_behind (suc at) count e [] a l = absurd (omega (arith, l))
own_behind (suc at) count zero (m ∷ ns) a l = absurd (omega (arith, a))
own_behind (suc at) count (suc e) (m ∷ ns) a l =
    ap (λ ms. m ∷ ms) (own_behind at count e ns (omega (arith, a)) (omega (arith, l)))

-- putting what stands there changes nothing
own_put : (at count : ℕ) (ns : List ℤ) → at + count ≤ length ns
    → put_from at ns (take count (drop at ns)) ≡ ns
own_put at count ns l = own_behind at count (at + length (take count (drop at ns))) ns refl l

own_count : (at count : ℕ) (ns : List ℤ) → at + count ≤ length ns
    → length (take count (drop at ns)) ≡ count
own_count at count ns l =
    let d = length-drop at ns in
    length-take-le count (drop at ns) (omega (arith, d, l))

pub opened_same : (at count : ℕ) (ns : List ℤ) → at + count ≤ length ns → IsOpened at count ns ns
opened_same at count ns l =
    (take count (drop at ns), own_count at count ns l, sym (own_put at count ns l))

-- and so they count where those before them do
pub opened_more : (at count end : ℕ) (ns : List ℤ) → end ≡ at + count → at + count ≤ length ns
    → IsOpened at count (counted at ns) (counted end ns)
opened_more at count end ns e l =
    let m = own_count at count ns l in (
      take count (drop at ns),
      m,
      ap (counted end) (sym (own_put at count ns l))
          ∙ counted_put at at end ns (take count (drop at ns)) (omega arith) (omega (arith, e, m))
          (omega (arith, m, l)),
    )
