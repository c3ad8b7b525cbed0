-- One piece more of a text that is made of pieces by their numbers.
use Rattle.std.proofs.Common.{◌≡◌, ◌∙◌, ℕ, ℤ, ◌+◌, ◌*◌, List, [], ◌∷◌, ◌++◌, zero, suc, min, length, take, drop, arith, sym, ap, refl, add-one}
use Rattle.std.specs.List.{range_with_len, flat_map}
use Rattle.std.proofs.lemmas.List.{flat_map_more, drop-drop, take_all, drop_all}
use Rattle.cx_ascii.specs.Output.{values_of, row_in}

pub range_more : (a n j : ℕ) → a + n ≡ j → range_with_len a (suc n) ≡ range_with_len a n ++ j ∷ []
range_more a zero j e = let same : a ≡ j = omega arith in ap (λ (m : ℕ). m ∷ []) same
range_more a (suc n) j e = ap (λ (ms : List ℕ). a ∷ ms) (range_more (a + 1) n j (omega arith))

range_next : (k : ℕ) → range_with_len 0 (k + 1) ≡ range_with_len 0 k ++ k ∷ []
range_next k = rw add-one (range_more 0 k k (omega arith))

pub grown : (f : ℕ → List ℕ) (start old new : List ℕ) (k : ℕ)
    → old ≡ start ++ flat_map f (range_with_len 0 k) → new ≡ old ++ f k
    → new ≡ start ++ flat_map f (range_with_len 0 (k + 1))
grown f start old new k before now =
    now ∙ ap (λ l. l ++ f k) before ∙ flat_map_more f start (range_with_len 0 k) k
    ∙ ap (λ ks. start ++ flat_map f ks) (sym (range_next k))

-- at most so many of what there is are so many of it
take-min : (n : ℕ) (l : List ℤ) → take (min n (length l)) l ≡ take n l
take-min n [] = let none : min n 0 ≡ 0 = omega arith in rw none (sym (take_all n [] (omega arith)))
take-min zero (x ∷ l) = let none : min 0 (length (x ∷ l)) ≡ 0 = omega arith in rw none refl
take-min (suc n) (x ∷ l) =
    let one : min (suc n) (suc (length l)) ≡ suc (min n (length l)) = omega arith in
    rw one (ap (λ m. x ∷ m) (take-min n l))

drop-min : (n : ℕ) (l : List ℤ) → drop (min n (length l)) l ≡ drop n l
drop-min n [] = let none : min n 0 ≡ 0 = omega arith in rw none (sym (drop_all n [] (omega arith)))
drop-min zero (x ∷ l) = let none : min 0 (length (x ∷ l)) ≡ 0 = omega arith in rw none refl
drop-min (suc n) (x ∷ l) =
    let one : min (suc n) (suc (length l)) ≡ suc (min n (length l)) = omega arith in
    rw one (drop-min n l)

pub row_grown : (width k : ℕ) (level rest row : List ℤ) (start old new : List ℕ)
    → rest ≡ drop (width * k) level → row ≡ take (min width (length rest)) rest
    → old ≡ start ++ flat_map (row_in width level) (range_with_len 0 k)
    → new ≡ old ++ (values_of row ++ 10 ∷ [])
    → new ≡ start ++ flat_map (row_in width level) (range_with_len 0 (k + 1))
row_grown width k level rest row start old new at is before now =
    grown (row_in width level) start old new k before
    (now ∙ ap (λ (r : List ℤ). old ++ (values_of r ++ 10 ∷ []))
    (is ∙ take-min width rest ∙ ap (take width) at))

pub rest_next : (width k : ℕ) (level rest others : List ℤ) → rest ≡ drop (width * k) level
    → others ≡ drop (min width (length rest)) rest → others ≡ drop (width * (k + 1)) level
rest_next width k level rest others at is =
    let next : width * k + width ≡ width * (k + 1) = omega arith in
    is ∙ drop-min width rest ∙ ap (drop width) at ∙ drop-drop width (width * k) level
    ∙ ap (λ n. drop n level) next

pub none_dropped : (width : ℕ) (level : List ℤ) → level ≡ drop (width * 0) level
none_dropped width level = let none : width * 0 ≡ 0 = omega arith in rw none refl
