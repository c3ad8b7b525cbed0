-- A run of one list after another.
use Rattle.std.proofs.Common.{◌≡◌, ℕ, zero, suc, ◌-◌, arith, refl, ap, ◌∙◌, ℤ, List, [], ◌∷◌, ◌++◌, length, take, drop}
use Rattle.std.proofs.lemmas.List.{take_all, drop_all}

front : (xs ys : List ℤ) (count : ℕ)
    → take count xs ++ take (count - length (take count xs)) ys ≡ take count (xs ++ ys)
front [] ys count =
    let none : take {A = ℤ} count [] ≡ [] = take_all count [] (omega arith) in
    let all : count - 0 ≡ count = omega arith in
    ap (λ (l : List ℤ). l ++ take (count - length l) ys) none ∙ ap (λ n. take n ys) all
front (x ∷ xs) ys zero = refl
front (x ∷ xs) ys (suc n) =
    let less : suc n - suc (length (take n xs)) ≡ n - length (take n xs) = omega arith in
    ap (λ k. x ∷ (take n xs ++ take k ys)) less ∙ ap (λ (l : List ℤ). x ∷ l) (front xs ys n)

pub run_joined : (xs ys : List ℤ) (from count : ℕ)
    → take count (drop from xs)
    ++ take (count - length (take count (drop from xs))) (drop (from - length xs) ys)
    ≡ take count (drop from (xs ++ ys))
run_joined [] ys from count =
    let none : drop {A = ℤ} from [] ≡ [] = drop_all from [] (omega arith) in
    let all : from - 0 ≡ from = omega arith in
    ap (λ (l : List ℤ). take count l ++ take (count - length (take count l)) (drop (from - 0) ys))
    none
    ∙ ap (λ n. take count [] ++ take (count - length (take count [])) (drop n ys)) all
    ∙ front [] (drop from ys) count
run_joined (x ∷ xs) ys zero count =
    let none : 0 - length (x ∷ xs) ≡ 0 = omega arith in
    ap (λ n. take count (x ∷ xs) ++ take (count - length (take count (x ∷ xs))) (drop n ys)) none
    ∙ front (x ∷ xs) ys count
run_joined (x ∷ xs) ys (suc from) count =
    let less : suc from - suc (length xs) ≡ from - length xs = omega arith in
    ap (λ n. take count (drop from xs)
    ++ take (count - length (take count (drop from xs))) (drop n ys)) less
    ∙ run_joined xs ys from count
