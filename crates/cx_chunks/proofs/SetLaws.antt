-- Rows whose numbers are set.
use Rattle.std.proofs.Common.{◌≡◌, ℕ, ◌+◌, ◌-◌, ◌<◌, ◌≤◌, arith, sym, ap, ◌∙◌, ℤ, pos, List, [], ◌∷◌, ◌++◌, append_assoc, length, get_or, take, drop, replicate, slice_set}
use Rattle.std.proofs.lemmas.List.{length-append, drop_all, take_all, take_more_set}
use Rattle.cx_chunks.specs.Rows.{values_from}
use Rattle.cx_chunks.proofs.RowPlaces.{values_are}
use Rattle.cx_chunks.proofs.RunLaws.{run_joined}
use Rattle.cx_chunks.proofs.StepLaws.{taken}

-- ---- one number after another

pub one_more : (row values : List ℤ) (k : ℕ) (x : ℤ) → k < length row → k < length values
    → x ≡ get_or values k x → take k row ≡ take k values
    → take (k + 1) (slice_set row k x) ≡ take (k + 1) values
one_more row values k x room there at before =
    take_more_set row k x room ∙ ap (λ (l : List ℤ). l ++ x ∷ []) before
    ∙ sym (taken values k x there at)

pub all_set : (row values : List ℤ) (k : ℕ) → length row ≡ length values → length values ≤ k
    → take k row ≡ take k values → row ≡ values
all_set row values k same end are =
    sym (take_all k row (omega (arith, same, end))) ∙ are ∙ take_all k values end

-- ---- a row from two lists, one after another

pub set_joined : (xs ys : List ℤ) (from n : ℕ)
    → take n (drop from xs)
    ++ values_from ys (from - length xs) (n - length (take n (drop from xs)))
    ≡ values_from (xs ++ ys) from n
set_joined xs ys from n =
    let part = take n (drop from xs) in
    let m = n - length part in
    let rest = take m (drop (from - length xs) ys) in
    let all = take n (drop from (xs ++ ys)) in
    let whole : part ++ rest ≡ all = run_joined xs ys from n in
    let a = length-append part rest in
    let b = ap length whole in
    let left : m - length rest ≡ n - length all = omega (arith, a, b) in
    ap (λ (l : List ℤ). part ++ l) (sym (values_are ys (from - length xs) m))
    ∙ sym (append_assoc part rest (replicate (m - length rest) (pos 0)))
    ∙ ap (λ k. (part ++ rest) ++ replicate k (pos 0)) left
    ∙ ap (λ (l : List ℤ). l ++ replicate (n - length all) (pos 0)) whole
    ∙ values_are (xs ++ ys) from n

pub both_set : (xs ys : List ℤ) (from after n m : ℕ) (part first second : List ℤ)
    → part ≡ take n (drop from xs) → first ≡ part → after ≡ from - length xs
    → m ≡ n - length part → second ≡ values_from ys after m
    → first ++ second ≡ values_from (xs ++ ys) from n
both_set xs ys from after n m part first second is first_is after_is m_is second_is =
    ap (λ (l : List ℤ). first ++ l) second_is
    ∙ ap (λ k. first ++ values_from ys k m) after_is
    ∙ ap (λ k. first ++ values_from ys (from - length xs) k) m_is
    ∙ ap (λ (l : List ℤ). l ++ values_from ys (from - length xs) (n - length part)) first_is
    ∙ ap (λ (l : List ℤ). l ++ values_from ys (from - length xs) (n - length l)) is
    ∙ set_joined xs ys from n

-- ---- a row of zeros

pub none_set : (from n : ℕ) → replicate n (pos 0) ≡ values_from [] from n
none_set from n =
    let none : drop {A = ℤ} from [] ≡ [] = drop_all from [] (omega arith) in
    let few : take {A = ℤ} n [] ≡ [] = take_all n [] (omega arith) in
    let there : take n (drop {A = ℤ} from []) ≡ [] = ap (take {A = ℤ} n) none ∙ few in
    let all : n ≡ n - 0 = omega arith in
    ap (λ k. replicate k (pos 0)) all
    ∙ ap (λ (l : List ℤ). l ++ replicate (n - length l) (pos 0)) (sym there)
    ∙ values_are [] from n
