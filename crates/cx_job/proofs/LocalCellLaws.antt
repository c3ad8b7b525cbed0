-- Sums and products that stop at the greatest number.
use Rattle.std.proofs.Common.{◌≡◌, refl, ap, sym, ◌∙◌, ℕ, ◌+◌, ◌*◌, List, [], ◌∷◌, arith}
use Rattle.std.specs.Prelude.{fold, sum_by}
use Rattle.std.specs.List.{range_with_len}
use Rattle.std.proofs.lemmas.List.Sums.{sum_by_push}
use Rattle.cx_cut.proofs.FaultLaws.{kept_mul}
use Rattle.cx_grid.specs.Boxes.{point_count}
use Rattle.cx_cut.specs.Cuts.{Parts, part_count, local}
use Rattle.cx_job.specs.LocalCells.{part_cells, cells_by}
use Rattle.cx_job.proofs.LineLaws.{numbers_more}
use Rattle.cx_text.specs.Numbers.{in_64_bits}

held_sum : (a b : ℕ) → in_64_bits (in_64_bits a + in_64_bits b) ≡ in_64_bits (a + b)
held_sum a b = omega arith

pub held_first : (a b : ℕ) → in_64_bits (in_64_bits a + b) ≡ in_64_bits (a + b)
held_first a b = omega arith

-- a product and a number behind it
pub held_cells : (p m w : ℕ)
    → in_64_bits (in_64_bits (in_64_bits p * m) + w) ≡ in_64_bits (p * m + w)
held_cells p m w = ap (λ n. in_64_bits (n + w)) (kept_mul p m) ∙ held_first (p * m) w

-- a sum with one number more
pub sum_more : (f : ℕ → ℕ) (n sum : ℕ) → sum ≡ in_64_bits (sum_by f (range_with_len 0 n))
    → in_64_bits (sum + in_64_bits (f n)) ≡ in_64_bits (sum_by f (range_with_len 0 (n + 1)))
sum_more f n sum is =
    ap (λ s. in_64_bits (s + in_64_bits (f n))) is
    ∙ held_sum (sum_by f (range_with_len 0 n)) (f n)
    ∙ ap in_64_bits (sym (sum_by_push f (range_with_len 0 n) n))
    ∙ ap (λ ks. in_64_bits (sum_by f ks)) (sym (numbers_more n))

-- sums of numbers that are held alike
same_held : (f g : ℕ → ℕ) → ((k : ℕ) → in_64_bits (f k) ≡ in_64_bits (g k)) → (a b : ℕ)
    → in_64_bits a ≡ in_64_bits b → (ks : List ℕ)
    → in_64_bits (fold (λ s k. s + f k) a ks) ≡ in_64_bits (fold (λ s k. s + g k) b ks)
same_held f g each a b same [] = same
same_held f g each a b same (k ∷ ks) =
    same_held f g each (a + f k) (b + g k) (let e = each k in omega (arith, same, e)) ks

swapped : (p m w : ℕ) → in_64_bits (p * in_64_bits m + in_64_bits w) ≡ in_64_bits (p * m + w)
swapped p m w =
    let a : p * in_64_bits m ≡ in_64_bits m * p = omega arith in
    let b : m * p ≡ p * m = omega arith in
    let e = kept_mul m p in
    omega (arith, a, b, e)

by_held : (c : Parts) (m w : ℕ)
    → in_64_bits (cells_by c (in_64_bits m) (in_64_bits w)) ≡ in_64_bits (cells_by c m w)
by_held c m w =
    same_held (part_cells c (in_64_bits m) (in_64_bits w)) (part_cells c m w)
    (λ k. swapped (point_count (local c k)) m w) 0 0 refl (range_with_len 0 (part_count c))

pub all_held : (c p : Parts) (e w m n : ℕ) → c ≡ p → e ≡ in_64_bits m → w ≡ in_64_bits n
    → in_64_bits (cells_by c e w) ≡ in_64_bits (cells_by p m n)
all_held c p e w m n cut each window =
    ap (λ q. in_64_bits (cells_by q e w)) cut
    ∙ ap (λ x. in_64_bits (cells_by p x w)) each
    ∙ ap (λ x. in_64_bits (cells_by p (in_64_bits m) x)) window
    ∙ by_held p m n
