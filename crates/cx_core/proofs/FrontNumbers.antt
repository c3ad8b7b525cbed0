-- The front numbers of all parts, joined one by one.
use Rattle.std.proofs.Common.{◌≡◌, ℕ, zero, suc, ◌+◌, ◌<◌, ◌≤◌, ℤ, List, [], ◌∷◌, ◌++◌, length, refl, sym, ap, ◌∙◌, arith, length-append, ◌⊎◌, inl, inr, subst}
use Rattle.std.specs.Prelude.{fold}
use Rattle.std.proofs.lemmas.Bool.{cases_lt}
use Rattle.std.specs.Int.{int_min, int_max}
use Rattle.cx_plan.specs.declared.item.ItemKind.{ItemKind}
use Rattle.cx_plan.specs.declared.item.ItemKind.TheVariants.{Cell, Scalar, Sum, Least, Greatest, Count}
use Rattle.cx_reduce.specs.Partials.{Reduced, IsReduction, joined_by, joined as both}
use Rattle.cx_core_buffers.specs.Boards.{Given, front}
use Rattle.law_parts.specs.Holding.{joined}
use Rattle.cx_core.specs.Moving.{all_fronts}
use Rattle.law_network.specs.Machine.{sum_below}

fold_behind : {X Y : Type 0} (f : Y → X → Y) (a : Y) (xs : List X) (x : X)
    → fold f a (xs ++ x ∷ []) ≡ f (fold f a xs) x
fold_behind f a [] x = refl
fold_behind f a (y ∷ xs) x = fold_behind f (f a y) xs x

joined_more : (kind : ItemKind) (ns : List ℤ) (n : ℤ) → IsReduction kind → 0 < length ns
    → joined kind (ns ++ n ∷ []) ≡ joined_by kind (joined kind ns) n
joined_more kind [] n red some = absurd (omega (arith, some))
joined_more Sum (m ∷ ns) n red some = fold_behind _ m ns n
joined_more Least (m ∷ ns) n red some = fold_behind int_min m ns n
joined_more Greatest (m ∷ ns) n red some = fold_behind int_max m ns n
joined_more Count (m ∷ ns) n red some = fold_behind _ m ns n
joined_more Cell (m ∷ ns) n red some = absurd red
joined_more Scalar (m ∷ ns) n red some = absurd red

joined_one : (kind : ItemKind) (n : ℤ) → IsReduction kind → n ≡ joined kind (n ∷ [])
joined_one Sum n red = refl
joined_one Least n red = refl
joined_one Greatest n red = refl
joined_one Count n red = refl
joined_one Cell n red = absurd red
joined_one Scalar n red = absurd red

fronts_length : (g : Given) (k a : ℕ) → length (all_fronts g k a) ≡ a
fronts_length g k zero = refl
fronts_length g k (suc a) = let e = fronts_length g k a in
    let l = length-append (all_fronts g k a) ((front g a k).number ∷ []) in omega (arith, e, l)

-- the first front, and one more
pub first_front : (g : Given) (k : ℕ) (kind : ItemKind) → IsReduction kind
    → (front g 0 k).number ≡ joined kind (all_fronts g k 1)
first_front g k kind red = joined_one kind (front g 0 k).number red

pub next_front : (g : Given) (k a : ℕ) (kind : ItemKind) (number : ℤ) → IsReduction kind → 0 < a
    → number ≡ joined kind (all_fronts g k a)
    → joined_by kind number (front g a k).number ≡ joined kind (all_fronts g k (suc a))
next_front g k a kind number red some e =
    ap (λ n. joined_by kind n (front g a k).number) e
    ∙ sym (joined_more kind (all_fronts g k a) (front g a k).number red
    (let l = fronts_length g k a in omega (arith, l, some)))

-- ---- points

sum_upto : (n m : ℕ) (f : ℕ → ℕ) → n ≤ m → sum_below n f ≤ sum_below m f
sum_upto n zero f l = let e : n ≡ 0 = omega (arith, l) in
    subst (λ k. sum_below k f ≤ 0) (sym e) (omega arith)
sum_upto n (suc m) f l = go (cases_lt m n) (sum_upto n m f)
  where
    go : (m < n) ⊎ (n ≤ m) → (n ≤ m → sum_below n f ≤ sum_below m f)
        → sum_below n f ≤ sum_below m f + f m
    go (inl h) more = let e : n ≡ suc m = omega (arith, h, l) in
        subst (λ k. sum_below k f ≤ sum_below m f + f m) (sym e) (omega arith)
    go (inr h) more = let r = more h in omega (arith, r)

-- one more stays within
pub points_within : (a parts most : ℕ) (f : ℕ → ℕ) (points : ℕ) → points ≡ sum_below a f → a < parts
    → sum_below parts f ≤ most → points + f a ≤ most
points_within a parts most f points e l few = let u = sum_upto (suc a) parts f l in
    omega (arith, e, u, few)

-- ---- one front more

module _ (g : Given) (k a : ℕ) (kind : ItemKind) (red : IsReduction kind) (some : 0 < a)
    (so_far its result : Reduced)
    (same_kind : so_far.kind ≡ kind)
    (points : so_far.points ≡ sum_below a (λ b. (front g b k).points))
    (number : so_far.number ≡ joined kind (all_fronts g k a))
    (its_is : its ≡ front g a k) (is : result ≡ both so_far its) where
  one_more : a + 1 ≡ suc a
  one_more = omega arith

  pub more_kind : result.kind ≡ kind
  more_kind = ap (λ (x : Reduced). x.kind) is ∙ same_kind

  pub more_points : result.points ≡ sum_below (a + 1) (λ b. (front g b k).points)
  more_points =
      ap (λ (x : Reduced). x.points) is ∙ ap (λ n. n + its.points) points
      ∙ ap (λ (x : Reduced). sum_below a (λ b. (front g b k).points) + x.points) its_is
      ∙ ap (λ n. sum_below n (λ b. (front g b k).points)) (sym one_more)

  pub more_number : result.number ≡ joined kind (all_fronts g k (a + 1))
  more_number =
      ap (λ (x : Reduced). x.number) is ∙ ap (λ q. joined_by q so_far.number its.number) same_kind
      ∙ ap (λ (x : Reduced). joined_by kind so_far.number x.number) its_is
      ∙ next_front g k a kind so_far.number red some number
      ∙ ap (λ n. joined kind (all_fronts g k n)) (sym one_more)
