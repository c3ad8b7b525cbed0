-- The number of a reduction, point after point.
use Rattle.std.proofs.Common.{ℕ, ◌<◌, ◌≤◌, ◌^◌, ◌≡◌, ◌∙◌, refl, sym, ap, ℤ, pos, ◌+ℤ◌, Bool, true, false, List, [], ◌∷◌, length, filter, Option, Some, None, fold, arith}
use Rattle.std.specs.Prelude.{if◌then◌else◌}
use Rattle.std.specs.Int.{int_min, int_max}
use Rattle.std.specs.Option.{unwrap_or}
use Rattle.std.proofs.lemmas.Int.{ints}
use Rattle.cx_plan.specs.declared.item.ItemKind.{ItemKind}
use Rattle.cx_plan.specs.declared.item.ItemKind.TheVariants.{Cell, Scalar, Sum, Least, Greatest, Count}
use Rattle.cx_model.specs.Turns.{reduced}
use Rattle.cx_reduce.specs.Partials.{IsReduction, IsBounded, IsReduced, one_more, told}
use Rattle.cx_text.specs.Numbers.{is_not_zero}

abbrev pub running : ItemKind → List ℤ → Option ℤ
running kind ns = fold (one_more kind) None ns

-- ---- behind all points

sums : (a : ℤ) (ns : List ℤ) → fold (one_more Sum) (Some a) ns ≡ Some (fold ◌+ℤ◌ a ns)
sums a [] = refl
sums a (n ∷ ns) = sums (a +ℤ n) ns

leasts : (a : ℤ) (ns : List ℤ) → fold (one_more Least) (Some a) ns ≡ Some (fold int_min a ns)
leasts a [] = refl
leasts a (n ∷ ns) = leasts (int_min a n) ns

greatests : (a : ℤ) (ns : List ℤ) → fold (one_more Greatest) (Some a) ns ≡ Some (fold int_max a ns)
greatests a [] = refl
greatests a (n ∷ ns) = greatests (int_max a n) ns

counted : (b : Bool) (n a : ℤ) (ns : List ℤ)
    → ((a +ℤ (if b then pos 1 else pos 0)) +ℤ pos (length ns))
    ≡ a +ℤ pos (length (if b then n ∷ ns else ns))
counted true n a ns = omega (arith, ints)
counted false n a ns = omega (arith, ints)

counts : (a : ℤ) (ns : List ℤ)
    → fold (one_more Count) (Some a) ns ≡ Some (a +ℤ pos (length (filter is_not_zero ns)))
counts a [] = ap Some (omega (arith, ints))
counts a (n ∷ ns) = counts (a +ℤ told Count n) ns
    ∙ ap Some (counted (is_not_zero n) n a (filter is_not_zero ns))

first_counted : (b : Bool) (n : ℤ) (ns : List ℤ)
    → ((if b then pos 1 else pos 0) +ℤ pos (length ns)) ≡ pos (length (if b then n ∷ ns else ns))
first_counted true n ns = omega (arith, ints)
first_counted false n ns = omega (arith, ints)

-- a row of counted numbers, behind others or first
pub counted_behind : (number : Option ℤ) (so_far counted result : ℤ) (n : ℕ) (row : List ℤ)
    → number ≡ Some so_far → n ≡ length (filter is_not_zero row)
    → counted ≡ pos n → result ≡ so_far +ℤ counted → Some result ≡ fold (one_more Count) number row
counted_behind number so_far counted result n row before is here all =
    ap Some (all ∙ ap (λ k. so_far +ℤ k) (here ∙ ap pos is))
    ∙ sym (ap (λ o. fold (one_more Count) o row) before ∙ counts so_far row)

pub counted_first : (number : Option ℤ) (counted : ℤ) (n : ℕ) (row : List ℤ) → number ≡ None
    → 0 < length row → n ≡ length (filter is_not_zero row)
    → counted ≡ pos n → Some counted ≡ fold (one_more Count) number row
counted_first number counted n [] none some is here = absurd (omega (arith, some))
counted_first number counted n (m ∷ ms) none some is here =
    ap Some (here ∙ ap pos is)
    ∙ sym (ap (λ o. fold (one_more Count) o (m ∷ ms)) none ∙ counts (told Count m) ms
    ∙ ap Some (first_counted (is_not_zero m) m (filter is_not_zero ms)))

pub running_is : (kind : ItemKind) (ns : List ℤ) → IsReduction kind
    → unwrap_or (running kind ns) (pos 0) ≡ reduced kind ns
running_is Sum [] r = refl
running_is Sum (n ∷ ns) r = ap (λ o. unwrap_or o (pos 0)) (sums n ns)
running_is Least [] r = refl
running_is Least (n ∷ ns) r = ap (λ o. unwrap_or o (pos 0)) (leasts n ns)
running_is Greatest [] r = refl
running_is Greatest (n ∷ ns) r = ap (λ o. unwrap_or o (pos 0)) (greatests n ns)
running_is Count [] r = refl
running_is Count (n ∷ ns) r =
    ap (λ o. unwrap_or o (pos 0)) (counts (told Count n) ns)
    ∙ first_counted (is_not_zero n) n (filter is_not_zero ns)
running_is Cell ns r = absurd r
running_is Scalar ns r = absurd r

-- ---- the answer

pub is_reduced : (kind : ItemKind) (points : ℕ) (number : Option ℤ) (result : ℤ)
    → result ≡ unwrap_or number (pos 0) → IsBounded points number
    → 0 < points → points ≤ 2 ^ 24
    → IsReduced (record { kind = kind; points = points; number = result })
is_reduced kind points None result is none some few = absurd (omega (arith, none, some))
is_reduced kind points (Some n) result is within some few =
    rw is (record { some = some; few = few; from = within.1.0; to = within.1.1 })
