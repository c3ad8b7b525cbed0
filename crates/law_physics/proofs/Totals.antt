-- Sums of a function over numbers in a row, and over the places of a box.
use Rattle.std.proofs.Common.{◌≡◌, ℕ, zero, suc, ◌+◌, ◌*◌, ◌<◌, ◌≤◌, arith, refl, sym, ap, ◌∙◌, ℤ, pos, ◌+ℤ◌, ◌-ℤ◌, List, [], ◌∷◌, map, length, get_or, fold}
use Rattle.std.specs.List.{range_with_len}
use Rattle.std.proofs.lemmas.Int.{ints}
use Rattle.cx_plan.specs.declared.item.ItemKind.TheVariants.{Sum}
use Rattle.cx_model.specs.Turns.{reduced}

-- the sum of a function over so many numbers, from one on
abbrev pub total : (from count : ℕ) → (ℕ → ℤ) → ℤ
total from zero f = pos 0
total from (suc count) f = f from +ℤ total (from + 1) count f

plus_zero : (a : ℤ) → a ≡ a +ℤ pos 0
plus_zero a = omega (arith, ints)

regroup : (a b c : ℤ) → a +ℤ b +ℤ c ≡ a +ℤ (b +ℤ c)
regroup a b c = omega (arith, ints)

pub folded : (c : ℤ) (from count : ℕ) (f : ℕ → ℤ)
    → fold (λ a b. a +ℤ b) c (map f (range_with_len from count)) ≡ c +ℤ total from count f
folded c from zero f = plus_zero c
folded c from (suc count) f = folded (c +ℤ f from) (from + 1) count f
    ∙ regroup c (f from) (total (from + 1) count f)

pub total_same : (from count : ℕ) (f g : ℕ → ℤ)
    → ((i : ℕ) → from ≤ i → i < from + count → f i ≡ g i) → total from count f ≡ total from count g
total_same from zero f g same = refl
total_same from (suc count) f g same =
    let first : f from ≡ g from = same from (omega arith) (omega arith) in
    let others = total_same (from + 1) count f g
    (λ i low high. same i (omega (arith, low)) (omega (arith, high))) in
    ap (λ a. a +ℤ total (from + 1) count f) first ∙ ap (λ a. g from +ℤ a) others

shuffle : (a b c d : ℤ) → a +ℤ b +ℤ (c +ℤ d) ≡ a +ℤ c +ℤ (b +ℤ d)
shuffle a b c d = omega (arith, ints)

pub total_plus : (from count : ℕ) (f g : ℕ → ℤ)
    → total from count (λ i. f i +ℤ g i) ≡ total from count f +ℤ total from count g
total_plus from zero f g = refl
total_plus from (suc count) f g =
    ap (λ a. f from +ℤ g from +ℤ a) (total_plus (from + 1) count f g)
    ∙ shuffle (f from) (g from) (total (from + 1) count f) (total (from + 1) count g)

shuffle_less : (a b c d : ℤ) → a -ℤ b +ℤ (c -ℤ d) ≡ a +ℤ c -ℤ (b +ℤ d)
shuffle_less a b c d = omega (arith, ints)

pub total_less : (from count : ℕ) (f g : ℕ → ℤ)
    → total from count (λ i. f i -ℤ g i) ≡ total from count f -ℤ total from count g
total_less from zero f g = refl
total_less from (suc count) f g =
    ap (λ a. f from -ℤ g from +ℤ a) (total_less (from + 1) count f g)
    ∙ shuffle_less (f from) (g from) (total (from + 1) count f) (total (from + 1) count g)

pub total_none : (from count : ℕ) → total from count (λ i. pos 0) ≡ pos 0
total_none from zero = refl
total_none from (suc count) = ap (λ a. pos 0 +ℤ a) (total_none (from + 1) count)

-- one more at the end
pub total_last : (from count : ℕ) (f : ℕ → ℤ)
    → total from (suc count) f ≡ total from count f +ℤ f (from + count)
total_last from zero f =
    let same : from ≡ from + 0 = omega arith in
    let e : f from +ℤ pos 0 ≡ pos 0 +ℤ f from = omega (arith, ints) in
    e ∙ ap (λ i. pos 0 +ℤ f i) same
total_last from (suc count) f =
    let same : from + 1 + count ≡ from + suc count = omega arith in
    ap (λ a. f from +ℤ a) (total_last (from + 1) count f)
    ∙ sym (regroup (f from) (total (from + 1) count f) (f (from + 1 + count)))
    ∙ ap (λ i. f from +ℤ total (from + 1) count f +ℤ f i) same

-- the same numbers, counted from elsewhere
pub total_moved : (from by count : ℕ) (f g : ℕ → ℤ)
    → ((i : ℕ) → from ≤ i → i < from + count → f (i + by) ≡ g i)
    → total (from + by) count f ≡ total from count g
total_moved from by zero f g same = refl
total_moved from by (suc count) f g same =
    let next : from + by + 1 ≡ from + 1 + by = omega arith in
    let others : total (from + by + 1) count f ≡ total (from + 1) count g =
    ap (λ i. total i count f) next
    ∙ total_moved (from + 1) by count f g
    (λ i low high. same i (omega (arith, low)) (omega (arith, high))) in
    ap (λ a. a +ℤ total (from + by + 1) count f) (same from (omega arith) (omega arith))
    ∙ ap (λ a. g from +ℤ a) others

swap : (a b : ℤ) → a +ℤ b ≡ b +ℤ a
swap a b = omega (arith, ints)

-- numbers in a ring: each one's follower has its number, and the first one has the last one's
pub total_turned : (last : ℕ) (f g : ℕ → ℤ) → ((i : ℕ) → i < last → f (i + 1) ≡ g i)
    → f 0 ≡ g last → total 0 (suc last) f ≡ total 0 (suc last) g
total_turned last f g follows first =
    let others : total (0 + 1) last f ≡ total 0 last g =
    total_moved 0 1 last f g (λ i low high. follows i (omega (arith, high))) in
    let end : 0 + last ≡ last = omega arith in
    ap (λ a. a +ℤ total (0 + 1) last f) first ∙ ap (λ a. g last +ℤ a) others
    ∙ swap (g last) (total 0 last g) ∙ ap (λ i. total 0 last g +ℤ g i) (sym end)
    ∙ sym (total_last 0 last g)

-- two rows one after the other
pub total_both : (from one other : ℕ) (f : ℕ → ℤ)
    → total from (one + other) f ≡ total from one f +ℤ total (from + one) other f
total_both from zero other f =
    let none : 0 + other ≡ other = omega arith in
    let still : from ≡ from + 0 = omega arith in
    let e : total from other f ≡ pos 0 +ℤ total from other f = omega (arith, ints) in
    ap (λ n. total from n f) none ∙ e ∙ ap (λ i. pos 0 +ℤ total i other f) still
total_both from (suc one) other f =
    let more : suc one + other ≡ suc (one + other) = omega arith in
    let next : from + 1 + one ≡ from + suc one = omega arith in
    ap (λ n. total from n f) more
    ∙ ap (λ a. f from +ℤ a) (total_both (from + 1) one other f)
    ∙ sym (regroup (f from) (total (from + 1) one f) (total (from + 1 + one) other f))
    ∙ ap (λ i. f from +ℤ total (from + 1) one f +ℤ total i other f) next

-- rows of the same width, row by row
pub total_rows : (width rows : ℕ) (f : ℕ → ℤ)
    → total 0 (width * rows) f ≡ total 0 rows (λ j. total 0 width (λ i. f (i + width * j)))
total_rows width zero f =
    let none : width * 0 ≡ 0 = omega arith in
    ap (λ n. total 0 n f) none
total_rows width (suc rows) f =
    let more : width * suc rows ≡ width * rows + width = grind arith in
    let end : 0 + rows ≡ rows = omega arith in
    let row : total (0 + width * rows) width f ≡ total 0 width (λ i. f (i + width * rows)) =
    total_moved 0 (width * rows) width f (λ i. f (i + width * rows)) (λ i low high. refl) in
    ap (λ n. total 0 n f) more ∙ total_both 0 (width * rows) width f
    ∙ ap (λ a. a +ℤ total (0 + width * rows) width f) (total_rows width rows f)
    ∙ ap (λ a. total 0 rows (λ j. total 0 width (λ i. f (i + width * j))) +ℤ a) row
    ∙ ap (λ k. total 0 rows (λ j. total 0 width (λ i. f (i + width * j)))
    +ℤ total 0 width (λ i. f (i + width * k))) (sym end)
    ∙ sym (total_last 0 rows (λ j. total 0 width (λ i. f (i + width * j))))

-- a list's numbers
behind : (n : ℤ) (ns : List ℤ) (i : ℕ) → get_or (n ∷ ns) (i + 1) (pos 0) ≡ get_or ns i (pos 0)
behind n ns i =
    let next : i + 1 ≡ suc i = omega arith in
    ap (λ j. get_or (n ∷ ns) j (pos 0)) next

pub listed : (c : ℤ) (ns : List ℤ)
    → fold (λ a b. a +ℤ b) c ns ≡ c +ℤ total 0 (length ns) (λ i. get_or ns i (pos 0))
listed c [] = plus_zero c
listed c (n ∷ ns) =
    let others : total (0 + 1) (length ns) (λ i. get_or (n ∷ ns) i (pos 0))
    ≡ total 0 (length ns) (λ i. get_or ns i (pos 0)) =
    total_moved 0 1 (length ns) (λ i. get_or (n ∷ ns) i (pos 0)) (λ i. get_or ns i (pos 0))
    (λ i low high. behind n ns i) in
    listed (c +ℤ n) ns ∙ regroup c n (total 0 (length ns) (λ i. get_or ns i (pos 0)))
    ∙ ap (λ a. c +ℤ (n +ℤ a)) (sym others)

-- a reduction's sum is that of all places
pub reduced_listed : (ns : List ℤ) → reduced Sum ns ≡ total 0 (length ns) (λ i. get_or ns i (pos 0))
reduced_listed [] = refl
reduced_listed (n ∷ ns) =
    let others : total (0 + 1) (length ns) (λ i. get_or (n ∷ ns) i (pos 0))
    ≡ total 0 (length ns) (λ i. get_or ns i (pos 0)) =
    total_moved 0 1 (length ns) (λ i. get_or (n ∷ ns) i (pos 0)) (λ i. get_or ns i (pos 0))
    (λ i low high. behind n ns i) in
    listed n ns ∙ ap (λ a. n +ℤ a) (sym others)

pub reduced_mapped : (count : ℕ) (f : ℕ → ℤ)
    → reduced Sum (map f (range_with_len 0 count)) ≡ total 0 count f
reduced_mapped zero f = refl
reduced_mapped (suc count) f = folded (f 0) (0 + 1) count f
