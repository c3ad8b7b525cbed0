-- How long numbers and rows are in decimal.
use Rattle.std.proofs.Common.{◌≡◌, ◌∙◌, ℕ, ℤ, pos, negsuc, ◌+◌, ◌*◌, ◌/◌, ◌%◌, ◌^◌, ◌≤◌, ◌<◌, ◌≤ℤ◌, List, [], ◌∷◌, ◌++◌, zero, suc, length, take, drop, arith, sym, ap, refl, length-append, codes, take_all, length-drop, length-take-le}
use Rattle.std.specs.List.{range_with_len, flat_map}
use Rattle.std.specs.Fmt.{decimal, signed_decimal}
use Rattle.std.proofs.lemmas.Fmt.{decimal_digit, decimal_step}
use Rattle.std.specs.Int.{int_gap}
use Rattle.std.proofs.lemmas.Grind.{flat_map-append}
use Rattle.std.proofs.Math.Nat.{mul_assoc}
use Rattle.cx_grid.specs.declared.shapes.Shape.{Shape}
use Rattle.cx_grid.specs.Boxes.{extent, point_count}
use Rattle.cx_grid.specs.Grid.{IsShape, whole}
use Rattle.cx_ascii.specs.Output.{section, size_of, row_of, values_of, after_blank, row_in}
use Rattle.cx_ascii.proofs.MoreRows.{range_more}

some-power : (k : ℕ) → 1 ≤ 10 ^ k
some-power zero = omega arith
some-power (suc k) = let power : 10 ^ suc k ≡ 10 * 10 ^ k = omega arith in
    omega (arith, power, some-power k)

-- as many digits as the power of ten and one more
pub digits_by : (k n : ℕ) → 10 ^ k ≤ n → n < 10 * 10 ^ k → n < 2 ^ 64 → length (decimal n) ≡ k + 1
digits_by zero n low high small = ap length (decimal_digit n (omega arith))
digits_by (suc k) n low high small =
    let power : 10 ^ suc k ≡ 10 * 10 ^ k = omega arith in
    let ten : 10 ≤ n = omega (arith, power, some-power k) in
    let front : length (decimal (n / 10)) ≡ k + 1 =
    digits_by k (n / 10) (omega (arith, power)) (omega (arith, power)) (omega arith) in
    ap length (decimal_step n ten small) ∙ length-append (decimal (n / 10)) ((48 + n % 10) ∷ [])
    ∙ omega (arith, front)

pub digit_of_none : (n : ℕ) → n ≡ 0 → 1 ≡ length (decimal n)
digit_of_none n none = sym (ap length (decimal_digit n (omega arith)))

-- a row's values with blanks between and the end of the line are as long as the values with a blank
-- before each
row-length : (values : List ℤ) → 1 ≤ length values
    → length (values_of values ++ 10 ∷ []) ≡ length (flat_map after_blank values)
row-length [] some = absurd (omega arith)
row-length (value ∷ values) some =
    length-append (signed_decimal value ++ flat_map after_blank values) (10 ∷ [])
    ∙ omega (arith, length-append (signed_decimal value) (flat_map after_blank values))

take-next : (w n : ℕ) (l : List ℤ) → take (n + w) l ≡ take n l ++ take w (drop n l)
take-next w zero l = let none : 0 + w ≡ w = omega arith in rw none refl
take-next w (suc n) [] = take_all (suc n + w) [] (omega arith) ∙ sym (take_all w [] (omega arith))
take-next w (suc n) (x ∷ l) = let one : suc n + w ≡ suc (n + w) = omega arith in
    rw one (ap (λ m. x ∷ m) (take-next w n l))

-- rows are as long as their values
pub rows-length : (width : ℕ) (level : List ℤ) (count : ℕ) → 1 ≤ width
    → width * count ≤ length level
    → length (flat_map (row_in width level) (range_with_len 0 count))
    ≡ length (flat_map after_blank (take (width * count) level))
rows-length width level zero some within = let none : width * 0 ≡ 0 = omega arith in rw none refl
rows-length width level (suc count) some within =
    let next : width * suc count ≡ width * count + width = omega arith in
    let front = flat_map (row_in width level) (range_with_len 0 count) in
    let row = take width (drop (width * count) level) in
    let before : length front ≡ length (flat_map after_blank (take (width * count) level)) =
    rows-length width level count some (omega (arith, next)) in
    let many : length row ≡ width =
    length-take-le width (drop (width * count) level)
    (omega (arith, next, length-drop (width * count) level)) in
    let here : length (values_of row ++ 10 ∷ []) ≡ length (flat_map after_blank row) =
    row-length row (omega (arith, many)) in
    let f = row_in width level in
    let left : length (flat_map f (range_with_len 0 (suc count)))
    ≡ length front + length ((values_of row ++ 10 ∷ []) ++ []) =
    ap (λ ks. length (flat_map f ks)) (range_more 0 count count (omega arith))
    ∙ ap length (flat_map-append f (range_with_len 0 count) (count ∷ []))
    ∙ length-append front ((values_of row ++ 10 ∷ []) ++ []) in
    let right : length (flat_map after_blank (take (width * suc count) level))
    ≡ length (flat_map after_blank (take (width * count) level))
    + length (flat_map after_blank row) =
    ap (λ n. length (flat_map after_blank (take n level))) next
    ∙ ap (λ l. length (flat_map after_blank l)) (take-next width (width * count) level)
    ∙ ap length (flat_map-append after_blank (take (width * count) level) row)
    ∙ length-append (flat_map after_blank (take (width * count) level))
    (flat_map after_blank row) in
    omega (arith, left, right, before, here, length-append (values_of row ++ 10 ∷ []) [])

-- ---- a section

some-gap : (z : ℤ) → pos 1 ≤ℤ z → 1 ≤ int_gap (pos 0) z
some-gap (pos n) some = grind arith
some-gap (negsuc n) some = absurd (grind arith)

parts : (h z s r : List ℕ)
    → length (h ++ z ++ s ++ 10 ∷ [] ++ r ++ 10 ∷ [])
    ≡ length h + length z + length s + length r + 2
parts h z s r =
    length-append (h ++ z ++ s ++ 10 ∷ [] ++ r) (10 ∷ [])
    ∙ omega (
      arith,
      length-append (h ++ z ++ s ++ 10 ∷ []) r,
      length-append (h ++ z ++ s) (10 ∷ []),
      length-append (h ++ z) s,
      length-append h z,
    )

level-length : (s : Shape) (level : List ℤ) → IsShape s → length level ≡ point_count (whole s)
    → length (flat_map (row_of s level)
    (range_with_len 0 (extent (whole s) 1 * extent (whole s) 2)))
    ≡ length (flat_map after_blank level)
level-length s level is all =
    let width = extent (whole s) 0 in
    let count = extent (whole s) 1 * extent (whole s) 2 in
    let many : width * count ≡ length level =
    sym (mul_assoc width (extent (whole s) 1) (extent (whole s) 2)) ∙ sym all in
    rows-length width level count (some-gap s.n.x is.x.some) (omega (arith, many))
    ∙ ap (λ l. length (flat_map after_blank l))
    (take_all (width * count) level (omega (arith, many)))

pub section_by : (name : List ℕ) (iteration : ℕ) (s : Shape) (level : List ℤ)
    (head sizes values : ℕ) → IsShape s → length level ≡ point_count (whole s)
    → head ≡ length (codes "# " ++ name ++ codes " iteration " ++ decimal iteration)
    → sizes ≡ length (flat_map (size_of s) (range_with_len 0 s.dims))
    → values ≡ length (flat_map after_blank level)
    → head + sizes + values + 7 ≡ length (section name iteration s level)
section_by name iteration s level head sizes values is all of_head of_sizes of_values =
    let h = codes "# " ++ name ++ codes " iteration " ++ decimal iteration in
    let z = flat_map (size_of s) (range_with_len 0 s.dims) in
    let r = flat_map (row_of s level) (range_with_len 0 (extent (whole s) 1 * extent (whole s) 2))
    in
    let rows : length r ≡ values = level-length s level is all ∙ sym of_values in
    omega (arith, of_head, of_sizes, rows) ∙ sym (parts h (codes " size") z r)
