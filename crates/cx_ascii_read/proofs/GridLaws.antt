-- The sizes and the values of a section that are read are those that were written, and what was
-- written is read again.
use Rattle.std.proofs.Common.{◌≡◌, ℕ, ℤ, suc, ◌*◌, ◌≤◌, List, [], ◌∷◌, ◌++◌, length, get_or, drop, codes, Some, refl, sym, ap, subst, ◌∙◌, append_assoc, arith}
use Rattle.std.specs.Fmt.{decimal}
use Rattle.std.specs.List.{flat_map, range_with_len, AllByRecursion}
use Rattle.std.specs.Int.{w64}
use Rattle.std.specs.Int.RustNames.{FitsSigned}
use Rattle.std.proofs.Math.Nat.{mul_assoc}
use Rattle.std.proofs.lemmas.List.{append-nil}
use Rattle.cx_grid.specs.Boxes.{extent, point_count}
use Rattle.cx_grid.specs.Grid.{whole}
use Rattle.cx_ascii.specs.Output.{row_in, row_of, sizes_text}
use Rattle.cx_ascii_read.specs.Records.{shape_of, IsSize}
use Rattle.cx_ascii_read.specs.Reading.{skip, sizes_at, rows_at, more_in_row, row_count, level_at, grid_at}
use Rattle.cx_ascii_read.proofs.WordLaws.{bind_some, some_is, skip_takes}
use Rattle.cx_ascii_read.proofs.RowLaws.{rows_text, rows-are, rows_take, rows_again, sizes_line, sizes_take, sizes_again}

-- the sizes of a section
sizes-one : (a : List ℕ) → (a ++ []) ++ 10 ∷ [] ≡ a ++ 10 ∷ []
sizes-one a = ap (λ (t : List ℕ). t ++ 10 ∷ []) (append-nil a)

sizes-two : (a b m n : List ℕ) → (a ++ (m ++ (b ++ []))) ++ n ≡ (a ++ m) ++ (b ++ n)
sizes-two a b m n = ap (λ (t : List ℕ). (a ++ (m ++ t)) ++ n) (append-nil b) ∙ simp append_assoc

sizes-three : (a b c m n : List ℕ)
    → (a ++ (m ++ (b ++ (m ++ (c ++ []))))) ++ n ≡ (a ++ m) ++ ((b ++ m) ++ (c ++ n))
sizes-three a b c m n = ap (λ (t : List ℕ). (a ++ (m ++ (b ++ (m ++ t)))) ++ n) (append-nil c)
    ∙ simp append_assoc

pub sizes-text : (n : ℕ) (ns : List ℕ) → length (n ∷ ns) ≤ 3
    → codes " size" ++ sizes_text (shape_of (n ∷ ns)) ++ 10 ∷ []
    ≡ codes " size " ++ sizes_line (n ∷ ns)
sizes-text n [] few = ap (λ (t : List ℕ). codes " size " ++ t) (sizes-one (decimal n))
sizes-text n (m ∷ []) few =
    ap (λ (t : List ℕ). codes " size " ++ t) (sizes-two (decimal n) (decimal m) (32 ∷ []) (10 ∷ []))
sizes-text n (m ∷ k ∷ []) few =
    ap (λ (t : List ℕ). codes " size " ++ t)
    (sizes-three (decimal n) (decimal m) (decimal k) (32 ∷ []) (10 ∷ []))
sizes-text n (m ∷ k ∷ j ∷ ns) few = absurd (omega (arith, few))

-- the rows of a section
abbrev pub level_text : List ℕ → List ℤ → List ℕ
level_text size level = rows_text (get_or size 0 1) (row_count size) level

pub level-text : (size : List ℕ) (level : List ℤ)
    → flat_map (row_of (shape_of size) level)
    (range_with_len 0 (extent (whole (shape_of size)) 1 * extent (whole (shape_of size)) 2))
    ≡ level_text size level
level-text size level =
    let x : extent (whole (shape_of size)) 0 ≡ get_or size 0 1 = omega arith in
    let y : extent (whole (shape_of size)) 1 ≡ get_or size 1 1 = omega arith in
    let z : extent (whole (shape_of size)) 2 ≡ get_or size 2 1 = omega arith in
    let none : get_or size 0 1 * 0 ≡ 0 = omega arith in
    ap (λ (w : ℕ). flat_map (row_in w level)
    (range_with_len 0 (extent (whole (shape_of size)) 1 * extent (whole (shape_of size)) 2))) x
    ∙ ap (λ (n : ℕ). flat_map (row_in (get_or size 0 1) level)
    (range_with_len 0 (n * extent (whole (shape_of size)) 2))) y
    ∙ ap (λ (n : ℕ). flat_map (row_in (get_or size 0 1) level)
    (range_with_len 0 (get_or size 1 1 * n))) z
    ∙ rows-are (get_or size 0 1) level (row_count size) 0
    ∙ ap (λ (n : ℕ). rows_text (get_or size 0 1) (row_count size) (drop n level)) none

-- as many values as the sizes say
count-is : (size : List ℕ) → point_count (whole (shape_of size)) ≡ get_or size 0 1 * row_count size
count-is size =
    let x : extent (whole (shape_of size)) 0 ≡ get_or size 0 1 = omega arith in
    let y : extent (whole (shape_of size)) 1 ≡ get_or size 1 1 = omega arith in
    let z : extent (whole (shape_of size)) 2 ≡ get_or size 2 1 = omega arith in
    ap (λ (n : ℕ). n * extent (whole (shape_of size)) 1 * extent (whole (shape_of size)) 2) x
    ∙ ap (λ (n : ℕ). get_or size 0 1 * n * extent (whole (shape_of size)) 2) y
    ∙ ap (λ (n : ℕ). get_or size 0 1 * get_or size 1 1 * n) z
    ∙ mul_assoc (get_or size 0 1) (get_or size 1 1) (get_or size 2 1)

-- one to three sizes, and as many values as they say
pub record IsGrid (size : List ℕ) (level : List ℤ) : Type 0 where
  pub some : 1 ≤ length size
  pub directions : length size ≤ 3
  pub sizes : AllByRecursion IsSize size
  pub count : length level ≡ point_count (whole (shape_of size))
  pub values : AllByRecursion (FitsSigned w64) level

abbrev pub grid_text : List ℕ → List ℤ → List ℕ → List ℕ
grid_text size level rest = sizes_line size ++ (level_text size level ++ 10 ∷ rest)

some-of-size : (n : ℕ) (ns : List ℕ) → IsSize n → suc (more_in_row (n ∷ ns)) ≡ n
some-of-size n ns fits = omega (arith, fits.0)

pub grid_again : (size : List ℕ) (level : List ℤ) (rest : List ℕ) → IsGrid size level
    → grid_at (grid_text size level rest) ≡ Some ((size, level), rest)
unfolding grid_at
grid_again [] level rest is = absurd (omega (arith, is.some))
grid_again (n ∷ ns) level rest is =
    let more = more_in_row (n ∷ ns) in
    let one : suc more ≡ n = some-of-size n ns is.sizes.0 in
    let count : length level ≡ n * row_count (n ∷ ns) = is.count ∙ count-is (n ∷ ns) in
    let rows : rows_at more (row_count (n ∷ ns))
    (rows_text n (row_count (n ∷ ns)) level ++ 10 ∷ rest) ≡ Some (level, 10 ∷ rest) =
    ap (λ (w : ℕ). rows_at more (row_count (n ∷ ns))
    (rows_text w (row_count (n ∷ ns)) level ++ 10 ∷ rest)) (sym one)
    ∙ rows_again more (row_count (n ∷ ns)) level (10 ∷ rest)
    (count ∙ ap (λ (w : ℕ). w * row_count (n ∷ ns)) (sym one)) is.values in
    rw (
      sizes_again 3 (n ∷ ns) (level_text (n ∷ ns) level ++ 10 ∷ rest) (omega arith)
          is.directions is.sizes,
      rows,
    ) refl

abbrev pub IsGridRead : List ℕ → (List ℕ × List ℤ) × List ℕ → Type 0
IsGridRead bytes x = (bytes ≡ grid_text x.0.0 x.0.1 x.1) × IsGrid x.0.0 x.0.1

by_sizes : (size : List ℕ) (level : List ℤ) (bytes rest : List ℕ) → 1 ≤ length size
    → length size ≤ 3 → AllByRecursion IsSize size
    → bytes ≡ sizes_line size
    ++ (rows_text (suc (more_in_row size)) (row_count size) level ++ 10 ∷ rest)
    → length level ≡ suc (more_in_row size) * row_count size
    → AllByRecursion (FitsSigned w64) level
    → IsGridRead bytes ((size, level), rest)
by_sizes [] level bytes rest some few sizes spelled count fits = absurd (omega arith)
by_sizes (n ∷ ns) level bytes rest some few sizes spelled count fits =
    let one : suc (more_in_row (n ∷ ns)) ≡ n = some-of-size n ns sizes.0 in (
      spelled ∙ ap (λ (w : ℕ). sizes_line (n ∷ ns)
          ++ (rows_text w (row_count (n ∷ ns)) level ++ 10 ∷ rest)) one,
      record {
        some = some;
        directions = few;
        sizes = sizes;
        count = count ∙ ap (λ (w : ℕ). w * row_count (n ∷ ns)) one ∙ sym (count-is (n ∷ ns));
        values = fits;
      },
    )

pub grid_takes : (bytes : List ℕ) (x : (List ℕ × List ℤ) × List ℕ) → grid_at bytes ≡ Some x
    → IsGridRead bytes x
unfolding grid_at
grid_takes bytes x h =
    let a = bind_some (sizes_at 3 bytes) _ x h in
    let b = bind_some (level_at a.0.0 a.0.1) _ x a.2 in
    let d = bind_some (skip 10 b.0.1) _ x b.2 in
    let t = sizes_take 3 bytes a.0 a.1 in
    let u = rows_take (more_in_row a.0.0) (row_count a.0.0) a.0.1 b.0 b.1 in
    subst (IsGridRead bytes) (some_is _ x d.2)
    (by_sizes a.0.0 b.0.0 bytes d.0 t.some t.most_sizes t.fits
    (t.spelled ∙ ap (λ (r : List ℕ). sizes_line a.0.0 ++ r)
    (u.0 ∙ ap (λ (r : List ℕ). rows_text (suc (more_in_row a.0.0)) (row_count a.0.0) b.0.0 ++ r)
    (skip_takes 10 b.0.1 d.0 d.1))) u.1 u.2)
