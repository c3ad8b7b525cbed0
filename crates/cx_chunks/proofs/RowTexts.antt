-- The text of the rows of a part's box, one row after another.
use Rattle.std.proofs.Common.{◌≡◌, ℕ, zero, suc, add-one, ◌+◌, ◌*◌, ◌/◌, ◌<◌, ◌≤◌, arith, sym, ap, ◌∙◌, ℤ, pos, List, [], ◌∷◌, ◌++◌, append_assoc, length, get_or, take, drop}
use Rattle.std.specs.Prelude.{codes, slice_index_or}
use Rattle.std.specs.List.{flat_map, range_with_len}
use Rattle.std.proofs.lemmas.Nat.{div-add-mod', div-mul-add}
use Rattle.std.proofs.lemmas.List.{append-nil, flat_map_more, get_or-take, get_or-drop, length-drop, length-take-le, take_all}
use Rattle.std.proofs.lemmas.List.FromFn.{fill_by_all, get_or-map-range_with_len}
use Rattle.cx_grid.specs.declared.boxes.Point.{Point}
use Rattle.cx_grid.specs.declared.boxes.Box3.{Box3}
use Rattle.cx_grid.specs.Boxes.{IsIn, extent, point_count, index_in, point_in, numbers_in}
use Rattle.cx_grid.specs.Grid.{whole}
use Rattle.cx_grid.proofs.Places.{point_inside}
use Rattle.cx_cut.specs.Cuts.{Parts, IsWhole, part_count, owned}
use Rattle.cx_ascii.specs.Output.{values_of, row_in, rows_in, rows_text, head_text}
use Rattle.cx_ascii_read.specs.Records.{shape_of}
use Rattle.cx_chunks.specs.Rows.{values_from}
use Rattle.cx_ascii_read.specs.declared.record.Record.{Record}
use Rattle.cx_chunks.specs.declared.own_box.OwnBox.{OwnBox}
use Rattle.cx_chunks.specs.Pieces.{numbers_text, place_text, piece_text}
use Rattle.cx_chunks.specs.Cutting.{size_of, own_of, own_values, section_in}
use Rattle.cx_chunks.proofs.JoinLaws.{numbers_count}
use Rattle.cx_chunks.proofs.ReadLaws.{sizes_are}
use Rattle.cx_chunks.proofs.ReadLaws as read
use Rattle.cx_chunks.proofs.RowPlaces.{IsStart, row_is, row_place, values_count}

-- ---- rows by their numbers

range_more : (a n j : ℕ) → a + n ≡ j → range_with_len a (suc n) ≡ range_with_len a n ++ j ∷ []
range_more a zero j e = let same : a ≡ j = omega arith in ap (λ (m : ℕ). m ∷ []) same
range_more a (suc n) j e = ap (λ (ms : List ℕ). a ∷ ms) (range_more (a + 1) n j (omega arith))

next_row : (f : ℕ → List ℕ) (start : List ℕ) (k : ℕ)
    → (start ++ flat_map f (range_with_len 0 k)) ++ f k
    ≡ start ++ flat_map f (range_with_len 0 (suc k))
next_row f start k =
    flat_map_more f start (range_with_len 0 k) k
    ∙ ap (λ ks. start ++ flat_map f ks) (sym (range_more 0 k k (omega arith)))

range_next : (k : ℕ) → range_with_len 0 (k + 1) ≡ range_with_len 0 k ++ k ∷ []
range_next k = rw add-one (range_more 0 k k (omega arith))

-- one size more of a section's head
pub grown : (f : ℕ → List ℕ) (start old new : List ℕ) (k : ℕ)
    → old ≡ start ++ flat_map f (range_with_len 0 k) → new ≡ old ++ f k
    → new ≡ start ++ flat_map f (range_with_len 0 (k + 1))
grown f start old new k before now =
    now ∙ ap (λ (t : List ℕ). t ++ f k) before ∙ flat_map_more f start (range_with_len 0 k) k
    ∙ ap (λ ks. start ++ flat_map f ks) (sym (range_next k))

-- one row alone
one_row : (w : ℕ) (row : List ℤ) → length row ≡ w → rows_in w row 1 ≡ values_of row ++ 10 ∷ []
one_row w row count =
    let none : w * 0 ≡ 0 = omega arith in
    append-nil (row_in w row 0)
    ∙ ap (λ n. values_of (take w (drop n row)) ++ 10 ∷ []) none
    ∙ ap (λ (l : List ℤ). values_of l ++ 10 ∷ []) (take_all w row (omega (arith, count)))

-- ---- a row of a part's own values is a run of the grid's

module _ (all own : Box3) (level : List ℤ) (inside : (p : Point) → IsIn own p → IsIn all p) (i : ℕ)
    (start : IsStart own i) (below : i < point_count own) where
  abbrev w : ℕ
  w = extent own 0

  abbrev at : ℕ
  at = index_in all (point_in own i)

  abbrev own_level : List ℤ
  own_level = numbers_in own (λ p. slice_index_or level (index_in all p) (pos 0))

  within : i + w ≤ point_count own
  within = (row_is own i start below).next.within

  value : (j : ℕ) → j < w
      → slice_index_or (take w (drop i own_level)) j (pos 0) ≡ slice_index_or level (at + j) (pos 0)
  value j l =
      let e = within in
      get_or-take w (drop i own_level) j (pos 0) l ∙ get_or-drop i own_level j (pos 0)
      ∙ get_or-map-range_with_len (λ n. slice_index_or level (index_in all (point_in own n)) (pos 0))
      0 (point_count own) (i + j) (i + j) (pos 0) (omega (arith, e, l)) (omega arith)
      ∙ ap (λ n. slice_index_or level n (pos 0))
      (row_place all own i j start.first l (inside (point_in own i) (point_inside own i below)))

  pub row_there : take w (drop i own_level) ≡ values_from level at w
  row_there =
      let e = within in
      let n = numbers_count own (λ p. slice_index_or level (index_in all p) (pos 0)) in
      let d = length-drop i own_level in
      fill_by_all (λ j. slice_index_or level (at + j) (pos 0)) (take w (drop i own_level)) w (pos 0)
      (length-take-le w (drop i own_level) (omega (arith, e, n, d))) value

  -- the text of the row after those before it
  pub row_added : (before text new : List ℕ) (row : List ℤ) (width spot : ℕ) → width ≡ w
      → spot ≡ at
      → row ≡ values_from level spot width
      → text ≡ before ++ rows_in w own_level (i / w)
      → new ≡ text ++ rows_in width row 1
      → new ≡ before ++ rows_in w own_level ((i + width) / w)
  row_added before text new row width spot is place row_is_run old now =
      let some = (row_is own i start below).some in
      let whole = div-add-mod' i w in
      let first = start.first in
      let e : i + width ≡ suc (i / w) * w + 0 = grind (arith, whole, first, is) in
      let next : (i + width) / w ≡ suc (i / w) =
      ap (λ n. n / w) e ∙ div-mul-add (suc (i / w)) w 0 some in
      let spot_is : w * (i / w) ≡ i = grind (arith, whole, first) in
      let run : row ≡ values_from level at w =
      row_is_run ∙ ap (λ n. values_from level n width) place ∙ ap (values_from level at) is in
      let count : length row ≡ w = ap length run ∙ values_count level at w in
      let line : rows_in width row 1 ≡ row_in w own_level (i / w) =
      ap (λ n. rows_in n row 1) is ∙ one_row w row count
      ∙ ap (λ (l : List ℤ). values_of l ++ 10 ∷ [])
      (run ∙ sym row_there ∙ ap (λ n. take w (drop n own_level)) (sym spot_is)) in
      now ∙ ap (λ (t : List ℕ). text ++ t) line
      ∙ ap (λ (t : List ℕ). t ++ row_in w own_level (i / w)) old
      ∙ next_row (row_in w own_level) before (i / w)
      ∙ ap (λ n. before ++ rows_in w own_level n) (sym next)

-- ---- all rows

rows_by : (size : List ℕ) (own : Box3) (level : List ℤ)
    → ((d : ℕ) → d < 3 → get_or size d 1 ≡ extent own d)
    → rows_text (shape_of size) level ≡ rows_in (extent own 0) level (extent own 1 * extent own 2)
rows_by size own level same =
    let x : extent (whole (shape_of size)) 0 ≡ get_or size 0 1 = omega arith in
    let y : extent (whole (shape_of size)) 1 ≡ get_or size 1 1 = omega arith in
    let z : extent (whole (shape_of size)) 2 ≡ get_or size 2 1 = omega arith in
    ap (λ n. rows_in n level (extent (whole (shape_of size)) 1 * extent (whole (shape_of size)) 2))
    (x ∙ same 0 (omega arith))
    ∙ ap (λ n. rows_in (extent own 0) level (n * extent (whole (shape_of size)) 2))
    (y ∙ same 1 (omega arith))
    ∙ ap (λ n. rows_in (extent own 0) level (extent own 1 * n)) (z ∙ same 2 (omega arith))

all_of : (a b c : ℕ) → 0 < a → a * b * c / a ≡ b * c
all_of a b c some =
    let e : a * b * c ≡ b * c * a + 0 = grind arith in
    ap (λ n. n / a) e ∙ div-mul-add (b * c) a 0 some

pub rows_are : (c : Parts) (is : IsWhole c) (k : ℕ) → k < part_count c → (level : List ℤ)
    (before text : List ℕ) (i : ℕ) → IsStart (owned c k) i → point_count (owned c k) ≤ i
    → text ≡ before ++ rows_in (extent (owned c k) 0) level (i / extent (owned c k) 0)
    → text ≡ before ++ rows_text (shape_of (size_of c.shape.dims (owned c k))) level
rows_are c is k there level before text i start end old =
    let own = owned c k in
    let some = (read.extent_size c is k there 0 (omega arith)).0 in
    let within = start.within in
    let last : i ≡ point_count own = omega (arith, within, end) in
    old ∙ ap (λ n. before ++ rows_in (extent own 0) level (n / extent own 0)) last
    ∙ ap (λ n. before ++ rows_in (extent own 0) level n)
    (all_of (extent own 0) (extent own 1) (extent own 2) some)
    ∙ ap (λ (t : List ℕ). before ++ t)
    (sym (rows_by (size_of c.shape.dims own) own level
    (sizes_are c.shape.dims own (read.flat c is k there))))

-- ---- a section: what comes before its rows, the rows, and an empty line

abbrev head_of : Record → OwnBox → List ℕ
head_of r own =
    head_text r.full r.iteration ++ place_text own.place.part own.place.parts own.place.from
    ++ codes " size" ++ numbers_text own.size ++ 10 ∷ []

pub section_grown : (c : Parts) (k : ℕ) (r : Record) (own : OwnBox) (old head rows new : List ℕ)
    → own ≡ own_of c k → head ≡ old ++ head_of r own
    → rows ≡ head ++ rows_text (shape_of (own_of c k).size) (own_values c k r.values)
    → new ≡ rows ++ 10 ∷ [] → new ≡ old ++ piece_text (section_in c k r)
section_grown c k r own old head rows new own_is head_is rows_is now =
    let o = own_of c k in
    let lines = rows_text (shape_of o.size) (own_values c k r.values) in
    now ∙ ap (λ (t : List ℕ). t ++ 10 ∷ []) rows_is
    ∙ ap (λ (t : List ℕ). (t ++ lines) ++ 10 ∷ [])
    (head_is ∙ ap (λ (b : OwnBox). old ++ head_of r b) own_is)
    ∙ ap (λ (t : List ℕ). t ++ 10 ∷ []) (append_assoc old (head_of r o) lines)
    ∙ append_assoc old (head_of r o ++ lines) (10 ∷ [])
