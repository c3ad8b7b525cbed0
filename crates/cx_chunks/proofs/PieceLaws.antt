-- A piece that is read is the one that was written, and what was written is read again.
use Rattle.std.proofs.Common.{◌≡◌, ℕ, ℤ, zero, suc, ◌-◌, ◌*◌, ◌^◌, ◌≤◌, ◌<◌, true, eqb, leb, IsTrue, List, [], ◌∷◌, ◌++◌, length, codes, Option, Some, None, refl, sym, ap, subst, ◌∙◌, append_assoc, arith}
use Rattle.std.specs.Fmt.{decimal, signed_decimal}
use Rattle.std.specs.List.{flat_map, range_with_len, list_all, AllByRecursion}
use Rattle.std.specs.Char.{is_ascii_digit}
use Rattle.std.specs.Int.{w64}
use Rattle.std.specs.Int.RustNames.{FitsSigned}
use Rattle.std.proofs.lemmas.Bool.{and_parts, leb-true, ne_eqb, eqb-true, eq-eqb}
use Rattle.std.proofs.lemmas.List.{append-nil}
use Rattle.std.proofs.lemmas.List.Concat.{flat_map-cons}
use Rattle.cx_grid.specs.Boxes.{extent}
use Rattle.cx_grid.specs.Grid.{whole}
use Rattle.cx_ascii.specs.Output.{row_of}
use Rattle.cx_ascii_read.specs.declared.record.Record.{Record}
use Rattle.cx_ascii_read.specs.Spelling.{IsField}
use Rattle.cx_ascii_read.specs.Records.{shape_of, is_name, IsRecord, text_of}
use Rattle.cx_ascii_read.specs.Reading.{◌>>=◌, skip_text, head_at, line_at, grid_at, value_at as number_at_end}
use Rattle.cx_ascii_read.proofs.WordLaws.{bind_some, goes_where, some_is, text_takes}
use Rattle.cx_ascii_read.proofs.NumberLaws.{decimal_digits}
use Rattle.cx_ascii_read.proofs.RowLaws.{sizes_line}
use Rattle.cx_ascii_read.proofs.HeadLaws.{number_field, front_text, front-cut, head_again, head_takes}
use Rattle.cx_ascii_read.proofs.GridLaws.{level-text, grid_text, grid_again, grid_takes}
use Rattle.cx_ascii_read.proofs.RecordLaws.{line-text, line_again, line_takes}
use Rattle.cx_chunks.specs.declared.piece.Piece.{Piece}
use Rattle.cx_chunks.specs.declared.piece.Piece.TheVariants.{Line, Box}
use Rattle.cx_chunks.specs.declared.place.Place.{Place}
use Rattle.cx_chunks.specs.Pieces.{numbers_text, part_section, piece_text, IsWord, IsPartSection, IsPiece}
use Rattle.cx_chunks.specs.Reading.{word_at, or_more, from_at, place_at, section_at, value_at, body_at, piece_at}

word_field : IsField (λ n. decimal n ++ 32 ∷ []) word_at (λ n. n ≤ 2 ^ 32 - 1)
word_field = number_field (2 ^ 32 - 1) (omega arith)

-- ---- coordinates

-- coordinates, a blank after each, and the word `size`
abbrev from_line : List ℕ → List ℕ → List ℕ
from_line [] rest = codes "size " ++ rest
from_line (n ∷ ns) rest = (decimal n ++ 32 ∷ []) ++ from_line ns rest

-- digits aren't the word `size`
digits_no_size : (ds rest : List ℕ) → 0 < length ds → list_all is_ascii_digit ds ≡ true
    → skip_text (codes "size ") (ds ++ rest) ≡ None
digits_no_size [] rest some all = absurd (omega arith)
digits_no_size (d ∷ ds) rest some all =
    let k = and_parts (is_ascii_digit d) (list_all is_ascii_digit ds) all in
    let m = and_parts (leb 48 d) (leb d 57) k.0 in
    let most = leb-true d 57 m.1 in
    rw (ne_eqb 115 d (λ e. absurd (omega (arith, most, e)))) refl

no_size : (n : ℕ) (rest : List ℕ) → n < 2 ^ 64
    → skip_text (codes "size ") ((decimal n ++ 32 ∷ []) ++ rest) ≡ None
no_size n rest small =
    let d = decimal_digits n small in
    ap (skip_text (codes "size ")) (append_assoc (decimal n) (32 ∷ []) rest)
    ∙ digits_no_size (decimal n) (32 ∷ [] ++ rest) d.0 d.1

from_again : (more : ℕ) (ns front rest : List ℕ) → length ns ≤ more → AllByRecursion IsWord ns
    → from_at more front (from_line ns rest) ≡ Some (front ++ ns, rest)
unfolding from_at
from_again zero [] front rest few fits =
    ap (λ (f : List ℕ). Some (f, rest)) (sym (append-nil front))
from_again (suc more) [] front rest few fits =
    ap (λ (f : List ℕ). Some (f, rest)) (sym (append-nil front))
from_again zero (n ∷ ns) front rest few fits = absurd (omega arith)
from_again (suc more) (n ∷ ns) front rest few fits =
    let small = fits.0 in
    rw (
      no_size n (from_line ns rest) (omega (arith, small)),
      word_field.again n (from_line ns rest) (omega (arith, small)),
    )
    (from_again more ns (front ++ n ∷ []) rest (omega (arith, few)) fits.1
    ∙ ap (λ (f : List ℕ). Some (f, rest)) (append_assoc front (n ∷ []) ns))

-- one coordinate more
pub from_step : (more : ℕ) (front bytes after : List ℕ) (n : ℕ)
    → skip_text (codes "size ") bytes ≡ None → 0 < more → word_at bytes ≡ Some (n, after)
    → from_at more front bytes ≡ from_at (more - 1) (front ++ n ∷ []) after
unfolding from_at
from_step zero front bytes after n none some read = absurd (omega arith)
from_step (suc more) front bytes after n none some read =
    let one : suc more - 1 ≡ more = omega arith in rw (one, none, read) refl

record IsFromRead (front bytes : List ℕ) (x : List ℕ × List ℕ) : Type 0 where
  pub ns : List ℕ
  pub all : x.0 ≡ front ++ ns
  pub spelled : bytes ≡ from_line ns x.1
  pub fits : AllByRecursion IsWord ns

no_more : (front bytes rest : List ℕ) (x : List ℕ × List ℕ)
    → skip_text (codes "size ") bytes ≡ Some rest → Some (front, rest) ≡ Some x
    → IsFromRead front bytes x
no_more front bytes rest x is e =
    subst (IsFromRead front bytes) (some_is (front, rest) x e)
    (record {
      ns = [];
      all = sym (append-nil front);
      spelled = text_takes (codes "size ") bytes rest is;
      fits = tt;
    })

from_takes_none : (front bytes : List ℕ) (x : List ℕ × List ℕ) (o : Option (List ℕ))
    → skip_text (codes "size ") bytes ≡ o → or_more front o None ≡ Some x → IsFromRead front bytes x
from_takes_none front bytes x (Some rest) is e = no_more front bytes rest x is e
from_takes_none front bytes x None is e = absurd cc

from_takes_more : (more : ℕ) (front bytes : List ℕ) (x : List ℕ × List ℕ) (o : Option (List ℕ))
    → ((rest : List ℕ) (n : ℕ) → from_at more (front ++ n ∷ []) rest ≡ Some x
    → IsFromRead (front ++ n ∷ []) rest x)
    → skip_text (codes "size ") bytes ≡ o
    → or_more front o (word_at bytes >>= λ n. from_at more (front ++ n.0 ∷ []) n.1) ≡ Some x
    → IsFromRead front bytes x
from_takes_more more front bytes x (Some rest) others is e = no_more front bytes rest x is e
from_takes_more more front bytes x None others is e =
    let a = bind_some (word_at bytes) _ x e in
    let t = word_field.takes bytes a.0 a.1 in
    let m = others a.0.1 a.0.0 a.2 in
    let most = t.1 in
    record {
      ns = a.0.0 ∷ m.ns;
      all = m.all ∙ append_assoc front (a.0.0 ∷ []) m.ns;
      spelled = t.0 ∙ ap (λ (r : List ℕ). (decimal a.0.0 ++ 32 ∷ []) ++ r) m.spelled;
      fits = (omega (arith, most), m.fits);
    }

from_takes : (more : ℕ) (front bytes : List ℕ) (x : List ℕ × List ℕ)
    → from_at more front bytes ≡ Some x → IsFromRead front bytes x
unfolding from_at
from_takes zero front bytes x h =
    from_takes_none front bytes x (skip_text (codes "size ") bytes) refl h
from_takes (suc more) front bytes x h =
    from_takes_more more front bytes x (skip_text (codes "size ") bytes)
    (λ rest n e. from_takes more (front ++ n ∷ []) rest x e) refl h

-- ---- a part's section, cut where it is read

abbrev place_line : ℕ → ℕ → List ℕ → List ℕ → List ℕ
place_line part parts from rest =
    (decimal part ++ 32 ∷ [])
    ++ (codes "of " ++ ((decimal parts ++ 32 ∷ []) ++ (codes "from " ++ from_line from rest)))

from-shift : (ns rest : List ℕ)
    → numbers_text ns ++ (codes " size " ++ rest) ≡ 32 ∷ from_line ns rest
from-shift [] rest = refl
from-shift (n ∷ ns) rest =
    ap (λ (t : List ℕ). t ++ (codes " size " ++ rest))
    (flat_map-cons (λ (m : ℕ). 32 ∷ decimal m) n ns)
    ∙ append_assoc (32 ∷ decimal n) (numbers_text ns) (codes " size " ++ rest)
    ∙ ap (λ (t : List ℕ). (32 ∷ decimal n) ++ t) (from-shift ns rest)
    ∙ ap (λ (t : List ℕ). 32 ∷ t) (sym (append_assoc (decimal n) (32 ∷ []) (from_line ns rest)))

-- sizes, a blank before each, and the end of the line
size-line : (n : ℕ) (ns : List ℕ) → numbers_text (n ∷ ns) ++ 10 ∷ [] ≡ 32 ∷ sizes_line (n ∷ ns)
size-line n [] = ap (λ (t : List ℕ). 32 ∷ t ++ 10 ∷ []) (append-nil (decimal n))
size-line n (m ∷ ns) =
    ap (λ (t : List ℕ). t ++ 10 ∷ []) (flat_map-cons (λ (k : ℕ). 32 ∷ decimal k) n (m ∷ ns))
    ∙ append_assoc (32 ∷ decimal n) (numbers_text (m ∷ ns)) (10 ∷ [])
    ∙ ap (λ (t : List ℕ). (32 ∷ decimal n) ++ t) (size-line m ns)
    ∙ sym (append_assoc (32 ∷ decimal n) (32 ∷ []) (sizes_line (m ∷ ns)))

sizes-are : (n : ℕ) (ns : List ℕ)
    → codes " size" ++ numbers_text (n ∷ ns) ++ 10 ∷ [] ≡ codes " size " ++ sizes_line (n ∷ ns)
sizes-are n ns = append_assoc (codes " size") (numbers_text (n ∷ ns)) (10 ∷ [])
    ∙ ap (λ (t : List ℕ). codes " size" ++ t) (size-line n ns)

part-cut : (head p part o parts f from s sizes rows rest : List ℕ)
    → (head ++ (p ++ part ++ o ++ parts ++ f ++ from) ++ s ++ sizes ++ 10 ∷ [] ++ rows ++ 10 ∷ [])
    ++ rest
    ≡ head
    ++ (p
    ++ (part
    ++ (o
    ++ (parts ++ (f ++ (from ++ ((s ++ sizes ++ 10 ∷ []) ++ (rows ++ (10 ∷ [] ++ rest)))))))))
part-cut head p part o parts f from s sizes rows rest = simp append_assoc

place-cut : (part blank o parts f rest : List ℕ)
    → part ++ ((blank ++ o) ++ (parts ++ ((blank ++ f) ++ rest)))
    ≡ (part ++ blank) ++ (o ++ ((parts ++ blank) ++ (f ++ rest)))
place-cut part blank o parts f rest = simp append_assoc

section-text : (name : List ℕ) (iteration part parts : ℕ) (from : List ℕ) (n : ℕ) (ns : List ℕ)
    (values : List ℤ) (rest : List ℕ)
    → part_section name iteration part parts from (n ∷ ns) values ++ rest
    ≡ front_text name iteration
    (codes "part " ++ place_line part parts from (grid_text (n ∷ ns) values rest))
section-text name iteration part parts from n ns values rest =
    let size = n ∷ ns in
    let head = codes "# " ++ name ++ codes " iteration " ++ decimal iteration in
    let rows = flat_map (row_of (shape_of size) values)
    (range_with_len 0 (extent (whole (shape_of size)) 1 * extent (whole (shape_of size)) 2)) in
    let before = λ (t : List ℕ). head
    ++ (codes " part " ++ (decimal part
    ++ (codes " of " ++ (decimal parts ++ (codes " from" ++ t))))) in
    part-cut head (codes " part ") (decimal part) (codes " of ") (decimal parts) (codes " from")
    (numbers_text from) (codes " size") (numbers_text size) rows rest
    ∙ ap (λ (s : List ℕ). before (numbers_text from ++ (s ++ (rows ++ 10 ∷ rest)))) (sizes-are n ns)
    ∙ ap (λ (r : List ℕ). before
    (numbers_text from ++ ((codes " size " ++ sizes_line size) ++ (r ++ 10 ∷ rest))))
    (level-text size values)
    ∙ ap before (from-shift from (grid_text size values rest))
    ∙ ap (λ (t : List ℕ). head ++ (codes " part " ++ t))
    (place-cut (decimal part) (32 ∷ []) (codes "of ") (decimal parts) (codes "from ")
    (from_line from (grid_text size values rest)))
    ∙ front-cut name (decimal iteration) (32 ∷ []) (codes "iteration ")
    (codes "part " ++ place_line part parts from (grid_text size values rest))

-- ---- what was written is read again

front_again : (name : List ℕ) (iteration : ℕ) (body : List ℕ) → IsTrue (is_name name)
    → iteration < 2 ^ 64 → piece_at (front_text name iteration body)
    ≡ body_at name iteration body (skip_text (codes "part ") body)
unfolding piece_at
front_again name iteration body named small = rw (head_again name iteration body named small) refl

place_again : (part parts : ℕ) (from rest : List ℕ) → IsWord part → IsWord parts → length from ≤ 3
    → AllByRecursion IsWord from
    → place_at (place_line part parts from rest)
    ≡ Some (record { part = part; parts = parts; from = from }, rest)
unfolding place_at
place_again part parts from rest p q few fits =
    rw (
      word_field.again part
          (codes "of " ++ ((decimal parts ++ 32 ∷ []) ++ (codes "from " ++ from_line from rest)))
          (omega (arith, p)),
      word_field.again parts (codes "from " ++ from_line from rest)
          (omega (arith, q)),
      from_again 3 from [] rest few fits,
    ) refl

section_again : (name : List ℕ) (iteration part parts : ℕ) (from size : List ℕ) (values : List ℤ)
    (rest : List ℕ) → IsPartSection name iteration part parts from size values
    → section_at name iteration (place_line part parts from (grid_text size values rest))
    ≡ Some (Box name iteration part parts from size values, rest)
unfolding section_at
section_again name iteration part parts from size values rest is =
    let few : length from ≤ 3 = omega (arith, is.alike, is.directions) in
    rw (
      place_again part parts from (grid_text size values rest) is.part is.parts few is.from,
      grid_again size values rest
          (record {
            some = is.some;
            directions = is.directions;
            sizes = is.sizes;
            count = is.count;
            values = is.values;
          }),
      eq-eqb (length from) (length size) is.alike,
    ) refl

value_again : (name : List ℕ) (iteration : ℕ) (v : ℤ) (rest : List ℕ) → FitsSigned w64 v
    → value_at name iteration (codes "value " ++ ((signed_decimal v ++ 10 ∷ []) ++ rest))
    ≡ Some (
      Line (record { full = name; iteration = iteration; size = []; values = v ∷ [] }),
      rest,
    )
unfolding value_at
value_again name iteration v rest fits = rw (line_again name iteration v rest fits) refl

line_piece : (name : List ℕ) (iteration : ℕ) (size : List ℕ) (values : List ℤ) (rest : List ℕ)
    → IsRecord (record { full = name; iteration = iteration; size = size; values = values })
    → size ≡ []
    → piece_at (text_of name iteration size values ++ rest)
    ≡ Some (
      Line (record { full = name; iteration = iteration; size = size; values = values }),
      rest,
    )
line_piece name iteration (n ∷ ns) values rest is none = absurd cc
line_piece name iteration [] [] rest is none = absurd (omega (arith, is.count))
line_piece name iteration [] (v ∷ w ∷ values) rest is none = absurd (omega (arith, is.count))
line_piece name iteration [] (v ∷ []) rest is none =
    ap piece_at (line-text name iteration v rest)
    ∙ front_again name iteration (codes "value " ++ ((signed_decimal v ++ 10 ∷ []) ++ rest))
    is.name is.iteration
    ∙ value_again name iteration v rest is.values.0

section_piece : (name : List ℕ) (iteration part parts : ℕ) (from size : List ℕ) (values : List ℤ)
    (rest : List ℕ) → IsPartSection name iteration part parts from size values
    → piece_at (part_section name iteration part parts from size values ++ rest)
    ≡ Some (Box name iteration part parts from size values, rest)
section_piece name iteration part parts from [] values rest is = absurd (omega (arith, is.some))
section_piece name iteration part parts from (n ∷ ns) values rest is =
    ap piece_at (section-text name iteration part parts from n ns values rest)
    ∙ front_again name iteration
    (codes "part " ++ place_line part parts from (grid_text (n ∷ ns) values rest))
    is.name is.iteration
    ∙ section_again name iteration part parts from (n ∷ ns) values rest is

piece_again : (p : Piece) (rest : List ℕ) → IsPiece p
    → piece_at (piece_text p ++ rest) ≡ Some (p, rest)
piece_again (Line r) rest is = line_piece r.full r.iteration r.size r.values rest is.0 is.1
piece_again (Box name iteration part parts from size values) rest is =
    section_piece name iteration part parts from size values rest is

-- ---- what is read was written

abbrev IsPieceRead : List ℕ → Piece × List ℕ → Type 0
IsPieceRead bytes x = (bytes ≡ piece_text x.0 ++ x.1) × IsPiece x.0

record IsPlaceRead (bytes : List ℕ) (x : Place × List ℕ) : Type 0 where
  pub spelled : bytes ≡ place_line x.0.part x.0.parts x.0.from x.1
  pub part : IsWord x.0.part
  pub parts : IsWord x.0.parts
  pub from : AllByRecursion IsWord x.0.from

place_takes : (bytes : List ℕ) (x : Place × List ℕ) → place_at bytes ≡ Some x → IsPlaceRead bytes x
unfolding place_at
place_takes bytes x h =
    let a = bind_some (word_at bytes) _ x h in
    let b = bind_some (skip_text (codes "of ") a.0.1) _ x a.2 in
    let d = bind_some (word_at b.0) _ x b.2 in
    let f = bind_some (skip_text (codes "from ") d.0.1) _ x d.2 in
    let i = bind_some (from_at 3 [] f.0) _ x f.2 in
    let t = word_field.takes bytes a.0 a.1 in
    let u = word_field.takes b.0 d.0 d.1 in
    let w = from_takes 3 [] f.0 i.0 i.1 in
    let p = t.1 in
    let q = u.1 in
    subst (IsPlaceRead bytes) (some_is _ x i.2) (record {
      spelled = t.0 ∙ ap (λ (r : List ℕ). (decimal a.0.0 ++ 32 ∷ []) ++ r)
          (text_takes (codes "of ") a.0.1 b.0 b.1
          ∙ ap (λ (r : List ℕ). codes "of " ++ r)
          (u.0 ∙ ap (λ (r : List ℕ). (decimal d.0.0 ++ 32 ∷ []) ++ r)
          (text_takes (codes "from ") d.0.1 f.0 f.1
          ∙ ap (λ (r : List ℕ). codes "from " ++ r)
          (w.spelled ∙ ap (λ (ns : List ℕ). from_line ns i.0.1) (sym w.all)))));
      part = omega (arith, p);
      parts = omega (arith, q);
      from = subst (AllByRecursion IsWord) (sym w.all) w.fits;
    })

section_takes_by : (name : List ℕ) (iteration part parts : ℕ) (from size : List ℕ) (values : List ℤ)
    (body rest : List ℕ) → body ≡ place_line part parts from (grid_text size values rest)
    → IsPartSection name iteration part parts from size values
    → IsPieceRead (front_text name iteration (codes "part " ++ body))
    (Box name iteration part parts from size values, rest)
section_takes_by name iteration part parts from [] values body rest spelled is =
    absurd (omega (arith, is.some))
section_takes_by name iteration part parts from (n ∷ ns) values body rest spelled is = (
  ap (λ (b : List ℕ). front_text name iteration (codes "part " ++ b)) spelled
      ∙ sym (section-text name iteration part parts from n ns values rest),
  is,
)

section_takes : (name : List ℕ) (iteration : ℕ) (body : List ℕ) (x : Piece × List ℕ)
    → IsTrue (is_name name) → iteration < 2 ^ 64 → section_at name iteration body ≡ Some x
    → IsPieceRead (front_text name iteration (codes "part " ++ body)) x
unfolding section_at
section_takes name iteration body x named small h =
    let a = bind_some (place_at body) _ x h in
    let b = bind_some (grid_at a.0.1) _ x a.2 in
    let e = goes_where (eqb (length a.0.0.from) (length b.0.0.0)) _ x b.2 in
    let t = place_takes body a.0 a.1 in
    let u = grid_takes a.0.1 b.0 b.1 in
    subst (IsPieceRead (front_text name iteration (codes "part " ++ body))) e.1
    (section_takes_by name iteration a.0.0.part a.0.0.parts a.0.0.from b.0.0.0 b.0.0.1 body b.0.1
    (t.spelled ∙ ap (λ (r : List ℕ). place_line a.0.0.part a.0.0.parts a.0.0.from r) u.0)
    (record {
      name = named;
      iteration = small;
      part = t.part;
      parts = t.parts;
      some = u.1.some;
      directions = u.1.directions;
      from = t.from;
      alike = eqb-true (length a.0.0.from) (length b.0.0.0) e.0;
      sizes = u.1.sizes;
      count = u.1.count;
      values = u.1.values;
    }))

line_size : (name : List ℕ) (iteration : ℕ) (rest : List ℕ) (y : Record × List ℕ)
    → line_at name iteration rest ≡ Some y → y.0.size ≡ []
unfolding line_at
line_size name iteration rest y e =
    let a = bind_some (number_at_end 10 rest) _ y e in
    ap (λ (z : Record × List ℕ). z.0.size) (sym (some_is _ y a.2))

value_takes : (name : List ℕ) (iteration : ℕ) (body : List ℕ) (x : Piece × List ℕ)
    → IsTrue (is_name name) → iteration < 2 ^ 64 → value_at name iteration body ≡ Some x
    → IsPieceRead (front_text name iteration body) x
unfolding value_at
value_takes name iteration body x named small h =
    let a = bind_some (skip_text (codes "value ") body) _ x h in
    let b = bind_some (line_at name iteration a.0) _ x a.2 in
    let t = line_takes name iteration a.0 b.0 named small b.1 in
    subst (IsPieceRead (front_text name iteration body)) (some_is _ x b.2) (
      ap (front_text name iteration) (text_takes (codes "value ") body a.0 a.1) ∙ t.0,
      (t.1, line_size name iteration a.0 b.0 b.1),
    )

body_takes : (name : List ℕ) (iteration : ℕ) (body : List ℕ) (part : Option (List ℕ))
    (x : Piece × List ℕ) → IsTrue (is_name name) → iteration < 2 ^ 64
    → skip_text (codes "part ") body ≡ part → body_at name iteration body part ≡ Some x
    → IsPieceRead (front_text name iteration body) x
body_takes name iteration body (Some part) x named small is h =
    subst (λ (b : List ℕ). IsPieceRead (front_text name iteration b) x)
    (sym (text_takes (codes "part ") body part is))
    (section_takes name iteration part x named small h)
body_takes name iteration body None x named small is h =
    value_takes name iteration body x named small h

piece_takes : (bytes : List ℕ) (x : Piece × List ℕ) → piece_at bytes ≡ Some x → IsPieceRead bytes x
unfolding piece_at
piece_takes bytes x h =
    let a = bind_some (head_at bytes) _ x h in
    let t = head_takes bytes a.0 a.1 in
    subst (λ (s : List ℕ). IsPieceRead s x) (sym t.spelled)
    (body_takes a.0.0.0 a.0.0.1 a.0.1 (skip_text (codes "part ") a.0.1)
    x t.named t.small refl a.2)

-- ---- both

pub piece_field : IsField piece_text piece_at IsPiece
piece_field = record { takes = piece_takes; again = piece_again }

pub no_piece : piece_at [] ≡ None
unfolding piece_at head_at
no_piece = refl
