-- A record that is read is the one that was written, and what was written is read again.
use Rattle.std.proofs.Common.{◌≡◌, ℕ, ℤ, ◌*◌, ◌^◌, ◌≤◌, ◌<◌, IsTrue, List, [], ◌∷◌, ◌++◌, length, codes, Option, Some, None, refl, sym, ap, subst, ◌∙◌, append_assoc, arith}
use Rattle.std.specs.Fmt.{decimal, signed_decimal}
use Rattle.std.specs.List.{flat_map, range_with_len}
use Rattle.std.specs.Int.{w64}
use Rattle.std.specs.Int.RustNames.{FitsSigned}
use Rattle.cx_grid.specs.Boxes.{extent, point_count}
use Rattle.cx_grid.specs.Grid.{whole}
use Rattle.cx_ascii.specs.Output.{section, line, row_of, sizes_text}
use Rattle.cx_ascii_read.specs.declared.record.Record.{Record}
use Rattle.cx_ascii_read.specs.Spelling.{IsField}
use Rattle.cx_ascii_read.specs.Records.{shape_of, is_name, IsRecord, text_of, record_text}
use Rattle.cx_ascii_read.specs.Reading.{skip_text, value_at, grid_at, head_at, section_at, line_at, body_at, record_at}
use Rattle.cx_ascii_read.proofs.WordLaws.{bind_some, some_is, text_takes}
use Rattle.cx_ascii_read.proofs.RowLaws.{value_field, sizes_line}
use Rattle.cx_ascii_read.proofs.HeadLaws.{front_text, front-cut, head_again, head_takes}
use Rattle.cx_ascii_read.proofs.GridLaws.{sizes-text, level_text, level-text, grid_text, grid_again, grid_takes}

-- ---- texts, cut where they are read

-- a line
line-cut : (head value text rest : List ℕ)
    → (head ++ value ++ text ++ 10 ∷ []) ++ rest ≡ head ++ (value ++ ((text ++ 10 ∷ []) ++ rest))
line-cut head value text rest = simp append_assoc

pub line-text : (name : List ℕ) (iteration : ℕ) (v : ℤ) (rest : List ℕ)
    → line name iteration v ++ rest
    ≡ front_text name iteration (codes "value " ++ ((signed_decimal v ++ 10 ∷ []) ++ rest))
line-text name iteration v rest =
    line-cut (codes "# " ++ name ++ codes " iteration " ++ decimal iteration) (codes " value ")
    (signed_decimal v) rest
    ∙ front-cut name (decimal iteration) (32 ∷ []) (codes "iteration ")
    (codes "value " ++ ((signed_decimal v ++ 10 ∷ []) ++ rest))

-- a section
section-cut : (head size sizes rows rest : List ℕ)
    → (head ++ size ++ sizes ++ 10 ∷ [] ++ rows ++ 10 ∷ []) ++ rest
    ≡ head ++ ((size ++ sizes ++ 10 ∷ []) ++ (rows ++ (10 ∷ [] ++ rest)))
section-cut head size sizes rows rest = simp append_assoc

section-text : (name : List ℕ) (iteration n : ℕ) (ns : List ℕ) (level : List ℤ) (rest : List ℕ)
    → length (n ∷ ns) ≤ 3
    → section name iteration (shape_of (n ∷ ns)) level ++ rest
    ≡ front_text name iteration
    (codes "size " ++ (sizes_line (n ∷ ns) ++ (level_text (n ∷ ns) level ++ 10 ∷ rest)))
section-text name iteration n ns level rest few =
    let size = n ∷ ns in
    let head = codes "# " ++ name ++ codes " iteration " ++ decimal iteration in
    let rows = flat_map (row_of (shape_of size) level)
    (range_with_len 0 (extent (whole (shape_of size)) 1 * extent (whole (shape_of size)) 2)) in
    section-cut head (codes " size") (sizes_text (shape_of size)) rows rest
    ∙ ap (λ (s : List ℕ). head ++ (s ++ (rows ++ 10 ∷ rest))) (sizes-text n ns few)
    ∙ ap (λ (r : List ℕ). head ++ ((codes " size " ++ sizes_line size) ++ (r ++ 10 ∷ rest)))
    (level-text size level)
    ∙ front-cut name (decimal iteration) (32 ∷ []) (codes "iteration ")
    (codes "size " ++ (sizes_line size ++ (level_text size level ++ 10 ∷ rest)))

-- ---- what was written is read again

pub line_again : (name : List ℕ) (iteration : ℕ) (v : ℤ) (rest : List ℕ) → FitsSigned w64 v
    → line_at name iteration ((signed_decimal v ++ 10 ∷ []) ++ rest)
    ≡ Some (record { full = name; iteration = iteration; size = []; values = v ∷ [] }, rest)
unfolding line_at
line_again name iteration v rest fits = rw ((value_field 10 refl).again v rest fits) refl

section_again : (name : List ℕ) (iteration n : ℕ) (ns : List ℕ) (level : List ℤ) (rest : List ℕ)
    → IsRecord (record { full = name; iteration = iteration; size = n ∷ ns; values = level })
    → section_at name iteration (grid_text (n ∷ ns) level rest)
    ≡ Some (record { full = name; iteration = iteration; size = n ∷ ns; values = level }, rest)
unfolding section_at
section_again name iteration n ns level rest is =
    rw (grid_again (n ∷ ns) level rest
    (record {
      some = omega arith;
      directions = is.directions;
      sizes = is.sizes;
      count = is.count;
      values = is.values;
    })) refl

front_again : (name : List ℕ) (iteration : ℕ) (body : List ℕ) → IsTrue (is_name name)
    → iteration < 2 ^ 64 → record_at (front_text name iteration body)
    ≡ body_at name iteration body (skip_text (codes "size ") body)
unfolding record_at
front_again name iteration body named small = rw (head_again name iteration body named small) refl

again_by : (name : List ℕ) (iteration : ℕ) (size : List ℕ) (values : List ℤ) (rest : List ℕ)
    → IsRecord (record { full = name; iteration = iteration; size = size; values = values })
    → record_at (text_of name iteration size values ++ rest)
    ≡ Some (record { full = name; iteration = iteration; size = size; values = values }, rest)
again_by name iteration [] [] rest is = absurd (omega (arith, is.count))
again_by name iteration [] (v ∷ []) rest is =
    ap record_at (line-text name iteration v rest)
    ∙ front_again name iteration (codes "value " ++ ((signed_decimal v ++ 10 ∷ []) ++ rest))
    is.name is.iteration
    ∙ line_again name iteration v rest is.values.0
again_by name iteration [] (v ∷ w ∷ values) rest is = absurd (omega (arith, is.count))
again_by name iteration (n ∷ ns) values rest is =
    ap record_at (section-text name iteration n ns values rest is.directions)
    ∙ front_again name iteration (codes "size " ++ grid_text (n ∷ ns) values rest)
    is.name is.iteration
    ∙ section_again name iteration n ns values rest is

-- ---- what is read was written

abbrev pub IsRecordRead : List ℕ → Record × List ℕ → Type 0
IsRecordRead bytes x = (bytes ≡ record_text x.0 ++ x.1) × IsRecord x.0

section_takes : (name : List ℕ) (iteration : ℕ) (body : List ℕ) (x : Record × List ℕ)
    → IsTrue (is_name name) → iteration < 2 ^ 64 → section_at name iteration body ≡ Some x
    → IsRecordRead (front_text name iteration (codes "size " ++ body)) x
unfolding section_at
section_takes name iteration body x named small h =
    let a = bind_some (grid_at body) _ x h in
    let t = grid_takes body a.0 a.1 in
    subst (IsRecordRead (front_text name iteration (codes "size " ++ body))) (some_is _ x a.2)
    (by_grid name iteration a.0.0.0 a.0.0.1 body a.0.1 named small t.0
    (record {
      name = named;
      iteration = small;
      directions = t.1.directions;
      sizes = t.1.sizes;
      count = t.1.count;
      values = t.1.values;
    }) t.1.some)
  where
    by_grid : (name : List ℕ) (iteration : ℕ) (size : List ℕ) (values : List ℤ) (body rest : List ℕ)
        → IsTrue (is_name name) → iteration < 2 ^ 64 → body ≡ grid_text size values rest
        → IsRecord (record { full = name; iteration = iteration; size = size; values = values })
        → 1 ≤ length size
        → IsRecordRead (front_text name iteration (codes "size " ++ body))
        (record { full = name; iteration = iteration; size = size; values = values }, rest)
    by_grid name iteration [] values body rest named small spelled is some = absurd (omega arith)
    by_grid name iteration (n ∷ ns) values body rest named small spelled is some = (
      ap (λ (b : List ℕ). front_text name iteration (codes "size " ++ b)) spelled
          ∙ sym (section-text name iteration n ns values rest is.directions),
      is,
    )

pub line_takes : (name : List ℕ) (iteration : ℕ) (body : List ℕ) (x : Record × List ℕ)
    → IsTrue (is_name name) → iteration < 2 ^ 64 → line_at name iteration body ≡ Some x
    → IsRecordRead (front_text name iteration (codes "value " ++ body)) x
unfolding line_at
line_takes name iteration body x named small h =
    let a = bind_some (value_at 10 body) _ x h in
    let t = (value_field 10 refl).takes body a.0 a.1 in
    let one : 1 ≡ point_count (whole (shape_of [])) = refl in
    subst (IsRecordRead (front_text name iteration (codes "value " ++ body))) (some_is _ x a.2) (
      ap (λ (b : List ℕ). front_text name iteration (codes "value " ++ b)) t.0
          ∙ sym (line-text name iteration a.0.0 a.0.1),
      record {
        name = named;
        iteration = small;
        directions = omega arith;
        sizes = tt;
        count = one;
        values = (t.1, tt);
      },
    )

body_takes : (name : List ℕ) (iteration : ℕ) (body : List ℕ) (sizes : Option (List ℕ))
    (x : Record × List ℕ) → IsTrue (is_name name) → iteration < 2 ^ 64
    → skip_text (codes "size ") body ≡ sizes → body_at name iteration body sizes ≡ Some x
    → IsRecordRead (front_text name iteration body) x
body_takes name iteration body (Some sizes) x named small is h =
    subst (λ (b : List ℕ). IsRecordRead (front_text name iteration b) x)
    (sym (text_takes (codes "size ") body sizes is))
    (section_takes name iteration sizes x named small h)
body_takes name iteration body None x named small is h =
    let a = bind_some (skip_text (codes "value ") body) (line_at name iteration) x h in
    subst (λ (b : List ℕ). IsRecordRead (front_text name iteration b) x)
    (sym (text_takes (codes "value ") body a.0 a.1))
    (line_takes name iteration a.0 x named small a.2)

record_takes : (bytes : List ℕ) (x : Record × List ℕ) → record_at bytes ≡ Some x
    → IsRecordRead bytes x
unfolding record_at
record_takes bytes x h =
    let a = bind_some (head_at bytes) _ x h in
    let t = head_takes bytes a.0 a.1 in
    subst (λ (s : List ℕ). IsRecordRead s x) (sym t.spelled)
    (body_takes a.0.0.0 a.0.0.1 a.0.1 (skip_text (codes "size ") a.0.1)
    x t.named t.small refl a.2)

-- ---- both

pub record_field : IsField record_text record_at IsRecord
record_field = record {
  takes = record_takes;
  again = λ r rest is. again_by r.full r.iteration r.size r.values rest is;
}

pub no_record : record_at [] ≡ None
unfolding record_at head_at
no_record = refl
