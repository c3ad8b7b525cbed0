-- Sections and lines are the texts of records.
use Rattle.std.proofs.Common.{◌≡◌, ℕ, ℤ, pos, negsuc, zero, suc, ◌≤◌, ◌<◌, ◌≤ℤ◌, List, [], ◌∷◌, ◌++◌, length, get_or, unsigned_abs, refl, sym, ap, ◌∙◌, arith}
use Rattle.std.specs.List.{flat_map, AllByRecursion}
use Rattle.std.proofs.lemmas.List.{append-nil}
use Rattle.std.proofs.lemmas.List.Concat.{flat_map-cons}
use Rattle.std.proofs.lemmas.Grind.{flat_map-append}
use Rattle.cx_grid.specs.declared.boxes.Point.{Point}
use Rattle.cx_grid.specs.declared.shapes.Shape.{Shape}
use Rattle.cx_grid.specs.Boxes.{point_by, point_count}
use Rattle.cx_grid.specs.Grid.{IsShape, IsAxis, IsNoAxis, whole}
use Rattle.cx_ascii.specs.Output.{section, line}
use Rattle.cx_ascii_read.specs.declared.record.Record.{Record}
use Rattle.cx_ascii_read.specs.Records.{shape_of, IsSize, IsRecord, text_of, record_text, Spells}
use Rattle.cx_ascii_read.specs.Printed.{sizes_of, level_record, value_record, SectionsAreRecords, LinesAreRecords, TextsJoin}
use Rattle.cx_ascii_read.proofs.RowLaws.{all-append}

-- a section looks at no more of a grid than the numbers of its points
alike : (name : List ℕ) (iteration : ℕ) (level : List ℤ) (s t : Shape) → s.dims ≡ t.dims → s.n ≡ t.n
    → section name iteration s level ≡ section name iteration t level
alike name iteration level s t dims n =
    ap (λ (d : ℕ). section name iteration
    (record { dims = d; n = s.n; ghost_ = s.ghost_; periodic = s.periodic }) level) dims
    ∙ ap (λ (m : Point). section name iteration
    (record { dims = t.dims; n = m; ghost_ = s.ghost_; periodic = s.periodic }) level) n

-- ---- the sizes of a grid

pos_abs : (z : ℤ) → pos 1 ≤ℤ z → pos (unsigned_abs z) ≡ z
pos_abs (pos n) some = refl
pos_abs (negsuc n) some = absurd (grind arith)

is_size : (z ghosts : ℤ) → IsAxis z ghosts → IsSize (unsigned_abs z)
is_size (pos n) ghosts is = let some = is.some in let most = is.most in (grind arith, grind arith)
is_size (negsuc n) ghosts is = absurd (let some = is.some in grind arith)

abbrev points_of : List ℕ → Point
points_of size = point_by (λ d. pos (get_or size d 1))

abbrev point : ℤ → ℤ → ℤ → Point
point x y z = record { x = x; y = y; z = z }

point-is : (n : Point) (x y z : ℤ) → x ≡ n.x → y ≡ n.y → z ≡ n.z → point x y z ≡ n
point-is n x y z ex ey ez =
    ap (λ (c : ℤ). point c y z) ex ∙ ap (λ (c : ℤ). point n.x c z) ey
    ∙ ap (λ (c : ℤ). point n.x n.y c) ez

record HasSizes (dims : ℕ) (n : Point) (size : List ℕ) : Type 0 where
  pub directions : length size ≡ dims
  pub points : points_of size ≡ n
  pub sizes : AllByRecursion IsSize size

has_sizes : (dims : ℕ) (n ghosts : Point) → 1 ≤ dims → dims ≤ 3 → IsAxis n.x ghosts.x
    → IsAxis n.y ghosts.y → IsAxis n.z ghosts.z → (dims < 2 → IsNoAxis n.y ghosts.y)
    → (dims < 3 → IsNoAxis n.z ghosts.z) → HasSizes dims n (sizes_of dims n)
has_sizes zero n ghosts some most x y z no_y no_z = absurd (omega arith)
has_sizes (suc zero) n ghosts some most x y z no_y no_z = record {
  directions = refl;
  points = point-is n (pos (unsigned_abs n.x)) (pos 1) (pos 1) (pos_abs n.x x.some)
      (sym (no_y (omega arith)).one) (sym (no_z (omega arith)).one);
  sizes = (is_size n.x ghosts.x x, tt);
}
has_sizes (suc (suc zero)) n ghosts some most x y z no_y no_z = record {
  directions = refl;
  points = point-is n (pos (unsigned_abs n.x)) (pos (unsigned_abs n.y)) (pos 1) (pos_abs n.x x.some)
      (pos_abs n.y y.some) (sym (no_z (omega arith)).one);
  sizes = (is_size n.x ghosts.x x, (is_size n.y ghosts.y y, tt));
}
has_sizes (suc (suc (suc zero))) n ghosts some most x y z no_y no_z = record {
  directions = refl;
  points = point-is n (pos (unsigned_abs n.x)) (pos (unsigned_abs n.y)) (pos (unsigned_abs n.z))
      (pos_abs n.x x.some) (pos_abs n.y y.some) (pos_abs n.z z.some);
  sizes = (is_size n.x ghosts.x x, (is_size n.y ghosts.y y, (is_size n.z ghosts.z z, tt)));
}
has_sizes (suc (suc (suc (suc dims)))) n ghosts some most x y z no_y no_z =
    absurd (omega (arith, most))

shape_sizes : (s : Shape) → IsShape s → HasSizes s.dims s.n (sizes_of s.dims s.n)
shape_sizes s is = has_sizes s.dims s.n s.ghost_ is.some is.most is.x is.y is.z is.no_y is.no_z

-- ---- texts

-- a record alone
one-text : (r : Record) (text : List ℕ) → IsRecord r → text ≡ record_text r → Spells text (r ∷ [])
one-text r text is same =
    record {
      in_range = (is, tt);
      spelled = same ∙ sym (flat_map-cons record_text r [] ∙ append-nil (record_text r));
    }

section-is : (name : List ℕ) (iteration : ℕ) (size : List ℕ) (level : List ℤ) → 1 ≤ length size
    → section name iteration (shape_of size) level ≡ text_of name iteration size level
section-is name iteration [] level some = absurd (omega arith)
section-is name iteration (n ∷ ns) level some = refl

pub sections_are_records : SectionsAreRecords
sections_are_records name iteration s level head is count fits =
    let size = sizes_of s.dims s.n in
    let has = shape_sizes s is in
    let some : 1 ≤ length size = omega (arith, has.directions, is.some) in
    one-text (level_record name iteration s level) (section name iteration s level)
    (record {
      name = head.named;
      iteration = head.small;
      directions = omega (arith, has.directions, is.most);
      sizes = has.sizes;
      count =
          count ∙ ap (λ (n : Point). point_count (record { low = point_by (λ d. pos 0); high = n }))
          (sym has.points);
      values = fits;
    })
    (alike name iteration level s (shape_of size) (sym has.directions) (sym has.points)
    ∙ section-is name iteration size level some)

pub lines_are_records : LinesAreRecords
lines_are_records name iteration value head fits =
    let one : 1 ≡ point_count (whole (shape_of [])) = refl in
    one-text (value_record name iteration value) (line name iteration value)
    (record {
      name = head.named;
      iteration = head.small;
      directions = omega arith;
      sizes = tt;
      count = one;
      values = (fits, tt);
    }) refl

pub texts_join : TextsJoin
texts_join a b rs ss one two = record {
  in_range = all-append IsRecord rs ss one.in_range two.in_range;
  spelled = ap (λ (t : List ℕ). t ++ b) one.spelled
      ∙ ap (λ (t : List ℕ). flat_map record_text rs ++ t) two.spelled
      ∙ sym (flat_map-append record_text rs ss);
}
