-- Points that stand side by side along x, of which each names one of the grid.
use Rattle.std.proofs.Common.{◌≡◌, ℕ, ◌+◌, ◌<◌, ◌≤◌, arith, refl, sym, ap, ◌∙◌, ℤ, pos, ◌+ℤ◌, ◌≤ℤ◌, List, length, take, drop}
use Rattle.std.specs.Prelude.{slice_index_or}
use Rattle.std.proofs.lemmas.List.{get_or-take, get_or-drop, length-drop, length-take-le}
use Rattle.std.proofs.lemmas.List.FromFn.{fill_by_all}
use Rattle.cx_grid.specs.declared.boxes.Point.{Point}
use Rattle.cx_grid.specs.declared.shapes.Shape.{Shape}
use Rattle.cx_grid.specs.Boxes.{IsIn, point_count, index_in}
use Rattle.cx_grid.specs.Grid.{IsShape, whole, wrap, at}
use Rattle.cx_grid.proofs.Places.{same_point}
use Rattle.cx_grid.proofs.WrapLaws.{wrap_shifted}
use Rattle.cx_model.proofs.PointLaws.{wrap-own}
use Rattle.cx_field.specs.Patches.{beside}
use Rattle.cx_field.proofs.FaceLaws.{row_index, row_inside, row_end}
use Rattle.cx_core_buffers.specs.Filling.{numbers_from}

-- so many points from one on name points of one row of the grid
module _ (s : Shape) (shape : IsShape s) (low : Point) (n : ℕ)
    (near : IsIn (whole s) (wrap s low)) (room : ((wrap s low).x +ℤ pos n) ≤ℤ s.n.x) where
  wrap_beside : (i : ℕ) → i < n → wrap s (beside low i) ≡ beside (wrap s low) i
  wrap_beside i l =
      let inside = row_inside (whole s) (wrap s low) n i near room l in
      same_point
      (sym (ap (λ (p : Point). p.x)
      (wrap_shifted s low (record { x = pos i; y = pos 0; z = pos 0 }) shape))
      ∙ ap (λ (p : Point). p.x) (wrap-own s (beside (wrap s low) i) inside)) refl refl

  run_index : (i : ℕ) → i < n
      → index_in (whole s) (wrap s (beside low i)) ≡ index_in (whole s) (wrap s low) + i
  run_index i l = ap (index_in (whole s)) (wrap_beside i l)
      ∙ row_index (whole s) (wrap s low) i near.x.from

  pub run_room : index_in (whole s) (wrap s low) + n ≤ point_count (whole s)
  run_room = row_end (whole s) (wrap s low) n near room

  module _ (numbers : List ℤ) (size : length numbers ≡ point_count (whole s)) (from k : ℕ)
      (place : from ≡ index_in (whole s) (wrap s low)) (count : k ≡ n) where
    pub run_count : length (take k (drop from numbers)) ≡ n
    run_count =
        let r = length-drop from numbers in
        let e = run_room in
        length-take-le k (drop from numbers) (omega (arith, r, e, size, place, count)) ∙ count

    pub run_numbers : take k (drop from numbers)
        ≡ numbers_from s numbers low (length (take k (drop from numbers)))
    run_numbers =
        fill_by_all (λ i. at s numbers (beside low i)) (take k (drop from numbers))
        (length (take k (drop from numbers))) (pos 0) refl
        (λ i l.
        let m : i < n = let e = run_count in omega (arith, l, e) in
        let z : from + i ≡ index_in (whole s) (wrap s (beside low i)) =
        let e = run_index i m in omega (arith, place, e) in
        get_or-take k (drop from numbers) i (pos 0) (omega (arith, m, count))
        ∙ get_or-drop from numbers i (pos 0)
        ∙ ap (λ j. slice_index_or numbers j (pos 0)) z)
