use Rattle.std.specs.Prelude.{ℕ, ◌≡◌, refl, pos, negsuc, [], ◌∷◌, codes, false, true}
use Rattle.std.specs.Fmt.{digits}
use Rattle.cx_grid.specs.declared.shapes.Shape.{Shape}
use Rattle.cx_ascii.specs.Output.{section, line}

abbrev shape_of : ℕ → ℕ → ℕ → Shape
shape_of dims x y = record {
  dims = dims;
  n = record { x = pos x; y = pos y; z = pos 1 };
  ghost_ = record { x = pos 1; y = pos 0; z = pos 0 };
  periodic = true ∷ false ∷ false ∷ [];
}

row : section (codes "ca::cell") 0 (shape_of 1 8 1)
    (pos 0 ∷ pos 0 ∷ pos 0 ∷ pos 1 ∷ pos 0 ∷ pos 0 ∷ pos 0 ∷ pos 0 ∷ [])
    ≡ codes "# ca::cell iteration 0 size 8\n0 0 0 1 0 0 0 0\n\n"
unfolding digits
row = refl

plate : section (codes "a") 12 (shape_of 2 2 3)
    (pos 0 ∷ negsuc 7 ∷ pos 2 ∷ pos 13 ∷ pos 4 ∷ pos 5 ∷ [])
    ≡ codes "# a iteration 12 size 2 3\n0 -8\n2 13\n4 5\n\n"
unfolding digits
plate = refl

total : line (codes "wave::total") 20 (pos 200) ≡ codes "# wave::total iteration 20 value 200\n"
unfolding digits
total = refl
