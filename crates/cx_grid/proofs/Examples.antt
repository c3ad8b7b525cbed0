-- The definitions on small grids.
use Rattle.std.proofs.Common.{◌≡◌, ℤ, pos, negsuc, List, [], ◌∷◌, true, false, refl}
use Rattle.cx_grid.specs.declared.shapes.Shape.{Shape}
use Rattle.cx_grid.specs.Boxes.{points_in}
use Rattle.cx_grid.specs.Grid.{is_boundary, source}
use Rattle.cx_grid.specs.Windows.{window}

-- five by three points with ghost zones of one, periodic in y
abbrev sheet : Shape
sheet = record {
  dims = 2;
  n = record { x = pos 5; y = pos 3; z = pos 1 };
  ghost_ = record { x = pos 1; y = pos 1; z = pos 0 };
  periodic = false ∷ true ∷ false ∷ [];
}

abbrev numbers : List ℤ
numbers = pos 0 ∷ pos 1 ∷ pos 2 ∷ pos 3 ∷ pos 4 ∷ pos 10 ∷ pos 11 ∷ pos 12 ∷ pos 13 ∷ pos 14
    ∷ pos 20 ∷ pos 21 ∷ pos 22 ∷ pos 23 ∷ pos 24 ∷ []

order : points_in
    (record {
      low = record { x = negsuc 0; y = pos 0; z = pos 2 };
      high = record { x = pos 1; y = pos 2; z = pos 3 };
    })
    ≡ record { x = negsuc 0; y = pos 0; z = pos 2 } ∷ record { x = pos 0; y = pos 0; z = pos 2 }
    ∷ record { x = negsuc 0; y = pos 1; z = pos 2 } ∷ record { x = pos 0; y = pos 1; z = pos 2 }
    ∷ []
order = refl

-- below the first row stands the last one
around_two : window sheet numbers (record { x = pos 2; y = pos 0; z = pos 0 }) 1
    ≡ pos 21 ∷ pos 22 ∷ pos 23 ∷ pos 1 ∷ pos 2 ∷ pos 3 ∷ pos 11 ∷ pos 12 ∷ pos 13 ∷ []
around_two = refl

edges : is_boundary sheet (record { x = pos 4; y = pos 1; z = pos 0 }) ≡ true
edges = refl

middle : is_boundary sheet (record { x = pos 3; y = pos 0; z = pos 0 }) ≡ false
middle = refl

moved_in : source sheet (record { x = pos 4; y = pos 2; z = pos 0 })
    ≡ record { x = pos 3; y = pos 2; z = pos 0 }
moved_in = refl
