-- Worked rows: equal cuts.
use Rattle.std.specs.Prelude.{◌≡◌, refl, [], ◌∷◌}
use Rattle.cx_cut.specs.Equal.{even}

row_even : even 10 3 ≡ 4 ∷ 3 ∷ 3 ∷ []
row_even = refl

row_more_parts_than_points : even 2 3 ≡ 1 ∷ 1 ∷ 0 ∷ []
row_more_parts_than_points = refl
