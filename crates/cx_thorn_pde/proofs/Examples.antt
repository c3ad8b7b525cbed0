-- Steps worked out by hand: of a wave along a row, of heat, and at the ends of 64 bits.
use Rattle.std.proofs.Common.{◌≡◌, ℤ, pos, negsuc, ◌-◌, ◌^◌, List, [], ◌∷◌, Option, Some, None, true, false, refl}
use Rattle.cx_grid.specs.declared.shapes.Shape.{Shape}
use Rattle.cx_rule.specs.declared.place.Place.{Place}
use Rattle.cx_thorn_pde.specs.Wave.{wave_step_rule}
use Rattle.cx_thorn_pde.specs.Heat.{diff_step_rule}
use Rattle.cx_thorn_pde.specs.Start.{start_at}

abbrev ring : Shape
ring = record {
  dims = 1;
  n = record { x = pos 6; y = pos 1; z = pos 1 };
  ghost_ = record { x = pos 1; y = pos 0; z = pos 0 };
  periodic = true ∷ false ∷ false ∷ [];
}

abbrev place : ℤ → List ℤ → Place
place x params = record {
  at = record { x = x; y = pos 0; z = pos 0 };
  shape = ring;
  iteration = 1;
  params = params;
}

-- the last values to the left, at and to the right of a point, the value before, and the factor
abbrev waved : ℤ → ℤ → ℤ → ℤ → ℤ → Option (List ℤ)
waved left here right before factor =
    wave_step_rule
    (record { dims = 1; reaches = 1 ∷ 0 ∷ []; values = left ∷ here ∷ right ∷ before ∷ [] })
    (place (pos 0) (factor ∷ []))

abbrev most : ℤ
most = pos (2 ^ 63 - 1)

beside : waved (pos 8) (pos 0) (pos 0) (pos 0) (pos 256) ≡ Some (pos 8 ∷ [])
beside = refl

amid : waved (pos 0) (pos 8) (pos 0) (pos 8) (pos 256) ≡ Some (negsuc 7 ∷ [])
amid = refl

-- a 256th of -1 is -1, rounded down
down : waved (pos 0) (pos 0) (negsuc 0) (pos 0) (pos 1) ≡ Some (negsuc 0 ∷ [])
down = refl

-- twice the greatest number leaves 64 bits, but not where it is taken off again
through : waved most most most most (pos 256) ≡ Some (most ∷ [])
through = refl

beyond : waved most most most (pos 0) (pos 256) ≡ None
beyond = refl

heat : diff_step_rule (record { dims = 1; reaches = 1 ∷ []; values = pos 0 ∷ pos 100 ∷ pos 1 ∷ [] })
    (place (pos 0) (pos 64 ∷ [])) ≡ Some (pos 50 ∷ [])
heat = refl

abbrev started : ℤ → ℤ → Option ℤ
started pattern x = start_at (place x (pattern ∷ pos 8 ∷ pos 2 ∷ pos 0 ∷ []))

starts : started (pos 0) (pos 2) ∷ started (pos 0) (pos 1) ∷ started (pos 1) (pos 5)
    ∷ started (pos 2) (pos 2) ∷ started (pos 2) (pos 1) ∷ []
    ≡ Some (pos 8) ∷ Some (pos 0) ∷ Some (pos 8) ∷ Some (pos 8) ∷ Some (negsuc 7) ∷ []
starts = refl
