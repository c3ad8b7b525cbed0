-- Wolfram's rules on a ring of eight cells, and Conway's on nine cells.
use Rattle.std.proofs.Common.{◌≡◌, ℤ, pos, negsuc, List, [], ◌∷◌, map, Option, Some, true, false, refl}
use Rattle.cx_grid.specs.declared.boxes.Point.{Point}
use Rattle.cx_grid.specs.declared.shapes.Shape.{Shape}
use Rattle.cx_grid.specs.Boxes.{points_in}
use Rattle.cx_grid.specs.Grid.{whole}
use Rattle.cx_grid.specs.Windows.{window}
use Rattle.cx_rule.specs.Seen.{Seen}
use Rattle.cx_thorn_ca.specs.Automaton.{ca_init_rule, ca_step_rule}
use Rattle.cx_thorn_ca.specs.Life.{life_step_rule}

abbrev ring : Shape
ring = record {
  dims = 1;
  n = record { x = pos 8; y = pos 1; z = pos 1 };
  ghost_ = record { x = pos 1; y = pos 0; z = pos 0 };
  periodic = true ∷ false ∷ false ∷ [];
}

abbrev seen : List ℤ → Point → Seen
seen row p = record { dims = 1; reaches = 1 ∷ []; values = window ring row p 1 }

abbrev stepped : ℤ → List ℤ → List (Option (List ℤ))
stepped rule row =
    map (λ p. ca_step_rule (seen row p)
    (record { at = p; shape = ring; iteration = 1; params = rule ∷ [] })) (points_in (whole ring))

abbrev begun : ℤ → ℤ → List (Option (List ℤ))
begun seed start =
    map (λ p. ca_init_rule (record { dims = 1; reaches = []; values = [] })
    (record { at = p; shape = ring; iteration = 0; params = seed ∷ start ∷ [] }))
    (points_in (whole ring))

abbrev some_of : List ℤ → List (Option (List ℤ))
some_of row = map (λ cell. Some (cell ∷ [])) row

start : begun (negsuc 0) (pos 3)
    ≡ some_of (pos 0 ∷ pos 0 ∷ pos 0 ∷ pos 1 ∷ pos 0 ∷ pos 0 ∷ pos 0 ∷ pos 0 ∷ [])
start = refl

first : stepped (pos 90) (pos 0 ∷ pos 0 ∷ pos 0 ∷ pos 1 ∷ pos 0 ∷ pos 0 ∷ pos 0 ∷ pos 0 ∷ [])
    ≡ some_of (pos 0 ∷ pos 0 ∷ pos 1 ∷ pos 0 ∷ pos 1 ∷ pos 0 ∷ pos 0 ∷ pos 0 ∷ [])
first = refl

-- the ring closes: rule 2 moves a cell to the left, from the first place to the last
around : stepped (pos 2) (pos 1 ∷ pos 0 ∷ pos 0 ∷ pos 0 ∷ pos 0 ∷ pos 0 ∷ pos 0 ∷ pos 0 ∷ [])
    ≡ some_of (pos 0 ∷ pos 0 ∷ pos 0 ∷ pos 0 ∷ pos 0 ∷ pos 0 ∷ pos 0 ∷ pos 1 ∷ [])
around = refl

-- the next of the middle one of nine cells, with births at 3 and survivals at 2 and 3
abbrev next_life : List ℤ → Option (List ℤ)
next_life cells =
    life_step_rule (record { dims = 2; reaches = 1 ∷ []; values = cells })
    (record {
      at = record { x = pos 0; y = pos 0; z = pos 0 };
      shape = ring;
      iteration = 1;
      params = pos 12 ∷ pos 8 ∷ [];
    })

born : next_life (pos 1 ∷ pos 1 ∷ pos 1 ∷ pos 0 ∷ pos 0 ∷ pos 0 ∷ pos 0 ∷ pos 0 ∷ pos 0 ∷ [])
    ≡ Some (pos 1 ∷ [])
born = refl

survives : next_life (pos 0 ∷ pos 0 ∷ pos 0 ∷ pos 1 ∷ pos 1 ∷ pos 1 ∷ pos 0 ∷ pos 0 ∷ pos 0 ∷ [])
    ≡ Some (pos 1 ∷ [])
survives = refl

crowded : next_life (pos 1 ∷ pos 1 ∷ pos 1 ∷ pos 1 ∷ pos 1 ∷ pos 0 ∷ pos 0 ∷ pos 0 ∷ pos 0 ∷ [])
    ≡ Some (pos 0 ∷ [])
crowded = refl

not_born_of_two : next_life
    (pos 1 ∷ pos 0 ∷ pos 0 ∷ pos 0 ∷ pos 0 ∷ pos 0 ∷ pos 0 ∷ pos 0 ∷ pos 1 ∷ []) ≡ Some (pos 0 ∷ [])
not_born_of_two = refl
