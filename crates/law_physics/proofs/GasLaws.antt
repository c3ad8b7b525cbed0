-- The number of particles and their momenta stay.
use Rattle.std.proofs.Common.{◌≡◌, ℕ, zero, suc, ◌+◌, ◌<◌, ◌/◌, ◌^◌, inl, inr, arith, refl, sym, ap, ◌∙◌, subst, Bool, true, false, not, ◌&&◌, ◌||◌, ℤ, pos, negsuc, ◌+ℤ◌, ◌-ℤ◌, int_lt, int_le, List, [], ◌∷◌, map, Option, Some, is_some, nat_lt}
use Rattle.std.specs.Prelude.{if◌then◌else◌}
use Rattle.std.proofs.lemmas.Int.{ints}
use Rattle.std.proofs.lemmas.Bool.{cases_lt, ltb-true}
use Rattle.std.specs.Int.{cast_unsigned, w64}
use Rattle.std.proofs.Math.Nat.{mod-lt}
use Rattle.cx_grid.specs.declared.boxes.Point.{Point}
use Rattle.cx_grid.specs.declared.shapes.Shape.{Shape}
use Rattle.cx_grid.specs.Boxes.{IsIn, IsOn, along, shifted, point_count}
use Rattle.cx_grid.specs.Grid.{IsShape, whole, is_periodic, is_boundary, in_face, wrap, at}
use Rattle.cx_plan.specs.declared.variable.VarId.{VarId}
use Rattle.cx_plan.specs.declared.item.Region.TheVariants.{Everywhere, Interior}
use Rattle.cx_plan.specs.declared.item.ItemKind.TheVariants.{Sum}
use Rattle.cx_plan.specs.declared.item.Item.{Item}
use Rattle.cx_plan.specs.Setups.{Setup}
use Rattle.cx_rule.specs.Numbers.{bit_of}
use Rattle.cx_rule.specs.Routine.{Rule}
use Rattle.cx_rule.specs.States.{State, level_of}
use Rattle.cx_rule.specs.Sweeps.{place_at, if_fit, number_or, in_region}
use Rattle.cx_model.specs.States.{IsState}
use Rattle.cx_model.specs.Turns.{values_of, reduced, turn}
use Rattle.cx_thorn_physics.specs.Gas.{east, north, west, south, cell_of, turned, gas_step_rule, number_of, momentum_x_of, momentum_y_of}
use Rattle.cx_thorn_physics.specs.Offsets.{step}
use Rattle.law_physics.specs.Steps.{touch_of, IsField, measured}
use Rattle.law_physics.specs.Gas.{IsPeriodic, IsGasStep, ParticlesAreKept}
use Rattle.law_physics.proofs.GridTotals.{point_of, grid_total, grid_same, grid_plus, grid_less, on_grid, sum_of_measures, sum_of_measured}
use Rattle.law_physics.proofs.Rings.{Direction, direction_x, direction_y, still, there_and_back, wrap_beside}
use Rattle.law_physics.proofs.Turns.{Swept, given, swept_one, level_swept, fit_one, value_wrapped, value_at, given_at, gives_at}
use Rattle.law_physics.proofs.Seen.{one_seen, up_by, arriving_seen}

-- ---- one cell

abbrev bit : Bool → ℕ
bit true = 1
bit false = 0

-- a number that is 0 or 1
record IsBit (n : ℕ) : Type 0 where
  set : Bool
  is : n ≡ bit set

as_bit : (n : ℕ) → n < 2 → IsBit n
as_bit zero h = record { set = false; is = refl }
as_bit (suc zero) h = record { set = true; is = refl }
as_bit (suc (suc n)) h = absurd (omega (arith, h))

bit_below : (number : ℤ) (k : ℕ) → bit_of number k < 2
bit_below number k = mod-lt (cast_unsigned w64 number / 2 ^ k) (omega arith)

-- particles that come to a cell and turn there are as many, with the same momenta
pub record Turns (e n w s : ℕ) : Type 0 where
  pub number : number_of (pos (turned (cell_of e n w s))) ≡ pos (e + n + w + s)
  pub x : momentum_x_of (pos (turned (cell_of e n w s))) ≡ pos e -ℤ pos w
  pub y : momentum_y_of (pos (turned (cell_of e n w s))) ≡ pos n -ℤ pos s

turns : (e n w s : Bool) → Turns (bit e) (bit n) (bit w) (bit s)
turns false false false false = record { number = refl; x = refl; y = refl }
turns false false false true = record { number = refl; x = refl; y = refl }
turns false false true false = record { number = refl; x = refl; y = refl }
turns false false true true = record { number = refl; x = refl; y = refl }
turns false true false false = record { number = refl; x = refl; y = refl }
turns false true false true = record { number = refl; x = refl; y = refl }
turns false true true false = record { number = refl; x = refl; y = refl }
turns false true true true = record { number = refl; x = refl; y = refl }
turns true false false false = record { number = refl; x = refl; y = refl }
turns true false false true = record { number = refl; x = refl; y = refl }
turns true false true false = record { number = refl; x = refl; y = refl }
turns true false true true = record { number = refl; x = refl; y = refl }
turns true true false false = record { number = refl; x = refl; y = refl }
turns true true false true = record { number = refl; x = refl; y = refl }
turns true true true false = record { number = refl; x = refl; y = refl }
turns true true true true = record { number = refl; x = refl; y = refl }

turns_by : (e n w s : ℕ) → IsBit e → IsBit n → IsBit w → IsBit s → Turns e n w s
turns_by e n w s a b c d =
    subst (λ k. Turns k n w s) (sym a.is)
    (subst (λ k. Turns (bit a.set) k w s) (sym b.is)
    (subst (λ k. Turns (bit a.set) (bit b.set) k s) (sym c.is)
    (subst (λ k. Turns (bit a.set) (bit b.set) (bit c.set) k) (sym d.is)
    (turns a.set b.set c.set d.set))))

turns_cells : (left below right above : ℤ)
    → Turns (east left) (north below) (west right) (south above)
turns_cells left below right above =
    turns_by _ _ _ _ (as_bit _ (bit_below left 0)) (as_bit _ (bit_below below 1))
    (as_bit _ (bit_below right 2)) (as_bit _ (bit_below above 3))

-- ---- a periodic grid

no_face_flat : (b : Bool) (n g c : ℤ) → n ≡ pos 1 → g ≡ pos 0 → IsOn (pos 0) n c
    → (not b && (int_lt c g || int_le (n -ℤ g) c)) ≡ false
no_face_flat b n g (pos zero) one none on = rw (one, none) (none_of b)
  where
    none_of : (b : Bool) → (not b && false) ≡ false
    none_of true = refl
    none_of false = refl
no_face_flat b n g (pos (suc c)) one none on = absurd (omega (arith, ints, one, on.below))
no_face_flat b n g (negsuc c) one none on = absurd (omega (arith, ints, on.from))

no_face_round : (n g c : ℤ) (b : Bool) → b ≡ true
    → (not b && (int_lt c g || int_le (n -ℤ g) c)) ≡ false
no_face_round n g c b round = ap (λ b. not b && (int_lt c g || int_le (n -ℤ g) c)) round

no_face_x : (s : Shape) (p : Point) → IsShape s → IsPeriodic s → in_face s 0 p.x ≡ false
no_face_x s p shape periodic =
    no_face_round s.n.x s.ghost_.x p.x (is_periodic s 0)
    (periodic 0 (omega (arith, shape.some)))

no_face_y : (s : Shape) (p : Point) → IsShape s → IsPeriodic s → IsIn (whole s) p
    → in_face s 1 p.y ≡ false
no_face_y s p shape periodic h =
    elim (cases_lt 1 s.dims) [
      | inl has ↦ no_face_round s.n.y s.ghost_.y p.y (is_periodic s 1) (periodic 1 has)
      | inr few ↦
          let none = shape.no_y (omega (arith, few)) in
          no_face_flat (is_periodic s 1) s.n.y s.ghost_.y p.y none.one none.no_ghosts h.y
    ]

no_face_z : (s : Shape) (p : Point) → IsShape s → IsPeriodic s → IsIn (whole s) p
    → in_face s 2 p.z ≡ false
no_face_z s p shape periodic h =
    elim (cases_lt 2 s.dims) [
      | inl has ↦ no_face_round s.n.z s.ghost_.z p.z (is_periodic s 2) (periodic 2 has)
      | inr few ↦
          let none = shape.no_z (omega (arith, few)) in
          no_face_flat (is_periodic s 2) s.n.z s.ghost_.z p.z none.one none.no_ghosts h.z
    ]

pub no_boundary : (s : Shape) (p : Point) → IsShape s → IsPeriodic s → IsIn (whole s) p
    → is_boundary s p ≡ false
no_boundary s p shape periodic h =
    ap (λ b. b || (in_face s 1 p.y || in_face s 2 p.z)) (no_face_x s p shape periodic)
    ∙ ap (λ b. b || in_face s 2 p.z) (no_face_y s p shape periodic h)
    ∙ no_face_z s p shape periodic h

-- a function of points that a periodic grid takes for one another
abbrev pub Wraps : Shape → (Point → ℤ) → Type 0
Wraps s f = (p q : Point) → wrap s p ≡ wrap s q → f p ≡ f q

-- moved along a periodic direction, the grid has the same sum
moved_down : (s : Shape) (d : ℕ) (f : Point → ℤ) → is_periodic s d ≡ true → Direction s d
    → Wraps s f → grid_total s (λ p. f (shifted p (step d (negsuc 0)))) ≡ grid_total s f
moved_down s d f round direction wraps =
    direction.turned (λ p. f (shifted p (step d (negsuc 0)))) f
    (record {
      next = λ p h. ap f (there_and_back p d (pos 1));
      first = λ p h none. wraps _ _ (sym (direction.round p round));
    })

moved_up : (s : Shape) (d : ℕ) (f : Point → ℤ) → IsShape s → is_periodic s d ≡ true
    → Direction s d → Wraps s f
    → grid_total s (λ p. f (shifted p (step d (pos 1)))) ≡ grid_total s f
moved_up s d f shape round direction wraps =
    sym (direction.turned f (λ p. f (shifted p (step d (pos 1))))
    (record {
      next = λ p h. refl;
      first = λ p h none.
          ap f (sym (there_and_back p d (negsuc 0)))
          ∙ wraps _ _ (sym (wrap_beside s
          (shifted p (step d (along s.n d -ℤ pos 1))) (shifted p (step d (negsuc 0)))
          (step d (pos 1)) shape (direction.round p round)));
    }))

-- along y, where the grid has that direction
moved_y : (s : Shape) (f : Point → ℤ) (y : ℤ) → IsShape s → IsPeriodic s
    → (is_periodic s 1 ≡ true
    → grid_total s (λ p. f (shifted p (step 1 y))) ≡ grid_total s f)
    → grid_total s (λ p. f (shifted p (up_by s.dims y))) ≡ grid_total s f
moved_y s f y shape periodic moves = by (nat_lt 1 s.dims) refl
  where
    by : (b : Bool) → nat_lt 1 s.dims ≡ b
        → grid_total s (λ p. f (shifted p (up_by s.dims y))) ≡ grid_total s f
    by true has =
        ap (λ (b : Bool). grid_total s (λ p. f (shifted p (step 1 (if b then y else pos 0))))) has
        ∙ moves (periodic 1 (ltb-true 1 s.dims has))
    by false lacks =
        ap (λ (b : Bool). grid_total s (λ p. f (shifted p (step 1 (if b then y else pos 0))))) lacks
        ∙ grid_same s (λ p. f (shifted p (step 1 (pos 0)))) f
        (λ a b c on. ap f (still (point_of a b c) 1))

-- ---- a step

abbrev field : Setup → State → VarId → Point → ℤ
field setup state v p = values_of setup state v 0 p

-- the particles of each way over the grid
abbrev easts : (Point → ℤ) → Point → ℤ
easts cells p = pos (east (cells p))

abbrev norths : (Point → ℤ) → Point → ℤ
norths cells p = pos (north (cells p))

abbrev wests : (Point → ℤ) → Point → ℤ
wests cells p = pos (west (cells p))

abbrev souths : (Point → ℤ) → Point → ℤ
souths cells p = pos (south (cells p))

-- what a step gives at a point of a periodic grid
abbrev comes_to : (dims : ℕ) (cells : Point → ℤ) → Point → ℤ
comes_to dims cells p =
    pos (turned (cell_of (east (cells (shifted p (step 0 (negsuc 0)))))
    (north (cells (shifted p (up_by dims (negsuc 0)))))
    (west (cells (shifted p (step 0 (pos 1)))))
    (south (cells (shifted p (up_by dims (pos 1)))))))

turns_at : (dims : ℕ) (cells : Point → ℤ) (p : Point)
    → Turns (east (cells (shifted p (step 0 (negsuc 0)))))
    (north (cells (shifted p (up_by dims (negsuc 0)))))
    (west (cells (shifted p (step 0 (pos 1))))) (south (cells (shifted p (up_by dims (pos 1)))))
turns_at dims cells p =
    turns_cells (cells (shifted p (step 0 (negsuc 0)))) (cells (shifted p (up_by dims (negsuc 0))))
    (cells (shifted p (step 0 (pos 1)))) (cells (shifted p (up_by dims (pos 1))))

-- the sums over the grid of those that came are those of all there were
record Arrived (s : Shape) (cells : Point → ℤ) : Type 0 where
  to_east : grid_total s (λ p. easts cells (shifted p (step 0 (negsuc 0))))
      ≡ grid_total s (easts cells)
  to_north : grid_total s (λ p. norths cells (shifted p (up_by s.dims (negsuc 0))))
      ≡ grid_total s (norths cells)
  to_west : grid_total s (λ p. wests cells (shifted p (step 0 (pos 1))))
      ≡ grid_total s (wests cells)
  to_south : grid_total s (λ p. souths cells (shifted p (up_by s.dims (pos 1))))
      ≡ grid_total s (souths cells)

arrived : (s : Shape) (cells : Point → ℤ) → IsShape s → IsPeriodic s → Wraps s cells
    → Arrived s cells
arrived s cells shape periodic wraps =
    let first = periodic 0 (omega (arith, shape.some)) in
    record {
      to_east = moved_down s 0 (easts cells) first (direction_x s shape)
          (λ p q one. ap (λ c. pos (east c)) (wraps p q one));
      to_north = moved_y s (norths cells) (negsuc 0) shape periodic
          (λ round. moved_down s 1 (norths cells) round (direction_y s shape)
          (λ p q one. ap (λ c. pos (north c)) (wraps p q one)));
      to_west = moved_up s 0 (wests cells) shape first (direction_x s shape)
          (λ p q one. ap (λ c. pos (west c)) (wraps p q one));
      to_south = moved_y s (souths cells) (pos 1) shape periodic
          (λ round. moved_up s 1 (souths cells) shape round (direction_y s shape)
          (λ p q one. ap (λ c. pos (south c)) (wraps p q one)));
    }

four : (a b c d : ℕ) → pos (a + b + c + d) ≡ pos a +ℤ pos b +ℤ pos c +ℤ pos d
four a b c d = omega (arith, ints)

-- a sum of four functions
grid_four : (s : Shape) (a b c d : Point → ℤ)
    → grid_total s (λ p. a p +ℤ b p +ℤ c p +ℤ d p)
    ≡ grid_total s a +ℤ grid_total s b +ℤ grid_total s c +ℤ grid_total s d
grid_four s a b c d =
    grid_plus s (λ p. a p +ℤ b p +ℤ c p) d
    ∙ ap (λ n. n +ℤ grid_total s d) (grid_plus s (λ p. a p +ℤ b p) c)
    ∙ ap (λ n. n +ℤ grid_total s c +ℤ grid_total s d) (grid_plus s a b)

same_four : (a b c d e f g h : ℤ) → a ≡ b → c ≡ d → e ≡ f → g ≡ h
    → a +ℤ c +ℤ e +ℤ g ≡ b +ℤ d +ℤ f +ℤ h
same_four a b c d e f g h p q r t = rw (p, q, r, t) refl

same_two : (a b c d : ℤ) → a ≡ b → c ≡ d → a -ℤ c ≡ b -ℤ d
same_two a b c d p q = rw (p, q) refl

numbers_kept : (s : Shape) (cells : Point → ℤ) → Arrived s cells
    → grid_total s (λ p. number_of (comes_to s.dims cells p))
    ≡ grid_total s (λ p. number_of (cells p))
numbers_kept s cells all =
    grid_same s (λ p. number_of (comes_to s.dims cells p))
    (λ p. easts cells (shifted p (step 0 (negsuc 0)))
    +ℤ norths cells (shifted p (up_by s.dims (negsuc 0)))
    +ℤ wests cells (shifted p (step 0 (pos 1))) +ℤ souths cells (shifted p (up_by s.dims (pos 1))))
    (λ a b c on.
    (turns_at s.dims cells (point_of a b c)).number
    ∙ four (east (cells (shifted (point_of a b c) (step 0 (negsuc 0)))))
    (north (cells (shifted (point_of a b c) (up_by s.dims (negsuc 0)))))
    (west (cells (shifted (point_of a b c) (step 0 (pos 1)))))
    (south (cells (shifted (point_of a b c) (up_by s.dims (pos 1))))))
    ∙ grid_four s (λ p. easts cells (shifted p (step 0 (negsuc 0))))
    (λ p. norths cells (shifted p (up_by s.dims (negsuc 0))))
    (λ p. wests cells (shifted p (step 0 (pos 1))))
    (λ p. souths cells (shifted p (up_by s.dims (pos 1))))
    ∙ same_four _ _ _ _ _ _ _ _ all.to_east all.to_north all.to_west all.to_south
    ∙ sym (grid_four s (easts cells) (norths cells) (wests cells) (souths cells))
    ∙ grid_same s
    (λ p. easts cells p +ℤ norths cells p +ℤ wests cells p +ℤ souths cells p)
    (λ p. number_of (cells p))
    (λ a b c on.
    sym (four (east (cells (point_of a b c))) (north (cells (point_of a b c)))
    (west (cells (point_of a b c))) (south (cells (point_of a b c)))))

momenta_x_kept : (s : Shape) (cells : Point → ℤ) → Arrived s cells
    → grid_total s (λ p. momentum_x_of (comes_to s.dims cells p))
    ≡ grid_total s (λ p. momentum_x_of (cells p))
momenta_x_kept s cells all =
    grid_same s (λ p. momentum_x_of (comes_to s.dims cells p))
    (λ p. easts cells (shifted p (step 0 (negsuc 0))) -ℤ wests cells (shifted p (step 0 (pos 1))))
    (λ a b c on. (turns_at s.dims cells (point_of a b c)).x)
    ∙ grid_less s (λ p. easts cells (shifted p (step 0 (negsuc 0))))
    (λ p. wests cells (shifted p (step 0 (pos 1))))
    ∙ same_two _ _ _ _ all.to_east all.to_west
    ∙ sym (grid_less s (easts cells) (wests cells))

momenta_y_kept : (s : Shape) (cells : Point → ℤ) → Arrived s cells
    → grid_total s (λ p. momentum_y_of (comes_to s.dims cells p))
    ≡ grid_total s (λ p. momentum_y_of (cells p))
momenta_y_kept s cells all =
    grid_same s (λ p. momentum_y_of (comes_to s.dims cells p))
    (λ p. norths cells (shifted p (up_by s.dims (negsuc 0)))
    -ℤ souths cells (shifted p (up_by s.dims (pos 1))))
    (λ a b c on. (turns_at s.dims cells (point_of a b c)).y)
    ∙ grid_less s (λ p. norths cells (shifted p (up_by s.dims (negsuc 0))))
    (λ p. souths cells (shifted p (up_by s.dims (pos 1))))
    ∙ same_two _ _ _ _ all.to_north all.to_south
    ∙ sym (grid_less s (norths cells) (souths cells))

-- ---- the turn

abbrev next_at : Setup → (Point → Option (List ℤ)) → (Point → ℤ) → Point → ℤ
next_at setup numbers old p =
    if in_region setup.shape Interior p then number_or (numbers p) 0 (old p) else old p

gives_cell : (setup : Setup) (rules : List Rule) (x : Item) (cells : VarId) (before : State)
    (iteration : ℕ) (p : Point) → IsShape setup.shape → IsGasStep setup rules x cells
    → given setup rules x before iteration p
    ≡ if_fit setup x.writes (Some (comes_to setup.shape.dims (field setup before cells) p ∷ []))
gives_cell setup rules x cells before iteration p shape is =
    given_at setup rules x gas_step_rule (touch_of cells Everywhere 1 ∷ []) cells before iteration p
    is.item
    ∙ ap (λ w. if_fit setup x.writes (gas_step_rule w (place_at setup x iteration p)))
    (one_seen setup x (values_of setup before) p cells is.item.read)
    ∙ ap (λ n. if_fit setup x.writes (Some (pos (turned n) ∷ [])))
    (arriving_seen setup.shape.dims (λ o. field setup before cells (shifted p o))
    shape.some shape.most)

gas_next : (setup : Setup) (rules : List Rule) (x : Item) (cells : VarId) (before after : State)
    (iteration : ℕ) (p : Point)
    → IsShape setup.shape → IsPeriodic setup.shape → IsGasStep setup rules x cells
    → Swept (whole setup.shape) (values_of setup before) (in_region setup.shape Interior)
    (given setup rules x before iteration) (touch_of cells Interior 0) before after
    → IsIn (whole setup.shape) p
    → next_at setup (given setup rules x before iteration) (field setup before cells) p
    ≡ comes_to setup.shape.dims (field setup before cells) p
gas_next setup rules x cells before after iteration p shape periodic is swept h =
    let inner = no_boundary setup.shape p shape periodic h in
    let gives = gives_cell setup rules x cells before iteration p shape is in
    let some = subst (λ ns. is_some ns ≡ true) gives
    (gives_at setup (given setup rules x before iteration) cells before after p swept h inner) in
    ap (λ (b : Bool). if not b then number_or (given setup rules x before iteration p) 0
    (field setup before cells p) else field setup before cells p) inner
    ∙ ap (λ ns. number_or ns 0 (field setup before cells p)) gives
    ∙ fit_one setup x.writes (comes_to setup.shape.dims (field setup before cells) p)
    (field setup before cells p) some

-- what is measured after a step, and before it
measured_after : (setup : Setup) (rules : List Rule) (x : Item) (cells : VarId)
    (before after : State) (iteration : ℕ) (measure : ℤ → ℤ)
    → IsShape setup.shape → IsPeriodic setup.shape → IsGasStep setup rules x cells
    → IsState setup before → turn setup rules x before iteration ≡ Some after
    → measured measure after cells
    ≡ grid_total setup.shape
    (λ p. measure (comes_to setup.shape.dims (field setup before cells) p))
measured_after setup rules x cells before after iteration measure shape periodic is state comes =
    let swept = swept_one setup rules x gas_step_rule (touch_of cells Everywhere 1 ∷ []) cells
    Interior before after iteration is.item comes in
    let next = next_at setup (given setup rules x before iteration) (field setup before cells) in
    ap (λ level. reduced Sum (map measure level))
    (level_swept setup (given setup rules x before iteration) cells Interior before after is.stored
    state swept)
    ∙ sum_of_measures setup.shape measure next
    ∙ grid_same setup.shape (λ p. measure (next p))
    (λ p. measure (comes_to setup.shape.dims (field setup before cells) p))
    (λ a b c on.
    ap measure
    (gas_next setup rules x cells before after iteration (point_of a b c) shape periodic is swept
    (on_grid setup.shape a b c shape on)))

measured_before : (setup : Setup) (cells : VarId) (before : State) (measure : ℤ → ℤ)
    → IsShape setup.shape → IsField setup cells → IsState setup before
    → measured measure before cells
    ≡ grid_total setup.shape (λ p. measure (field setup before cells p))
measured_before setup cells before measure shape is state =
    sum_of_measured setup.shape measure (level_of before cells 0) shape
    (state.numbers cells 0 is.var is.stored
    ∙ ap (λ (b : Bool). if b then 1 else point_count (whole setup.shape)) is.grid)
    ∙ grid_same setup.shape (λ p. measure (at setup.shape (level_of before cells 0) p))
    (λ p. measure (field setup before cells p))
    (λ a b c on. ap measure (value_at setup before cells (point_of a b c) is.grid))

pub particles_kept : (setup : Setup) (rules : List Rule) → IsShape setup.shape
    → IsPeriodic setup.shape → ParticlesAreKept setup rules
particles_kept setup rules shape periodic x cells before after iteration is state comes =
    let all = arrived setup.shape (field setup before cells) shape periodic
    (λ p q one. value_wrapped setup before cells p q one) in
    record {
      number =
          measured_after setup rules x cells before after iteration number_of shape periodic is
          state comes
          ∙ numbers_kept setup.shape (field setup before cells) all
          ∙ sym (measured_before setup cells before number_of shape is.stored state);
      x =
          measured_after setup rules x cells before after iteration momentum_x_of shape periodic is
          state comes
          ∙ momenta_x_kept setup.shape (field setup before cells) all
          ∙ sym (measured_before setup cells before momentum_x_of shape is.stored state);
      y =
          measured_after setup rules x cells before after iteration momentum_y_of shape periodic is
          state comes
          ∙ momenta_y_kept setup.shape (field setup before cells) all
          ∙ sym (measured_before setup cells before momentum_y_of shape is.stored state);
    }
