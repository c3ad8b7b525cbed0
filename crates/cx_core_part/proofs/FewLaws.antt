-- The faces of different grid variables have fewer than 2^32 values together.
use Rattle.std.proofs.Common.{◌≡◌, ◌≢◌, ℕ, zero, suc, ◌+◌, ◌*◌, ◌^◌, ◌<◌, ◌≤◌, arith, Bool, true, false, not, cond, eqb, refl, sym, ap, ◌∙◌, subst, ℤ, pos, ◌+ℤ◌, ◌-ℤ◌, ◌≤ℤ◌, ◌<ℤ◌, List, [], ◌∷◌, length, map, get_or}
use Rattle.std.specs.Int.{int_gap}
use Rattle.std.specs.List.{filter}
use Rattle.std.proofs.Math.Nat.{mul-le-mul_left, mul-le-mul_right}
use Rattle.std.proofs.lemmas.Bool.{eqb-true}
use Rattle.std.proofs.lemmas.Int.{ints}
use Rattle.std.proofs.lemmas.List.Sums.{sum_by-cons}
use Rattle.cx_grid.specs.declared.boxes.Box3.{Box3}
use Rattle.cx_grid.specs.declared.shapes.Shape.{Shape}
use Rattle.cx_grid.specs.declared.shapes.Side.{Side}
use Rattle.cx_grid.specs.declared.shapes.Side.TheVariants.{Low, High}
use Rattle.cx_grid.specs.Boxes.{along, extent, point_count}
use Rattle.cx_grid.specs.Grid.{whole}
use Rattle.cx_grid.proofs.Places.{gap_up}
use Rattle.cx_plan.specs.declared.variable.VarId.{VarId}
use Rattle.cx_plan.specs.declared.variable.VarInfo.{VarInfo}
use Rattle.cx_plan.specs.Lookups.{no_variable}
use Rattle.cx_plan.specs.Whole.{grid_levels}
use Rattle.cx_cut.specs.Cuts.{face}
use Rattle.cx_cut.proofs.Boxed.{by_direction}
use Rattle.cx_field.specs.Patches.{IsPart}
use Rattle.cx_field.proofs.FaceLaws.{spans}
use Rattle.cx_field.proofs.PartLaws.{product, own_gap}
use Rattle.law_parts.proofs.CountLaws.{sum_add, sum_none, sum_one}
use Rattle.cx_core_part.proofs.Known.{AreDifferent}
use Rattle.law_network.specs.Machine.{sum_below}

-- ---- points of a face

cubed : (x y z : ℕ) → 3 * x * (3 * y) * (3 * z) ≡ 27 * (x * y * z)
cubed x y z = grind arith

-- one direction, of which a part owns those from a on and below b, and holds those from l on and
-- below h
local_three : (g a b l h : ℤ) → pos 0 ≤ℤ g → a <ℤ b → (a +ℤ g) ≤ℤ b → l ≤ℤ a → b ≤ℤ h
    → (a -ℤ g) ≤ℤ l → h ≤ℤ (b +ℤ g) → int_gap l h ≤ 3 * int_gap a b
local_three g a b l h ghosts some wide low high near far =
    let own : a ≤ℤ b = omega (arith, ints, some) in
    let all : l ≤ℤ h = omega (arith, ints, some, low, high) in
    omega (arith, ints, gap_up a b own, gap_up l h all, wide, near, far)

low_three : (g a b : ℤ) → pos 0 ≤ℤ g → a <ℤ b → (a +ℤ g) ≤ℤ b → int_gap a (a +ℤ g) ≤ 3 * int_gap a b
low_three g a b ghosts some wide =
    let own : a ≤ℤ b = omega (arith, ints, some) in
    let layer : a ≤ℤ (a +ℤ g) = omega (arith, ints, ghosts) in
    omega (arith, ints, gap_up a b own, gap_up a (a +ℤ g) layer, wide)

high_three : (g a b : ℤ) → pos 0 ≤ℤ g → a <ℤ b → (a +ℤ g) ≤ℤ b
    → int_gap (b -ℤ g) b ≤ 3 * int_gap a b
high_three g a b ghosts some wide =
    let own : a ≤ℤ b = omega (arith, ints, some) in
    let layer : (b -ℤ g) ≤ℤ b = omega (arith, ints, ghosts) in
    omega (arith, ints, gap_up a b own, gap_up (b -ℤ g) b layer, wide)

module _ (s : Shape) (own near : Box3) (h : IsPart s own near) where
  abbrev O : ℕ → ℕ
  O e = int_gap (along own.low e) (along own.high e)

  some_points : (e : ℕ) → e < 3 → along own.low e <ℤ along own.high e
  some_points e l = by_direction (λ e. along own.low e <ℤ along own.high e)
      h.x.some h.y.some h.z.some e l

  near_three : (e : ℕ) → e < 3 → int_gap (along near.low e) (along near.high e) ≤ 3 * O e
  near_three e l =
      let r = spans s own near h e l in
      local_three (along s.ghost_ e) _ _ _ _ r.ghosts (some_points e l)
      r.wide r.low r.high r.near_low r.near_high

  layer_low : (e : ℕ) → e < 3
      → int_gap (along own.low e) (along own.low e +ℤ along s.ghost_ e) ≤ 3 * O e
  layer_low e l = let r = spans s own near h e l in
      low_three (along s.ghost_ e) _ _ r.ghosts (some_points e l) r.wide

  layer_high : (e : ℕ) → e < 3
      → int_gap (along own.high e -ℤ along s.ghost_ e) (along own.high e) ≤ 3 * O e
  layer_high e l = let r = spans s own near h e l in
      high_three (along s.ghost_ e) _ _ r.ghosts (some_points e l) r.wide

  own_three : (e : ℕ) → O e ≤ 3 * O e
  own_three e = omega arith

  cube : (x y z : ℕ) → x ≤ 3 * O 0 → y ≤ 3 * O 1 → z ≤ 3 * O 2
      → x * y * z ≤ 27 * point_count (whole s)
  cube x y z a b c =
      let all = product x y z (3 * O 0) (3 * O 1) (3 * O 2) a b c in
      let same = cubed (O 0) (O 1) (O 2) in
      let few = product (O 0) (O 1) (O 2) (extent (whole s) 0) (extent (whole s) 1)
      (extent (whole s) 2)
      (own_gap s.n.x own.low.x own.high.x h.x.from h.x.to h.x.some)
      (own_gap s.n.y own.low.y own.high.y h.y.from h.y.to h.y.some)
      (own_gap s.n.z own.low.z own.high.z h.z.from h.z.to h.z.some) in
      omega (arith, all, same, few)

  pub face_few : (d : ℕ) → d < 3 → (side : Side)
      → point_count (face s own near d side) ≤ 27 * point_count (whole s)
  face_few d l Low =
      by_direction (λ d. point_count (face s own near d Low) ≤ 27 * point_count (whole s))
      (cube _ _ _ (layer_low 0 (omega arith)) (own_three 1) (own_three 2))
      (cube _ _ _ (near_three 0 (omega arith)) (layer_low 1 (omega arith)) (own_three 2))
      (cube _ _ _ (near_three 0 (omega arith)) (near_three 1 (omega arith))
      (layer_low 2 (omega arith))) d l
  face_few d l High =
      by_direction (λ d. point_count (face s own near d High) ≤ 27 * point_count (whole s))
      (cube _ _ _ (layer_high 0 (omega arith)) (own_three 1) (own_three 2))
      (cube _ _ _ (near_three 0 (omega arith)) (layer_high 1 (omega arith)) (own_three 2))
      (cube _ _ _ (near_three 0 (omega arith)) (near_three 1 (omega arith))
      (layer_high 2 (omega arith))) d l

-- ---- variables

-- how often a variable stands among some
abbrev occurs : ℕ → List VarId → ℕ
occurs i [] = 0
occurs i (v ∷ vs) = cond (eqb v.0 i) 1 0 + occurs i vs

all_occur : (n : ℕ) (vs : List VarId)
    → ((j : ℕ) → j < length vs → (get_or vs j (record { 0 = 0 })).0 < n)
    → length vs ≡ sum_below n (λ i. occurs i vs)
all_occur n [] h = sym (sum_none n)
all_occur n (v ∷ vs) h =
    let one = sum_one n v.0 (λ i. 1) (h 0 (omega arith)) in
    let rest = all_occur n vs (λ j l. h (suc j) (omega (arith, l))) in
    let both = sum_add n (λ i. cond (eqb v.0 i) 1 0) (λ i. occurs i vs) in
    omega (arith, one, rest, both)

tail_differs : (v : VarId) (vs : List VarId) → AreDifferent (v ∷ vs) → AreDifferent vs
tail_differs v vs h i j d l m = h (suc i) (suc j) d (omega (arith, l)) (omega (arith, m))

none_occurs : (i : ℕ) (vs : List VarId)
    → ((j : ℕ) → j < length vs → i ≢ (get_or vs j (record { 0 = 0 })).0) → occurs i vs ≡ 0
none_occurs i [] h = refl
none_occurs i (v ∷ vs) h =
    go (eqb v.0 i) refl (none_occurs i vs (λ j l. h (suc j) (omega (arith, l))))
  where
    go : (b : Bool) → eqb v.0 i ≡ b → occurs i vs ≡ 0 → cond (eqb v.0 i) 1 0 + occurs i vs ≡ 0
    go true e rest = absurd (h 0 (omega arith) (sym (eqb-true v.0 i e)))
    go false e rest = rw (e, rest) refl

-- different variables, each of some weight at least
occur_once : (weight : ℕ → ℕ) (i : ℕ) (vs : List VarId) → AreDifferent vs
    → ((j : ℕ) → j < length vs → 1 ≤ weight (get_or vs j (record { 0 = 0 })).0)
    → occurs i vs ≤ weight i
occur_once weight i [] differ h = omega arith
occur_once weight i (v ∷ vs) differ h =
    go (eqb v.0 i) refl (occur_once weight i vs (tail_differs v vs differ)
    (λ j l. h (suc j) (omega (arith, l))))
  where
    go : (b : Bool) → eqb v.0 i ≡ b → occurs i vs ≤ weight i
        → cond (eqb v.0 i) 1 0 + occurs i vs ≤ weight i
    go true e rest =
        let here : v.0 ≡ i = eqb-true v.0 i e in
        let none = none_occurs i vs
        (λ j l. subst (λ n. n ≢ (get_or vs j (record { 0 = 0 })).0) here
        (differ 0 (suc j) (record { 0 = 0 }) (omega arith) (omega (arith, l)))) in
        let some = subst (λ n. 1 ≤ weight n) here (h 0 (omega arith)) in
        rw (e, none) some
    go false e rest = rw e (omega (arith, rest))

sums_below : (n : ℕ) (f g : ℕ → ℕ) → ((i : ℕ) → f i ≤ g i) → sum_below n f ≤ sum_below n g
sums_below zero f g h = omega arith
sums_below (suc n) f g h = let rest = sums_below n f g h in let one = h n in
    omega (arith, rest, one)

sum_head : (n : ℕ) (f : ℕ → ℕ) → sum_below (suc n) f ≡ f 0 + sum_below n (λ i. f (suc i))
sum_head zero f = omega arith
sum_head (suc n) f = let rest = sum_head n f in omega (arith, rest)

abbrev pub weight_of : VarInfo → ℕ
weight_of x = cond x.scalar 0 x.levels

all_weights : (infos : List VarInfo)
    → sum_below (length infos) (λ i. weight_of (get_or infos i no_variable)) ≡ grid_levels infos
all_weights [] = refl
all_weights (x ∷ xs) = sum_head (length xs) (λ i. weight_of (get_or (x ∷ xs) i no_variable))
    ∙ ap (λ n. weight_of x + n) (all_weights xs) ∙ go x.scalar refl
  where
    go : (b : Bool) → x.scalar ≡ b → weight_of x + grid_levels xs ≡ grid_levels (x ∷ xs)
    go true e = rw e (omega arith)
    go false e =
        rw e (sym (sum_by-cons (λ n. n) x.levels
        (map (λ (v : VarInfo). v.levels) (filter (λ (v : VarInfo). not v.scalar) xs))))

-- different grid variables with a current level are no more than all levels
pub vars_few : (infos : List VarInfo) (vs : List VarId) → AreDifferent vs
    → ((j : ℕ) → j < length vs → (get_or vs j (record { 0 = 0 })).0 < length infos)
    → ((j : ℕ) → j < length vs
    → 1 ≤ weight_of (get_or infos (get_or vs j (record { 0 = 0 })).0 no_variable))
    → length vs ≤ grid_levels infos
vars_few infos vs differ below some =
    let all = all_occur (length infos) vs below in
    let few = sums_below (length infos) (λ i. occurs i vs)
    (λ i. weight_of (get_or infos i no_variable))
    (λ i. occur_once (λ j. weight_of (get_or infos j no_variable)) i vs differ some) in
    let levels = all_weights infos in
    omega (arith, all, few, levels)

-- ---- values

pub values_few : (n f w g : ℕ) → f ≤ 27 * w → n ≤ g → g * w ≤ 2 ^ 26 → n * f < 2 ^ 32
values_few n f w g few vars cells =
    let a : n * f ≤ n * (27 * w) = mul-le-mul_left n few in
    let b : n * (27 * w) ≡ 27 * (n * w) = grind arith in
    let c : n * w ≤ g * w = mul-le-mul_right w vars in
    omega (arith, a, b, c, cells)
