-- The boxes of a part.
use Rattle.std.proofs.Common.{◌≡◌, ℕ, zero, suc, ◌*◌, ◌≤◌, ◌^◌, Bool, true, false, arith, refl, sym, ap, ◌∙◌, subst, ℤ, pos, ◌+ℤ◌, ◌-ℤ◌, ◌≤ℤ◌, ◌<ℤ◌, List, [], ◌∷◌, length, map, replicate, mul-le-mul_left, mul_comm}
use Rattle.std.specs.Int.{int_gap}
use Rattle.std.proofs.lemmas.Int.{ints, clamps}
use Rattle.std.proofs.lemmas.List.{length-replicate}
use Rattle.cx_grid.specs.declared.boxes.Box3.{Box3}
use Rattle.cx_grid.specs.declared.shapes.Shape.{Shape}
use Rattle.cx_grid.specs.Boxes.{IsBox, IsSmall, extent, point_count}
use Rattle.cx_grid.specs.Grid.{is_periodic, whole}
use Rattle.cx_grid.proofs.Places.{gap_up}
use Rattle.cx_plan.specs.declared.variable.VarInfo.{VarInfo}
use Rattle.cx_cut.specs.Axis.{widened_from, widened_to}
use Rattle.cx_cut.specs.Cuts.{widened}
use Rattle.cx_rule.specs.Patches.{IsPart, IsPatch, bare, zeros, number_count}

-- one direction: the local span around an owned one
pub record IsAround (n g a b low high : ℤ) : Type 0 where
  pub low_from : (a -ℤ g) ≤ℤ low
  pub low_to : low ≤ℤ a
  pub high_from : b ≤ℤ high
  pub high_to : high ≤ℤ (b +ℤ g)

pub around : (ring : Bool) (n g a b : ℤ) → pos 0 ≤ℤ g → pos 0 ≤ℤ a → b ≤ℤ n
    → IsAround n g a b (widened_from ring g a) (widened_to ring n g b)
around true n g a b ghosts from to = record {
  low_from = omega (arith, ints, ghosts);
  low_to = omega (arith, ints, ghosts);
  high_from = omega (arith, ints, ghosts);
  high_to = omega (arith, ints, ghosts);
}
around false n g a b ghosts from to = record {
  low_from = omega (arith, ints, clamps, ghosts, from);
  low_to = omega (arith, ints, clamps, ghosts, from);
  high_from = omega (arith, ints, clamps, ghosts, to);
  high_to = omega (arith, ints, clamps, ghosts, to);
}

-- a local span is at most three times as long as the owned one
pub three : (n g a b low high : ℤ) → IsAround n g a b low high → a <ℤ b → (a +ℤ g) ≤ℤ b
    → int_gap low high ≤ 3 * int_gap a b
three n g a b low high r some wide =
    let own : a ≤ℤ b = omega (arith, ints, some) in
    let all : low ≤ℤ high = omega (arith, ints, some, r.low_to, r.high_from) in
    omega (arith, ints, gap_up a b own, gap_up low high all, r.low_from, r.high_to, wide)

pub own_gap : (n a b : ℤ) → pos 0 ≤ℤ a → b ≤ℤ n → a <ℤ b → int_gap a b ≤ int_gap (pos 0) n
own_gap n a b from to some =
    let own : a ≤ℤ b = omega (arith, ints, some) in
    let all : pos 0 ≤ℤ n = omega (arith, ints, some, from, to) in
    omega (arith, ints, gap_up a b own, gap_up (pos 0) n all, from, to)

-- products of three numbers
pub product : (a b c x y z : ℕ) → a ≤ x → b ≤ y → c ≤ z → a * b * c ≤ x * y * z
product a b c x y z ha hb hc =
    let i : a * b ≤ a * y = mul-le-mul_left a hb in
    let j : y * a ≤ y * x = mul-le-mul_left y ha in
    let k : a * b ≤ x * y = omega (arith, i, j, mul_comm a y, mul_comm y x) in
    let l : a * b * c ≤ a * b * z = mul-le-mul_left (a * b) hc in
    let m : z * (a * b) ≤ z * (x * y) = mul-le-mul_left z k in
    omega (arith, l, m, mul_comm (a * b) z, mul_comm z (x * y))

cubed : (x y z : ℕ) → 3 * x * (3 * y) * (3 * z) ≡ 27 * (x * y * z)
cubed x y z = grind arith

module _ (s : Shape) (own loc : Box3) (h : IsPart s own loc) where
  pub around_x : IsAround s.n.x s.ghost_.x own.low.x own.high.x (widened s own.low own.high).low.x
      (widened s own.low own.high).high.x
  around_x = around (is_periodic s 0)
      s.n.x s.ghost_.x own.low.x own.high.x h.shape.x.least_ghosts h.x.from h.x.to

  pub around_y : IsAround s.n.y s.ghost_.y own.low.y own.high.y (widened s own.low own.high).low.y
      (widened s own.low own.high).high.y
  around_y = around (is_periodic s 1)
      s.n.y s.ghost_.y own.low.y own.high.y h.shape.y.least_ghosts h.y.from h.y.to

  pub around_z : IsAround s.n.z s.ghost_.z own.low.z own.high.z (widened s own.low own.high).low.z
      (widened s own.low own.high).high.z
  around_z = around (is_periodic s 2)
      s.n.z s.ghost_.z own.low.z own.high.z h.shape.z.least_ghosts h.z.from h.z.to

  widened_box : IsBox (widened s own.low own.high)
  widened_box = record {
    x = let r = around_x in omega (arith, ints, r.low_to, r.high_from, h.x.some);
    y = let r = around_y in omega (arith, ints, r.low_to, r.high_from, h.y.some);
    z = let r = around_z in omega (arith, ints, r.low_to, r.high_from, h.z.some);
  }

  pub local_box : IsBox loc
  local_box = subst IsBox (sym h.local_is) widened_box

  own_few : point_count own ≤ 2 ^ 24
  own_few =
      let p = product (extent own 0) (extent own 1) (extent own 2) (extent (whole s) 0)
      (extent (whole s) 1) (extent (whole s) 2)
      (own_gap s.n.x own.low.x own.high.x h.x.from h.x.to h.x.some)
      (own_gap s.n.y own.low.y own.high.y h.y.from h.y.to h.y.some)
      (own_gap s.n.z own.low.z own.high.z h.z.from h.z.to h.z.some) in
      omega (arith, p, h.shape.few)

  widened_small : IsSmall (widened s own.low own.high)
  widened_small =
      let w = widened s own.low own.high in
      let p = product (extent w 0) (extent w 1) (extent w 2) (3 * extent own 0) (3 * extent own 1)
      (3 * extent own 2)
      (three s.n.x s.ghost_.x own.low.x own.high.x _ _ around_x h.x.some h.x.wide)
      (three s.n.y s.ghost_.y own.low.y own.high.y _ _ around_y h.y.some h.y.wide)
      (three s.n.z s.ghost_.z own.low.z own.high.z _ _ around_z h.z.some h.z.wide) in
      let q = cubed (extent own 0) (extent own 1) (extent own 2) in
      omega (arith, p, q, own_few)

  pub local_small : IsSmall loc
  local_small = subst IsSmall (sym h.local_is) widened_small

-- the levels of 0 have the sizes that they should
pub zero_sizes : (n : ℕ) (xs : List ℤ) → map length (replicate n xs) ≡ replicate n (length xs)
zero_sizes zero xs = refl
zero_sizes (suc n) xs = ap (λ (ls : List ℕ). length xs ∷ ls) (zero_sizes n xs)

pub zeros_sized : (b : Box3) (vars : List VarInfo)
    → map (map length) (map (zeros b) vars)
    ≡ map (λ (v : VarInfo). replicate v.levels (number_count b v)) vars
zeros_sized b [] = refl
zeros_sized b (v ∷ vs) =
    let e : map length (zeros b v) ≡ replicate v.levels (number_count b v) =
    zero_sizes v.levels (replicate (number_count b v) (pos 0))
    ∙ ap (λ k. replicate v.levels k) (length-replicate (number_count b v) (pos 0)) in
    rw (e, zeros_sized b vs) refl

pub new_patch_is : (s : Shape) (own loc : Box3) (vars : List VarInfo) → IsPart s own loc
    → IsPatch (bare s own loc vars (map (zeros loc) vars))
new_patch_is s own loc vars h =
    record {
      part = h;
      box = local_box s own loc h;
      small = local_small s own loc h;
      sized = zeros_sized loc vars;
      buffers = refl;
    }
