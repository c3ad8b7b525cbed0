-- What a plane weighs, as the sum of its stretches in each block of a level.
use Rattle.std.proofs.Common.{◌≡◌, ℕ, zero, suc, ◌+◌, ◌*◌, ◌/◌, ◌%◌, ◌^◌, ◌<◌, ◌≤◌, sym, ap, subst, ◌∙◌, arith, ℤ, pos, negsuc, ◌≤ℤ◌, ◌+ℤ◌, List, length, map, get_or, replicate}
use Rattle.std.specs.Prelude.{◌==◌, unsigned_abs, if◌then◌else◌}
use Rattle.std.specs.Fork.{slice_chunk}
use Rattle.std.specs.Int.{int_gap}
use Rattle.std.specs.List.{range_with_len, sum_by}
use Rattle.std.proofs.Math.Nat.{mul-div_cancel_left, mul-le-mul, mul-le-mul_right, mul_assoc, mul_comm}
use Rattle.std.proofs.lemmas.Int.{ints}
use Rattle.std.proofs.lemmas.List.{get_or-replicate, length-replicate}
use Rattle.std.proofs.lemmas.List.FromFn.{fill_by_all}
use Rattle.cx_grid.specs.declared.boxes.Point.{Point}
use Rattle.cx_grid.specs.declared.shapes.Shape.{Shape}
use Rattle.cx_grid.specs.Boxes.{along, extent, index_in, point_count, point_in, points_in}
use Rattle.cx_grid.specs.Grid.{IsShape, whole}
use Rattle.cx_grid.proofs.Places.{gap_at}
use Rattle.cx_balance.specs.Weighing.{plane, planes_by, number_weight, weight_at}
use Rattle.cx_balance.proofs.PlaneLaws.{points_along}
use Rattle.cx_balance.proofs.SumLaws.{total, total_is, total_range, total_same, stretch_total, across_x, across_y, across_z, place_x, place_y, place_z, blocks_x, blocks_y, blocks_z}
use Rattle.cx_balance.proofs.WeightLaws.{counted}

-- how many neighbours of a plane of a direction stand one after another
abbrev pub stretch_of : Shape → ℕ → ℕ
stretch_of s d =
    if d == 0 then 1
    else (if d == 1 then unsigned_abs s.n.x else unsigned_abs s.n.x * unsigned_abs s.n.y)

-- ---- sizes

axis_is : (n : ℤ) → pos 1 ≤ℤ n → int_gap (pos 0) n ≡ unsigned_abs n
axis_is (pos m) some = omega arith
axis_is (negsuc m) some = absurd (omega (arith, ints, some))

gap_one : (k : ℕ) → int_gap (pos k) (pos (k + 1)) ≡ 1
gap_one k = omega arith

gap_from : (k i : ℕ) → int_gap (pos 0) (pos k +ℤ pos i) ≡ k + i
gap_from k i = omega arith

module _ (s : Shape) (is : IsShape s) where
  abbrev nx : ℕ
  nx = extent (whole s) 0

  abbrev ny : ℕ
  ny = extent (whole s) 1

  abbrev nz : ℕ
  nz = extent (whole s) 2

  x_is : nx ≡ unsigned_abs s.n.x
  x_is = axis_is s.n.x is.x.some

  y_is : ny ≡ unsigned_abs s.n.y
  y_is = axis_is s.n.y is.y.some

  z_is : nz ≡ unsigned_abs s.n.z
  z_is = axis_is s.n.z is.z.some

  x_some : 0 < nx
  x_some = let some = (points_along s is 0).0 in let e = x_is in omega (arith, some, e)

  y_some : 0 < ny
  y_some = let some = (points_along s is 1).0 in let e = y_is in omega (arith, some, e)

  z_some : 0 < nz
  z_some = let some = (points_along s is 2).0 in let e = z_is in omega (arith, some, e)

  -- ---- where the points of a plane stand

  sum_up : (x y a b c a' b' c' : ℕ) → a ≡ a' → b ≡ b' → c ≡ c'
      → a + x * (b + y * c) ≡ a' + x * (b' + y * c')
  sum_up x y a b c a' b' c' p q r =
      ap (λ n. n + x * (b + y * c)) p ∙ ap (λ n. a' + x * (n + y * c)) q
      ∙ ap (λ n. a' + x * (b' + y * n)) r

  at_x : (k r : ℕ) → index_in (whole s) (point_in (plane s 0 k) r) ≡ k + nx * r
  at_x k r =
      let one = extent (plane s 0 k) 0 in
      sum_up nx ny (int_gap (pos 0) (pos k +ℤ pos (r % one)))
      (int_gap (pos 0) (pos 0 +ℤ pos (r / one % ny)))
      (int_gap (pos 0) (pos 0 +ℤ pos (r / one / ny)))
      (k + r % one) (r / one % ny) (r / one / ny)
      (gap_from k (r % one)) (gap_at (pos 0) (r / one % ny)) (gap_at (pos 0) (r / one / ny))
      ∙ place_x k r one nx ny (gap_one k)

  at_y : (k r : ℕ) → index_in (whole s) (point_in (plane s 1 k) r)
      ≡ r % nx + nx * (k + ny * (r / nx))
  at_y k r =
      let one = extent (plane s 1 k) 1 in
      sum_up nx ny (int_gap (pos 0) (pos 0 +ℤ pos (r % nx)))
      (int_gap (pos 0) (pos k +ℤ pos (r / nx % one)))
      (int_gap (pos 0) (pos 0 +ℤ pos (r / nx / one)))
      (r % nx) (k + r / nx % one) (r / nx / one)
      (gap_at (pos 0) (r % nx)) (gap_from k (r / nx % one)) (gap_at (pos 0) (r / nx / one))
      ∙ place_y k r one nx ny (gap_one k)

  at_z : (k r : ℕ) → index_in (whole s) (point_in (plane s 2 k) r) ≡ r + nx * ny * k
  at_z k r =
      sum_up nx ny (int_gap (pos 0) (pos 0 +ℤ pos (r % nx)))
      (int_gap (pos 0) (pos 0 +ℤ pos (r / nx % ny)))
      (int_gap (pos 0) (pos k +ℤ pos (r / nx / ny)))
      (r % nx) (r / nx % ny) (k + r / nx / ny)
      (gap_at (pos 0) (r % nx)) (gap_at (pos 0) (r / nx % ny)) (gap_from k (r / nx / ny))
      ∙ place_z k r nx ny x_some y_some

  -- ---- how many points planes have

  many_x : (k : ℕ) → point_count (plane s 0 k) ≡ ny * nz
  many_x k =
      let one : 1 * ny ≡ ny = omega arith in
      ap (λ n. n * ny * nz) (gap_one k) ∙ ap (λ n. n * nz) one

  many_y : (k : ℕ) → point_count (plane s 1 k) ≡ nx * nz
  many_y k =
      let one : nx * 1 ≡ nx = omega arith in
      ap (λ n. nx * n * nz) (gap_one k) ∙ ap (λ n. n * nz) one

  many_z : (k : ℕ) → point_count (plane s 2 k) ≡ nx * ny
  many_z k =
      let one : nx * ny * 1 ≡ nx * ny = omega arith in
      ap (λ n. nx * ny * n) (gap_one k) ∙ one

  share : (n all part : ℕ) → 0 < n → all ≡ n * part → all / n ≡ part
  share n all part some e = ap (λ m. m / n) e ∙ mul-div_cancel_left part some

  pub plane_share : (d k : ℕ) → d < 3
      → point_count (whole s) / unsigned_abs (along s.n d) ≡ point_count (plane s d k)
  plane_share zero k low =
      share (unsigned_abs s.n.x) (point_count (whole s)) (point_count (plane s 0 k))
      (points_along s is 0).0
      (let e : nx * ny * nz ≡ nx * (ny * nz) = grind arith in
      e ∙ ap (λ n. n * (ny * nz)) x_is ∙ ap (λ n. unsigned_abs s.n.x * n) (sym (many_x k)))
  plane_share (suc zero) k low =
      share (unsigned_abs s.n.y) (point_count (whole s)) (point_count (plane s 1 k))
      (points_along s is 1).0
      (let e : nx * ny * nz ≡ ny * (nx * nz) = grind arith in
      e ∙ ap (λ n. n * (nx * nz)) y_is ∙ ap (λ n. unsigned_abs s.n.y * n) (sym (many_y k)))
  plane_share (suc (suc zero)) k low =
      share (unsigned_abs s.n.z) (point_count (whole s)) (point_count (plane s 2 k))
      (points_along s is 2).0
      (let e : nx * ny * nz ≡ nz * (nx * ny) = grind arith in
      e ∙ ap (λ n. n * (nx * ny)) z_is ∙ ap (λ n. unsigned_abs s.n.z * n) (sym (many_z k)))
  plane_share (suc (suc (suc d))) k low = absurd (omega (arith, low))

  pub counts_are : (d n each : ℕ) (weights : List ℕ) → d < 3 → n ≡ unsigned_abs (along s.n d)
      → each ≡ point_count (whole s) / n → weights ≡ replicate n each
      → weights ≡ planes_by s (λ p. 1) d
  counts_are d n each weights low e f is =
      fill_by_all (λ k. sum_by (λ (p : Point). 1) (points_in (plane s d k))) weights
      (unsigned_abs (along s.n d)) 0 (ap length is ∙ length-replicate n each ∙ e)
      (λ k l. ap (λ ws. get_or ws k 0) is
      ∙ get_or-replicate n k each 0 (let same = e in omega (arith, same, l))
      ∙ f ∙ ap (λ m. point_count (whole s) / m) e ∙ plane_share d k low
      ∙ sym (counted (plane s d k)))

  -- ---- what planes weigh

  -- blocks of one stretch for each plane
  pub record AreBlocks (d : ℕ) : Type 0 where
    pub some : 1 ≤ unsigned_abs (along s.n d) * stretch_of s d
    pub few : unsigned_abs (along s.n d) * stretch_of s d ≤ 2 ^ 24

  size_within : nx * ny * nz ≤ 2 ^ 24
  size_within = is.few

  size_some : 1 ≤ nx * ny * nz
  size_some = mul-le-mul (mul-le-mul x_some y_some) z_some

  -- the first two of three factors
  two_within : (a b c : ℕ) → 1 ≤ c → a * b * c ≤ 2 ^ 24 → a * b ≤ 2 ^ 24
  two_within a b c some few =
      let own : a * b ≤ a * b = omega arith in
      let l : a * b * 1 ≤ a * b * c = mul-le-mul own some in
      omega (arith, l, few)

  pub are_blocks : (d : ℕ) → d < 3 → AreBlocks d
  are_blocks zero low =
      let some = (points_along s is 0).0 in
      let few = (points_along s is 0).1 in
      record { some = omega (arith, some); few = omega (arith, few) }
  are_blocks (suc zero) low =
      let e : unsigned_abs s.n.y * unsigned_abs s.n.x ≡ nx * ny =
      mul_comm (unsigned_abs s.n.y) (unsigned_abs s.n.x)
      ∙ ap (λ n. n * unsigned_abs s.n.y) (sym x_is)
      ∙ ap (λ n. nx * n) (sym y_is) in
      let some : 1 ≤ nx * ny = mul-le-mul x_some y_some in
      let few = two_within nx ny nz z_some size_within in
      record { some = omega (arith, e, some); few = omega (arith, e, few) }
  are_blocks (suc (suc zero)) low =
      let e : unsigned_abs s.n.z * (unsigned_abs s.n.x * unsigned_abs s.n.y) ≡ nx * ny * nz =
      mul_comm (unsigned_abs s.n.z) (unsigned_abs s.n.x * unsigned_abs s.n.y)
      ∙ ap (λ n. n * unsigned_abs s.n.y * unsigned_abs s.n.z) (sym x_is)
      ∙ ap (λ n. nx * n * unsigned_abs s.n.z) (sym y_is) ∙ ap (λ n. nx * ny * n) (sym z_is) in
      let some = size_some in
      let few = size_within in
      record { some = omega (arith, e, some); few = omega (arith, e, few) }
  are_blocks (suc (suc (suc d))) low = absurd (omega (arith, low))

  -- by equal numbers
  pub blocks_by : (d n stretch : ℕ) → d < 3 → n ≡ unsigned_abs (along s.n d)
      → stretch ≡ stretch_of s d → (1 ≤ n * stretch) × (n * stretch ≤ 2 ^ 24)
  blocks_by d n stretch low e f =
      let blocks = are_blocks d low in
      let same : n * stretch ≡ unsigned_abs (along s.n d) * stretch_of s d =
      ap (λ m. m * stretch) e ∙ ap (λ m. unsigned_abs (along s.n d) * m) f in
      (subst (λ m. 1 ≤ m) (sym same) blocks.some, subst (λ m. m ≤ 2 ^ 24) (sym same) blocks.few)

  module _ (factor : ℕ) (level : List ℤ) (room : length level ≡ point_count (whole s)) where
    -- what a number at a place weighs
    abbrev at : ℕ → ℕ
    at i = number_weight factor (get_or level i (pos 0))

    -- the stretches of plane k of n planes in so many blocks, together
    abbrev stretches : (n stretch blocks k : ℕ) → ℕ
    stretches n stretch blocks k =
        sum_by (λ b. sum_by (number_weight factor) (slice_chunk level stretch (b * n + k)))
        (range_with_len 0 blocks)

    within : (n stretch blocks b k size : ℕ) → b < blocks → k < n
        → blocks * (n * stretch) ≤ size → (b * n + k) * stretch + stretch ≤ size
    within n stretch blocks b k size l m all =
        let e : (b * n + k) * stretch + stretch ≡ (b * n + (k + 1)) * stretch = grind arith in
        let next : (b + 1) * n ≡ b * n + n = grind arith in
        let one : (b * n + (k + 1)) * stretch ≤ (b + 1) * n * stretch =
        mul-le-mul_right stretch (omega (arith, m, next)) in
        let whole_block : (b + 1) * n * stretch ≡ (b + 1) * (n * stretch) =
        mul_assoc (b + 1) n stretch in
        let most : (b + 1) * (n * stretch) ≤ blocks * (n * stretch) =
        mul-le-mul_right (n * stretch) (omega (arith, l)) in
        omega (arith, e, one, whole_block, most, all)

    by_blocks : (n stretch blocks k : ℕ) → k < n → blocks * (n * stretch) ≤ length level
        → stretches n stretch blocks k
        ≡ total (λ b. total (λ i. at ((b * n + k) * stretch + i)) stretch) blocks
    by_blocks n stretch blocks k l all =
        total_range (λ b. sum_by (number_weight factor) (slice_chunk level stretch (b * n + k)))
        blocks
        ∙ total_same
        (λ b. sum_by (number_weight factor) (slice_chunk level stretch (b * n + k)))
        (λ b. total (λ i. at ((b * n + k) * stretch + i)) stretch) blocks
        (λ b m. stretch_total (number_weight factor) level ((b * n + k) * stretch) stretch (pos 0)
        (within n stretch blocks b k (length level) m l all))

    points_total : (d k : ℕ) (place : ℕ → ℕ)
        → ((r : ℕ) → index_in (whole s) (point_in (plane s d k) r) ≡ place r) → (many : ℕ)
        → point_count (plane s d k) ≡ many
        → sum_by (weight_at s factor level) (points_in (plane s d k))
        ≡ total (λ r. at (place r)) many
    points_total d k place are many e =
        total_is (weight_at s factor level) (point_in (plane s d k)) (point_count (plane s d k))
        ∙ total_same (λ r. at (index_in (whole s) (point_in (plane s d k) r)))
        (λ r. at (place r)) (point_count (plane s d k)) (λ r l. ap at (are r))
        ∙ ap (total (λ r. at (place r))) e

    weighs_x : (k : ℕ) → k < nx
        → sum_by (weight_at s factor level) (points_in (plane s 0 k))
        ≡ stretches nx 1 (length level / (nx * 1)) k
    weighs_x k l =
        let e : ny * nz * (nx * 1) ≡ nx * ny * nz = grind arith in
        let all : ny * nz * (nx * 1) ≤ length level = omega (arith, e, room) in
        points_total 0 k (λ r. k + nx * r) (at_x k) (ny * nz) (many_x k)
        ∙ across_x at nx ny nz k ∙ sym (by_blocks nx 1 (ny * nz) k l all)
        ∙ ap (λ b. stretches nx 1 b k)
        (sym (blocks_x nx ny nz x_some) ∙ ap (λ m. m / (nx * 1)) (sym room))

    weighs_y : (k : ℕ) → k < ny
        → sum_by (weight_at s factor level) (points_in (plane s 1 k))
        ≡ stretches ny nx (length level / (ny * nx)) k
    weighs_y k l =
        let e : nz * (ny * nx) ≡ nx * ny * nz = grind arith in
        let all : nz * (ny * nx) ≤ length level = omega (arith, e, room) in
        points_total 1 k (λ r. r % nx + nx * (k + ny * (r / nx))) (at_y k) (nx * nz) (many_y k)
        ∙ across_y at nx ny nz k ∙ sym (by_blocks ny nx nz k l all)
        ∙ ap (λ b. stretches ny nx b k)
        (sym (blocks_y nx ny nz (mul-le-mul y_some x_some))
        ∙ ap (λ m. m / (ny * nx)) (sym room))

    weighs_z : (k : ℕ) → k < nz
        → sum_by (weight_at s factor level) (points_in (plane s 2 k))
        ≡ stretches nz (nx * ny) (length level / (nz * (nx * ny))) k
    weighs_z k l =
        let e : 1 * (nz * (nx * ny)) ≡ nx * ny * nz = grind arith in
        let all : 1 * (nz * (nx * ny)) ≤ length level = omega (arith, e, room) in
        points_total 2 k (λ r. r + nx * ny * k) (at_z k) (nx * ny) (many_z k)
        ∙ across_z at nx ny nz k ∙ sym (by_blocks nz (nx * ny) 1 k l all)
        ∙ ap (λ b. stretches nz (nx * ny) b k)
        (sym (blocks_z nx ny nz (mul-le-mul z_some (mul-le-mul x_some y_some)))
        ∙ ap (λ m. m / (nz * (nx * ny))) (sym room))

    plane_weighs : (d k : ℕ) → d < 3 → k < unsigned_abs (along s.n d)
        → sum_by (weight_at s factor level) (points_in (plane s d k))
        ≡ stretches (unsigned_abs (along s.n d)) (stretch_of s d)
        (length level / (unsigned_abs (along s.n d) * stretch_of s d)) k
    plane_weighs zero k low l =
        weighs_x k (let e = x_is in omega (arith, e, l))
        ∙ ap (λ n. stretches n 1 (length level / (n * 1)) k) x_is
    plane_weighs (suc zero) k low l =
        weighs_y k (let e = y_is in omega (arith, e, l))
        ∙ ap (λ n. stretches n nx (length level / (n * nx)) k) y_is
        ∙ ap (λ n. stretches (unsigned_abs s.n.y) n
        (length level / (unsigned_abs s.n.y * n)) k) x_is
    plane_weighs (suc (suc zero)) k low l =
        weighs_z k (let e = z_is in omega (arith, e, l))
        ∙ ap (λ n. stretches n (nx * ny) (length level / (n * (nx * ny))) k) z_is
        ∙ ap (λ n. stretches (unsigned_abs s.n.z) (n * ny)
        (length level / (unsigned_abs s.n.z * (n * ny))) k) x_is
        ∙ ap (λ n. stretches (unsigned_abs s.n.z) (unsigned_abs s.n.x * n)
        (length level / (unsigned_abs s.n.z * (unsigned_abs s.n.x * n))) k) y_is
    plane_weighs (suc (suc (suc d))) k low l = absurd (omega (arith, low))

    pub weights_are : (d n stretch : ℕ) (weights : List ℕ) → d < 3
        → n ≡ unsigned_abs (along s.n d) → stretch ≡ stretch_of s d → length weights ≡ n
        → ((k : ℕ) → k < n
        → get_or weights k 0 ≡ stretches n stretch (length level / (n * stretch)) k)
        → weights ≡ planes_by s (weight_at s factor level) d
    weights_are d n stretch weights low e f size are =
        fill_by_all (λ k. sum_by (weight_at s factor level) (points_in (plane s d k))) weights
        (unsigned_abs (along s.n d)) 0 (size ∙ e)
        (λ k l. are k (let same = e in omega (arith, same, l))
        ∙ ap (λ m. stretches m stretch (length level / (m * stretch)) k) e
        ∙ ap (λ m. stretches (unsigned_abs (along s.n d)) m
        (length level / (unsigned_abs (along s.n d) * m)) k) f
        ∙ sym (plane_weighs d k low l))
