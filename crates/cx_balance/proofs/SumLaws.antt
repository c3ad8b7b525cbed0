-- Sums over numbers in turn, and over stretches of neighbours in a list.
use Rattle.std.proofs.Common.{◌≡◌, ℕ, zero, suc, ◌+◌, ◌-◌, ◌*◌, ◌^◌, ◌/◌, ◌%◌, ◌<◌, ◌≤◌, refl, sym, ap, ◌∙◌, arith, List, length, map, take, drop, get_or}
use Rattle.std.specs.List.{range_with_len, sum_by}
use Rattle.std.specs.Fork.{slice_chunk}
use Rattle.std.proofs.Math.Nat.{div-one, mod-one, mul-div_cancel, mul-le-mul_right}
use Rattle.std.proofs.lemmas.Nat.{div-mul-add, mod-mul-add}
use Rattle.std.proofs.lemmas.List.{drop-drop, drop-take, get_or-drop, length-drop, length-take, map-id, take-take}
use Rattle.std.proofs.lemmas.List.Sums.{sum_by_more, sum_by-le}
use Rattle.std.proofs.lemmas.List.FromFn.{sum_by-map-range_with_len_more}

-- what a function gives for the first so many numbers, together
abbrev pub total : (ℕ → ℕ) → ℕ → ℕ
total f zero = 0
total f (suc n) = total f n + f n

pub total_is : {X : Type 0} (f : X → ℕ) (place : ℕ → X) (n : ℕ)
    → sum_by f (map place (range_with_len 0 n)) ≡ total (λ i. f (place i)) n
total_is f place zero = refl
total_is f place (suc n) =
    let next : suc n ≡ n + 1 = omega arith in
    ap (λ m. sum_by f (map place (range_with_len 0 m))) next
    ∙ sum_by-map-range_with_len_more f place 0 n n (omega arith)
    ∙ ap (λ m. m + f (place n)) (total_is f place n)

pub total_range : (f : ℕ → ℕ) (n : ℕ) → sum_by f (range_with_len 0 n) ≡ total f n
total_range f n =
    sym (ap (sum_by f) (map-id (range_with_len 0 n))) ∙ total_is f (λ (i : ℕ). i) n

pub total_same : (f g : ℕ → ℕ) (n : ℕ) → ((i : ℕ) → i < n → f i ≡ g i) → total f n ≡ total g n
total_same f g zero same = refl
total_same f g (suc n) same =
    let before = total_same f g n (λ i l. same i (omega (arith, l))) in
    let here = same n (omega arith) in
    omega (arith, before, here)

pub total_add : (f : ℕ → ℕ) (a b : ℕ) → total f (a + b) ≡ total f a + total (λ i. f (a + i)) b
total_add f a zero = let none : a + 0 ≡ a = omega arith in rw none (omega arith)
total_add f a (suc b) =
    let before = total_add f a b in
    let next : a + suc b ≡ suc (a + b) = omega arith in
    rw next (omega (arith, before))

-- a sum in stretches of the same length
pub total_split : (f : ℕ → ℕ) (a b : ℕ)
    → total f (a * b) ≡ total (λ z. total (λ x. f (a * z + x)) a) b
total_split f a zero = let none : a * 0 ≡ 0 = omega arith in rw none refl
total_split f a (suc b) =
    let before = total_split f a b in
    let here = total_add f (a * b) a in
    let next : a * suc b ≡ a * b + a = grind arith in
    rw next (omega (arith, before, here))

pub total_one : (f : ℕ → ℕ) → total f 1 ≡ f 0
total_one f = omega arith

-- at most so much for each
pub total_most : (f : ℕ → ℕ) (n most : ℕ) → ((i : ℕ) → i < n → f i ≤ most) → total f n ≤ n * most
total_most f zero most small = omega arith
total_most f (suc n) most small =
    let before = total_most f n most (λ i l. small i (omega (arith, l))) in
    let here = small n (omega arith) in
    let next : suc n * most ≡ n * most + most = grind arith in
    rw next (omega (arith, before, here))

-- ---- stretches of a list

-- so many neighbours from a place on
pub stretch_total : {X : Type 0} (f : X → ℕ) (xs : List X) (from n : ℕ) (d : X)
    → from + n ≤ length xs
    → sum_by f (take n (drop from xs)) ≡ total (λ i. f (get_or xs (from + i) d)) n
stretch_total f xs from zero d room = refl
stretch_total f xs from (suc n) d room =
    let some : n < length (drop from xs) = let e = length-drop from xs in omega (arith, e, room) in
    let next : suc n ≡ n + 1 = omega arith in
    ap (λ m. sum_by f (take m (drop from xs))) next
    ∙ sum_by_more f (drop from xs) n d some
    ∙ ap (λ m. m + f (get_or (drop from xs) n d))
    (stretch_total f xs from n d (omega (arith, room)))
    ∙ ap (λ x. total (λ i. f (get_or xs (from + i) d)) n + f x) (get_or-drop from xs n d)

-- a stretch of one
pub chunk_one : {X : Type 0} (f : X → ℕ) (xs : List X) (k : ℕ) (d : X) → k < length xs
    → sum_by f (slice_chunk xs 1 k) ≡ f (get_or xs k d)
chunk_one f xs k d l =
    let e : k * 1 ≡ k = omega arith in
    let same : k * 1 + 0 ≡ k = omega arith in
    stretch_total f xs (k * 1) 1 d (omega (arith, e, l))
    ∙ total_one (λ i. f (get_or xs (k * 1 + i) d)) ∙ ap (λ i. f (get_or xs i d)) same

-- a range that begins a stretch and ends before the next one
pub chunk_is : {X : Type 0} (xs : List X) (n k : ℕ)
    → take ((k + 1) * n - k * n) (drop (k * n) xs) ≡ slice_chunk xs n k
chunk_is xs n k =
    let e : (k + 1) * n ≡ k * n + n = grind arith in
    let size : (k + 1) * n - k * n ≡ n = omega (arith, e) in
    ap (λ m. take m (drop (k * n) xs)) size

pub chunk_short : {X : Type 0} (xs : List X) (n k : ℕ) → length (slice_chunk xs n k) ≤ length xs
chunk_short xs n k =
    let a = length-take n (drop (k * n) xs) in
    let b = length-drop (k * n) xs in
    omega (arith, a, b)

pub chunk_most : {X : Type 0} (f : X → ℕ) (most : ℕ) (xs : List X) (n k : ℕ)
    → ((x : X) → f x ≤ most) → sum_by f (slice_chunk xs n k) ≤ length (slice_chunk xs n k) * most
chunk_most f most xs n k small =
    sum_by-le f most (slice_chunk xs n k) (λ i d below. small (get_or (slice_chunk xs n k) i d))

-- the stretches at so many places
pub stretches_light : {X : Type 0} (f : X → ℕ) (xs : List X) (n : ℕ) (place : ℕ → ℕ) (many : ℕ)
    → ((x : X) → f x ≤ 1 + 2 ^ 40) → length xs ≤ 2 ^ 24 → many ≤ 2 ^ 24
    → total (λ b. sum_by f (slice_chunk xs n (place b))) many ≤ 2 ^ 100
stretches_light f xs n place many small few times =
    let all = total_most (λ b. sum_by f (slice_chunk xs n (place b))) many
    (2 ^ 24 * (1 + 2 ^ 40)) (λ b l. each b) in
    omega (arith, all, times)
  where
    each : (b : ℕ) → sum_by f (slice_chunk xs n (place b)) ≤ 2 ^ 24 * (1 + 2 ^ 40)
    each b =
        let most = chunk_most f (1 + 2 ^ 40) xs n (place b) small in
        let short = chunk_short xs n (place b) in
        omega (arith, most, short, few)

-- a stretch of a block of so many stretches
pub chunk_within : {X : Type 0} (xs : List X) (many n b k : ℕ) → k < many
    → slice_chunk (slice_chunk xs (many * n) b) n k ≡ slice_chunk xs n (b * many + k)
chunk_within xs many n b k l =
    let after : (k + 1) * n ≤ many * n = mul-le-mul_right n (omega (arith, l)) in
    let next : (k + 1) * n ≡ k * n + n = grind arith in
    let size : many * n ≡ k * n + (many * n - k * n) = omega (arith, after, next) in
    let room : n ≤ many * n - k * n = omega (arith, after, next) in
    let place : b * (many * n) + k * n ≡ (b * many + k) * n = grind arith in
    ap (λ m. take n (drop (k * n) (take m (drop (b * (many * n)) xs)))) size
    ∙ ap (take n) (drop-take (k * n) (many * n - k * n) (drop (b * (many * n)) xs))
    ∙ take-take n (many * n - k * n) (drop (k * n) (drop (b * (many * n)) xs)) room
    ∙ ap (take n) (drop-drop (k * n) (b * (many * n)) xs)
    ∙ ap (λ m. take n (drop m xs)) place

-- one block more
pub block_added : {X : Type 0} (f : X → ℕ) (xs : List X) (many n b k old new : ℕ) → k < many
    → old ≡ total (λ i. sum_by f (slice_chunk xs n (i * many + k))) b
    → new ≡ old + sum_by f (slice_chunk
    (take ((b + 1) * (many * n) - b * (many * n)) (drop (b * (many * n)) xs)) n k)
    → new ≡ total (λ i. sum_by f (slice_chunk xs n (i * many + k))) (b + 1)
block_added f xs many n b k old new l is more =
    let next : suc b ≡ b + 1 = omega arith in
    more
    ∙ ap (λ m. m + sum_by f (slice_chunk
    (take ((b + 1) * (many * n) - b * (many * n)) (drop (b * (many * n)) xs)) n k)) is
    ∙ ap (λ ys. total (λ i. sum_by f (slice_chunk xs n (i * many + k))) b
    + sum_by f (slice_chunk ys n k)) (chunk_is xs (many * n) b)
    ∙ ap (λ ys. total (λ i. sum_by f (slice_chunk xs n (i * many + k))) b + sum_by f ys)
    (chunk_within xs many n b k l)
    ∙ ap (total (λ i. sum_by f (slice_chunk xs n (i * many + k)))) next

-- all blocks
pub blocks_added : (f : ℕ → ℕ) (b blocks sum : ℕ) → sum ≡ total f b → b ≤ blocks → blocks ≤ b
    → sum ≡ sum_by f (range_with_len 0 blocks)
blocks_added f b blocks sum is l m =
    let e : b ≡ blocks = omega (arith, l, m) in
    is ∙ ap (total f) e ∙ sym (total_range f blocks)

-- ---- the planes of a block of x by y by z numbers, x fastest

-- across x, y and z
module _ (f : ℕ → ℕ) (x y z k : ℕ) where
  pub across_x : total (λ r. f (k + x * r)) (y * z)
      ≡ total (λ b. total (λ i. f ((b * x + k) * 1 + i)) 1) (y * z)
  across_x = total_same (λ r. f (k + x * r)) (λ b. total (λ i. f ((b * x + k) * 1 + i)) 1) (y * z)
      (λ b l. let e : k + x * b ≡ (b * x + k) * 1 + 0 = grind arith in
      ap f e ∙ sym (total_one (λ i. f ((b * x + k) * 1 + i))))

  pub across_y : total (λ r. f (r % x + x * (k + y * (r / x)))) (x * z)
      ≡ total (λ b. total (λ i. f ((b * y + k) * x + i)) x) z
  across_y =
      total_split (λ r. f (r % x + x * (k + y * (r / x)))) x z
      ∙ total_same (λ b. total (λ i. f ((x * b + i) % x + x * (k + y * ((x * b + i) / x)))) x)
      (λ b. total (λ i. f ((b * y + k) * x + i)) x) z (λ b l.
      total_same (λ i. f ((x * b + i) % x + x * (k + y * ((x * b + i) / x))))
      (λ i. f ((b * y + k) * x + i)) x (λ i m. ap f (place b i m)))
    where
      place : (b i : ℕ) → i < x
          → (x * b + i) % x + x * (k + y * ((x * b + i) / x)) ≡ (b * y + k) * x + i
      place b i m =
          let turn : x * b + i ≡ b * x + i = grind arith in
          let rest : i + x * (k + y * b) ≡ (b * y + k) * x + i = grind arith in
          ap (λ n. n % x + x * (k + y * (n / x))) turn
          ∙ ap (λ n. n + x * (k + y * ((b * x + i) / x))) (mod-mul-add b x i m)
          ∙ ap (λ n. i + x * (k + y * n)) (div-mul-add b x i m)
          ∙ rest

  pub across_z : total (λ r. f (r + x * y * k)) (x * y)
      ≡ total (λ b. total (λ i. f ((b * z + k) * (x * y) + i)) (x * y)) 1
  across_z =
      total_same (λ r. f (r + x * y * k)) (λ i. f ((0 * z + k) * (x * y) + i)) (x * y)
      (λ i l. ap f (place i (x * y)))
      ∙ sym (total_one (λ b. total (λ i. f ((b * z + k) * (x * y) + i)) (x * y)))
    where
      place : (i n : ℕ) → i + n * k ≡ (0 * z + k) * n + i
      place i n = let none : 0 * z ≡ 0 = omega arith in
          rw none (let zero_first : 0 + k ≡ k = omega arith in rw zero_first (grind arith))

-- where a point of a plane stands in its grid; one is 1
pub place_x : (k r one x y : ℕ) → one ≡ 1
    → k + r % one + x * (r / one % y + y * (r / one / y)) ≡ k + x * r
place_x k r one x y e =
    ap (λ n. k + r % n + x * (r / n % y + y * (r / n / y))) e
    ∙ ap (λ n. k + n + x * (r / 1 % y + y * (r / 1 / y))) (mod-one r)
    ∙ ap (λ n. k + 0 + x * (n % y + y * (n / y))) (div-one r)
    ∙ ap (λ n. k + 0 + x * n) (omega arith) ∙ ap (λ n. n + x * r) (omega arith)

pub place_y : (k r one x y : ℕ) → one ≡ 1
    → r % x + x * (k + r / x % one + y * (r / x / one)) ≡ r % x + x * (k + y * (r / x))
place_y k r one x y e =
    ap (λ n. r % x + x * (k + r / x % n + y * (r / x / n))) e
    ∙ ap (λ n. r % x + x * (k + n + y * (r / x / 1))) (mod-one (r / x))
    ∙ ap (λ n. r % x + x * (k + 0 + y * n)) (div-one (r / x))
    ∙ ap (λ n. r % x + x * (n + y * (r / x))) (omega arith)

pub place_z : (k r x y : ℕ) → 0 < x → 0 < y
    → r % x + x * (r / x % y + y * (k + r / x / y)) ≡ r + x * y * k
place_z k r x y some_x some_y =
    let inner : r / x % y + y * (r / x / y) ≡ r / x = omega arith in
    let apart : r / x % y + y * (k + r / x / y) ≡ r / x % y + y * (r / x / y) + y * k
    = grind arith in
    let outer : r % x + x * (r / x) ≡ r = omega arith in
    ap (λ n. r % x + x * n) (apart ∙ ap (λ n. n + y * k) inner)
    ∙ spread (r % x) (r / x) ∙ ap (λ n. n + x * y * k) outer
  where
    spread : (a b : ℕ) → a + x * (b + y * k) ≡ a + x * b + x * y * k
    spread a b = grind arith

-- ---- how many blocks there are

pub blocks_x : (x y z : ℕ) → 0 < x → x * y * z / (x * 1) ≡ y * z
blocks_x x y z some =
    let e : x * y * z ≡ y * z * (x * 1) = grind arith in
    let one : x * 1 ≡ x = omega arith in
    ap (λ n. n / (x * 1)) e ∙ mul-div_cancel (y * z) {n = x * 1} (omega (arith, one, some))

pub blocks_y : (x y z : ℕ) → 0 < y * x → x * y * z / (y * x) ≡ z
blocks_y x y z some =
    let e : x * y * z ≡ z * (y * x) = grind arith in
    ap (λ n. n / (y * x)) e ∙ mul-div_cancel z {n = y * x} some

pub blocks_z : (x y z : ℕ) → 0 < z * (x * y) → x * y * z / (z * (x * y)) ≡ 1
blocks_z x y z some =
    let e : x * y * z ≡ 1 * (z * (x * y)) = grind arith in
    ap (λ n. n / (z * (x * y))) e ∙ mul-div_cancel 1 {n = z * (x * y)} some
