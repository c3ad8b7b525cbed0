-- The walk of `choose` along the planes of a direction.
use Rattle.std.proofs.Common.{◌≡◌, ℕ, zero, suc, ◌+◌, ◌-◌, ◌*◌, ◌^◌, ◌<◌, ◌≤◌, ◌⊎◌, inl, inr, arith}
use Rattle.std.proofs.Common.{refl, sym, ap, subst, ◌∙◌, List, [], ◌∷◌, ◌++◌, length, take}
use Rattle.std.proofs.Common.{slice_index_or}
use Rattle.std.specs.Prelude.{All, min, max}
use Rattle.std.proofs.Math.Nat.{suc-mul, mul-le-mul_right}
use Rattle.std.proofs.lemmas.Bool.{cases_lt}
use Rattle.std.proofs.lemmas.List.{take_all, take_more}
use Rattle.std.proofs.lemmas.List.Elements.{All-head, All-tail}
use Rattle.cx_cut.specs.Axis.{sum_of}
use Rattle.cx_balance.specs.Choosing.{weight, share_end, next_place, widths_from, chosen}
use Rattle.cx_balance.specs.Choosing.{HasRoom, CanChoose, IsShareEnd}
use Rattle.cx_balance.specs.Walking.{HasWalked, IsChoosing}
use Rattle.cx_balance.proofs.ChooseLaws.{share_end_is, times_le}

-- ---- the weight of all planes

-- planes of at most so much weigh at most so much together
pub sum_small : (most : ℕ) (ws : List ℕ) → All (λ w. w ≤ most) ws → sum_of ws ≤ length ws * most
sum_small most [] all = omega arith
sum_small most (w ∷ ws) all =
    let l = All-head (λ w. w ≤ most) w ws all in
    let rest = sum_small most ws (All-tail (λ w. w ≤ most) w ws all) in
    let m = suc-mul (length ws) most in
    omega (arith, l, rest, m)

-- 16,777,216 planes of at most 2^70, 512 times over, stay below 2^128
fits_128 : (parts count whole : ℕ) → parts ≤ 512 → count ≤ 16777216 → whole ≤ count * 2 ^ 70
    → parts * whole < 2 ^ 128
fits_128 parts count whole few small l =
    let a = mul-le-mul_right {m = count} {n = 16777216} (2 ^ 70) small in
    let b : whole ≤ 2 ^ 94 = omega (arith, a, l) in
    let c = mul-le-mul_right {m = parts} {n = 512} whole few in
    omega (arith, b, c)

pub products_fit : (planes : List ℕ) (parts least : ℕ) → CanChoose planes parts least
    → parts * sum_of planes < 2 ^ 128
products_fit planes parts least can =
    fits_128 parts (length planes) (sum_of planes) can.few_parts can.few_planes
    (sum_small (2 ^ 70) planes can.most_weight)

pub once : (parts whole : ℕ) → 1 ≤ parts → whole ≤ parts * whole
once parts whole some =
    let a = mul-le-mul_right {m = 1} {n = parts} whole some in
    omega (arith, a)

pub sum_fits : (planes : List ℕ) (parts least : ℕ) → CanChoose planes parts least
    → sum_of planes < 2 ^ 128
sum_fits planes parts least can =
    below (sum_of planes) (parts * sum_of planes) (2 ^ 128)
    (once parts (sum_of planes) can.room.some_part) (products_fit planes parts least can)
  where
    below : (a b n : ℕ) → a ≤ b → b < n → a < n
    below a b n l m = omega (arith, l, m)

sum_push : (ws : List ℕ) (w : ℕ) → sum_of (ws ++ w ∷ []) ≡ sum_of ws + w
sum_push [] w = omega arith
sum_push (x ∷ ws) w = let e = sum_push ws w in omega (arith, e)

pub weight_below : (x : ℕ) (ws : List ℕ) → sum_of (take x ws) ≤ sum_of ws
weight_below zero ws = omega arith
weight_below (suc x) [] = omega arith
weight_below (suc x) (w ∷ ws) = let l = weight_below x ws in omega (arith, l)

-- one plane more
pub weight_more : (planes : List ℕ) (x weighs d : ℕ) → x < length planes
    → weighs ≡ sum_of (take x planes)
    → weighs + slice_index_or planes x d ≡ sum_of (take (x + 1) planes)
weight_more planes x weighs d l e =
    ap (λ n. n + slice_index_or planes x d) e
    ∙ sym (sum_push (take x planes) (slice_index_or planes x d))
    ∙ sym (ap sum_of (take_more planes x d l))

pub weight_within : (planes : List ℕ) (x weighs d : ℕ) → x < length planes
    → weighs ≡ sum_of (take x planes) → weighs + slice_index_or planes x d ≤ sum_of planes
weight_within planes x weighs d l e =
    let more = weight_more planes x weighs d l e in
    let below = weight_below (x + 1) planes in
    omega (arith, more, below)

pub weight_all : (planes : List ℕ) (x weighs : ℕ) → length planes ≤ x
    → weighs ≡ sum_of (take x planes) → weighs ≡ sum_of planes
weight_all planes x weighs l e = e ∙ ap sum_of (take_all x planes l)

-- ---- to the end of a share

pub walk_fits : (planes : List ℕ) (parts goal end weighs : ℕ)
    → HasWalked planes parts goal end weighs → parts * sum_of planes < 2 ^ 128
    → parts * weighs < 2 ^ 128
walk_fits planes parts goal end weighs walk fits =
    let l = times_le parts weighs (sum_of planes)
    (subst (λ n. n ≤ sum_of planes) (sym walk.sum) (weight_below end planes)) in
    below (parts * weighs) (parts * sum_of planes) (2 ^ 128) l fits
  where
    below : (a b n : ℕ) → a ≤ b → b < n → a < n
    below a b n l m = omega (arith, l, m)

-- where the goal isn't reached there is a next plane
pub walk_index : (planes : List ℕ) (parts goal end weighs : ℕ)
    → HasWalked planes parts goal end weighs → parts * weighs < goal
    → goal ≤ parts * sum_of planes → end < length planes
walk_index planes parts goal end weighs walk small enough =
    go (cases_lt end (length planes))
  where
    go : (end < length planes) ⊎ (length planes ≤ end) → end < length planes
    go (inl l) = l
    go (inr l) =
        let whole = weight_all planes end weighs l walk.sum in
        let all : goal ≤ parts * weighs = subst (λ n. goal ≤ parts * n) (sym whole) enough in
        absurd (omega (arith, small, all))

pub walk_on : (planes : List ℕ) (parts goal end weighs d : ℕ)
    → HasWalked planes parts goal end weighs → parts * weighs < goal → end < length planes
    → HasWalked planes parts goal (end + 1) (weighs + slice_index_or planes end d)
walk_on planes parts goal end weighs d walk small l =
    record {
      within = omega (arith, l);
      sum = weight_more planes end weighs d l walk.sum;
      before = λ y m. go y (cases_lt y end) m;
    }
  where
    go : (y : ℕ) → (y < end) ⊎ (end ≤ y) → y < end + 1 → parts * weight planes y < goal
    go y (inl before) m = walk.before y before
    go y (inr after) m =
        let same : y ≡ end = omega (arith, after, m) in
        subst (λ n. parts * weight planes n < goal) (sym same)
        (subst (λ n. parts * n < goal) walk.sum small)

-- ---- from part to part

share_only : (planes : List ℕ) (parts j end weighs : ℕ) → j ≤ parts
    → HasWalked planes parts (j * sum_of planes) end weighs
    → j * sum_of planes ≤ parts * weighs → end ≡ share_end planes parts j
share_only planes parts j end weighs within walk reached =
    go (cases_lt end (share_end planes parts j)) (cases_lt (share_end planes parts j) end)
  where
    is : IsShareEnd planes parts j (share_end planes parts j)
    is = share_end_is planes parts j within

    go : (end < share_end planes parts j) ⊎ (share_end planes parts j ≤ end)
        → (share_end planes parts j < end) ⊎ (end ≤ share_end planes parts j)
        → end ≡ share_end planes parts j
    go (inl l) m =
        let small = is.fewest end l in
        let enough = subst (λ n. j * sum_of planes ≤ parts * n) walk.sum reached in
        absurd (omega (arith, small, enough))
    go (inr l) (inl m) =
        let small = walk.before (share_end planes parts j) m in
        let enough = is.reached in
        absurd (omega (arith, small, enough))
    go (inr l) (inr m) = omega (arith, l, m)

pub choosing_start : (planes : List ℕ) (parts least : ℕ) → HasRoom planes parts least
    → IsChoosing planes parts least 1 0 [] 0 0
choosing_start planes zero least room = absurd (omega (arith, room.some_part))
choosing_start planes (suc left) least room =
    record {
      some = omega arith;
      within = omega arith;
      room = subst (λ n. 0 + suc n * least ≤ length planes) (sym one)
          (subst (λ n. n ≤ length planes) (none (suc left * least)) room.room);
      walk = record {
        within = omega arith;
        sum = refl;
        before = λ y l. absurd (omega (arith, l));
      };
      built = ap (λ n. widths_from planes (suc left) least 0 n) one;
    }
  where
    one : suc left - 1 ≡ left
    one = omega arith

    none : (n : ℕ) → n ≡ 0 + n
    none n = omega arith

pub goal_fits : (planes : List ℕ) (parts j : ℕ) → j ≤ parts
    → j * sum_of planes ≤ parts * sum_of planes
goal_fits planes parts j l = mul-le-mul_right {m = j} {n = parts} (sum_of planes) l

-- what j shares weigh fits too
pub goal_within : (planes : List ℕ) (parts least j total : ℕ) → CanChoose planes parts least
    → j ≤ parts → total ≡ sum_of planes → j * total < 2 ^ 128
goal_within planes parts least j total can l e =
    subst (λ n. j * n < 2 ^ 128) (sym e)
    (below (j * sum_of planes) (parts * sum_of planes) (2 ^ 128) (goal_fits planes parts j l)
    (products_fit planes parts least can))
  where
    below : (a b n : ℕ) → a ≤ b → b < n → a < n
    below a b n l m = omega (arith, l, m)

push_first : (xs : List ℕ) (x : ℕ) (ys : List ℕ) → (xs ++ x ∷ []) ++ ys ≡ xs ++ x ∷ ys
push_first [] x ys = refl
push_first (w ∷ xs) x ys = ap (λ zs. w ∷ zs) (push_first xs x ys)

pub choosing_on : (planes : List ℕ) (parts least j place : ℕ) (widths : List ℕ)
    (end weighs share weighs' next : ℕ) (wider : List ℕ)
    → IsChoosing planes parts least j place widths end weighs → j < parts
    → HasWalked planes parts (j * sum_of planes) share weighs'
    → j * sum_of planes ≤ parts * weighs'
    → next ≡ min (max share (place + least)) (length planes - (parts - j) * least)
    → next + (parts - j) * least ≤ length planes → wider ≡ widths ++ (next - place) ∷ []
    → IsChoosing planes parts least (j + 1) next wider share weighs'
choosing_on planes parts least j place widths end weighs share weighs' next wider now more walk
    reached is room e =
    record {
      some = omega arith;
      within = omega (arith, more);
      room = subst (λ n. next + n * least ≤ length planes) left room;
      walk = record {
        within = walk.within;
        sum = walk.sum;
        before = λ y l. let small = walk.before y l in omega (arith, small, rises);
      };
      built = ap (λ ws. ws ++ rest) e ∙ push_first widths (next - place) rest
          ∙ ap (λ ws. widths ++ ws) step ∙ now.built;
    }
  where
    left : parts - j ≡ suc (parts - (j + 1))
    left = omega (arith, more)

    back : parts - suc (parts - (j + 1)) ≡ j
    back = omega (arith, more)

    rises : j * sum_of planes ≤ (j + 1) * sum_of planes
    rises = mul-le-mul_right {m = j} {n = j + 1} (sum_of planes) (omega arith)

    rest : List ℕ
    rest = widths_from planes parts least next (parts - (j + 1))

    there : next ≡ next_place planes parts least place (suc (parts - (j + 1)))
    there = is
        ∙ ap (λ n. min (max share (place + least)) (length planes - n * least)) left
        ∙ ap (λ n. min (max n (place + least))
        (length planes - suc (parts - (j + 1)) * least))
        (share_only planes parts j share weighs' (omega (arith, more)) walk reached
        ∙ ap (share_end planes parts) (sym back))

    step : (next - place) ∷ rest ≡ widths_from planes parts least place (parts - j)
    step = ap (λ n. (n - place) ∷ widths_from planes parts least n (parts - (j + 1))) there
        ∙ ap (widths_from planes parts least place) (sym left)

pub choosing_end : (planes : List ℕ) (parts least j place : ℕ) (widths : List ℕ)
    (end weighs : ℕ) → IsChoosing planes parts least j place widths end weighs → parts ≤ j
    → widths ++ (length planes - place) ∷ [] ≡ chosen planes parts least
choosing_end planes parts least j place widths end weighs now done =
    ap (λ n. widths ++ widths_from planes parts least place n) none ∙ now.built
  where
    none : 0 ≡ parts - j
    none = omega (arith, done)
