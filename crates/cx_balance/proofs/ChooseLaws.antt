-- Chosen widths cut the direction; where no place is moved each part weighs about its share.
use Rattle.std.proofs.Common.{◌≡◌, ℕ, zero, suc, ◌+◌, ◌-◌, ◌*◌, ◌<◌, ◌≤◌, ◌⊎◌, inl, inr, true, false, leb, cond, arith, refl, sym, ap, subst, ◌∙◌, List, [], ◌∷◌, length, take, zero-add}
use Rattle.std.proofs.Math.Nat.{suc-mul, mul-le-mul_right}
use Rattle.std.proofs.lemmas.Bool.{cases_lt}
use Rattle.std.proofs.lemmas.Bool.Decides.{leb_tells}
use Rattle.std.proofs.lemmas.List.{take_all}
use Rattle.std.proofs.lemmas.List.Elements.{All-cons, All-nil, All-head}
use Rattle.std.specs.Prelude.{min, max, All}
use Rattle.cx_cut.specs.Axis.{sum_of}
use Rattle.cx_balance.specs.Choosing.{weight, fewest, share_end, next_place, widths_from, chosen, HasRoom, CanChoose, WidthsFit}
use Rattle.cx_balance.specs.Choosing.{AreFairFrom, ArePlacesFair, heaviest, WeighAboutFrom, WeighAbout, IsShareEnd}

-- ---- sums and products

assoc : (a b c : ℕ) → a + b + c ≡ a + (b + c)
assoc a b c = omega arith

none_more : (a : ℕ) → a + 0 ≡ a
none_more a = omega arith

times_more : (n a b : ℕ) → n * (a + b) ≡ n * a + n * b
times_more zero a b = omega arith
times_more (suc n) a b =
    let e = times_more n a b in
    let f = suc-mul n (a + b) in
    let g = suc-mul n a in
    let h = suc-mul n b in
    omega (arith, e, f, g, h)

pub times_le : (n a b : ℕ) → a ≤ b → n * a ≤ n * b
times_le zero a b l = omega arith
times_le (suc n) a b l =
    let e = times_le n a b l in
    let g = suc-mul n a in
    let h = suc-mul n b in
    omega (arith, e, g, h, l)

le_times : (a b n : ℕ) → a ≤ b → a * n ≤ b * n
le_times a b n l = mul-le-mul_right n l

-- ---- the widths cut the direction

module _ (planes : List ℕ) (parts least : ℕ) where
  -- the next place is after the last one and leaves room for those to come
  place_fits : (place left : ℕ) → place + suc (suc left) * least ≤ length planes
      → (place + least ≤ next_place planes parts least place (suc left))
      × (next_place planes parts least place (suc left) + suc left * least ≤ length planes)
  place_fits place left room =
      go (share_end planes parts (parts - suc left)) (suc left * least) (suc (suc left) * least)
      (omega arith) room
    where
      go : (x later all : ℕ) → all ≡ least + later → place + all ≤ length planes
          → (place + least ≤ min (max x (place + least)) (length planes - later))
          × (min (max x (place + least)) (length planes - later) + later ≤ length planes)
      go x later all e r = (omega (arith, e, r), omega (arith, e, r))

  count_is : (place left : ℕ) → length (widths_from planes parts least place left) ≡ suc left
  count_is place zero = refl
  count_is place (suc left) =
      ap suc (count_is (next_place planes parts least place (suc left)) left)

  sum_is : (place left : ℕ) → place + suc left * least ≤ length planes
      → place + sum_of (widths_from planes parts least place left) ≡ length planes
  sum_is place zero room = omega (arith, room)
  sum_is place (suc left) room =
      let f = place_fits place left room in
      let next = sum_is (next_place planes parts least place (suc left)) left f.1 in
      adds place (next_place planes parts least place (suc left)) least
      (sum_of (widths_from planes parts least (next_place planes parts least place (suc left))
      left)) (length planes) f.0 next
    where
      adds : (place next least rest n : ℕ) → place + least ≤ next → next + rest ≡ n
          → place + (next - place + rest) ≡ n
      adds place next least rest n l e = omega (arith, l, e)

  each_is : (place left : ℕ) → place + suc left * least ≤ length planes
      → All (λ w. least ≤ w) (widths_from planes parts least place left)
  each_is place zero room =
      All-cons (λ w. least ≤ w) (length planes - place) []
      (wide place (suc zero * least) (length planes) (omega arith) room) (All-nil (λ w. least ≤ w))
    where
      wide : (place one n : ℕ) → one ≡ least → place + one ≤ n → least ≤ n - place
      wide place one n e r = omega (arith, e, r)
  each_is place (suc left) room =
      let f = place_fits place left room in
      All-cons (λ w. least ≤ w) (next_place planes parts least place (suc left) - place)
      (widths_from planes parts least (next_place planes parts least place (suc left)) left)
      (apart place (next_place planes parts least place (suc left)) f.0)
      (each_is (next_place planes parts least place (suc left)) left f.1)
    where
      apart : (place next : ℕ) → place + least ≤ next → least ≤ next - place
      apart place next l = omega (arith, l)

pub chosen_fits : (planes : List ℕ) (parts least : ℕ) → HasRoom planes parts least
    → WidthsFit planes parts least (chosen planes parts least)
chosen_fits planes zero least c = absurd (omega (arith, c.some_part))
chosen_fits planes (suc left) least c =
    record {
      count = count_is planes (suc left) least 0 left;
      sum = sym (zero-add _) ∙ sum_is planes (suc left) least 0 left (omega (arith, c.room));
      each = each_is planes (suc left) least 0 left (omega (arith, c.room));
    }

-- ---- shares

record IsFewest (times goal before : ℕ) (ws : List ℕ) (x : ℕ) : Type 0 where
  within : x ≤ length ws
  reached : goal ≤ times * (before + sum_of (take x ws))
  least : (y : ℕ) → y < x → times * (before + sum_of (take y ws)) < goal

fewest_is : (times goal before : ℕ) (ws : List ℕ) → goal ≤ times * (before + sum_of ws)
    → IsFewest times goal before ws (fewest times goal before ws)
fewest_is times goal before [] enough =
    record { within = omega arith; reached = enough; least = λ y l. absurd (omega (arith, l)) }
fewest_is times goal before (w ∷ ws) enough =
    go (leb_tells goal (times * before))
    (fewest_is times goal (before + w) ws
    (subst (λ n. goal ≤ times * n) (sym (assoc before w (sum_of ws))) enough))
  where
    below : times * before < goal
        → ((y : ℕ) → y < fewest times goal (before + w) ws
        → times * (before + w + sum_of (take y ws)) < goal)
        → (y : ℕ) → y < suc (fewest times goal (before + w) ws)
        → times * (before + sum_of (take y (w ∷ ws))) < goal
    below big more zero l = subst (λ n. times * n < goal) (sym (none_more before)) big
    below big more (suc y) l =
        subst (λ n. times * n < goal) (assoc before w (sum_of (take y ws)))
        (more y (omega (arith, l)))

    go : ((leb goal (times * before) ≡ true) × (goal ≤ times * before))
        ⊎ ((leb goal (times * before) ≡ false) × (times * before < goal))
        → IsFewest times goal (before + w) ws (fewest times goal (before + w) ws)
        → IsFewest times goal before (w ∷ ws) (fewest times goal before (w ∷ ws))
    go (inl h) rest =
        subst (IsFewest times goal before (w ∷ ws))
        (sym (ap (λ b. cond b 0 (suc (fewest times goal (before + w) ws))) h.0))
        (record {
          within = omega arith;
          reached = subst (λ n. goal ≤ times * n) (sym (none_more before)) h.1;
          least = λ y l. absurd (omega (arith, l));
        })
    go (inr h) rest =
        subst (IsFewest times goal before (w ∷ ws))
        (sym (ap (λ b. cond b 0 (suc (fewest times goal (before + w) ws))) h.0))
        (record {
          within = omega (arith, rest.within);
          reached = subst (λ n. goal ≤ times * n)
              (assoc before w (sum_of (take (fewest times goal (before + w) ws) ws))) rest.reached;
          least = below h.1 rest.least;
        })

pub share_end_is : (planes : List ℕ) (parts j : ℕ) → j ≤ parts
    → IsShareEnd planes parts j (share_end planes parts j)
share_end_is planes parts j few =
    let f = fewest_is parts (j * sum_of planes) 0 planes
    (subst (λ n. j * sum_of planes ≤ parts * n) (sym (zero-add (sum_of planes)))
    (le_times j parts (sum_of planes) few)) in
    record {
      within = f.within;
      reached = subst (λ n. j * sum_of planes ≤ parts * n) (zero-add _) f.reached;
      fewest = λ y l. subst (λ n. parts * n < j * sum_of planes) (zero-add _) (f.least y l);
    }

-- ---- what a part weighs

one_more : (ws : List ℕ) (x : ℕ) → sum_of (take (suc x) ws) ≤ sum_of (take x ws) + heaviest ws
one_more [] x = omega arith
one_more (w ∷ ws) zero = omega arith
one_more (w ∷ ws) (suc x) = let l = one_more ws x in omega (arith, l)

heavy : (ws : List ℕ) → All (λ w. 1 ≤ w) ws → 1 ≤ length ws → 1 ≤ heaviest ws
heavy [] all some = absurd (omega (arith, some))
heavy (w ∷ ws) all some = let l = All-head (λ w. 1 ≤ w) w ws all in omega (arith, l)

module _ (planes : List ℕ) (parts least : ℕ) (some : 1 ≤ parts) (heavy : 1 ≤ heaviest planes) where
  plane : parts * 1 ≤ parts * heaviest planes
  plane = times_le parts 1 (heaviest planes) heavy

  -- the next share doesn't end before this one
  rises : (j x y : ℕ) → IsShareEnd planes parts j x → IsShareEnd planes parts (suc j) y → x ≤ y
  rises j x y a b = go (cases_lt y x)
    where
      go : (y < x) ⊎ (x ≤ y) → x ≤ y
      go (inr l) = l
      go (inl l) =
          let small = a.fewest y l in
          let more = suc-mul j (sum_of planes) in
          let enough = b.reached in
          absurd (omega (arith, small, more, enough))

  -- a part between two of them
  within : (j x y : ℕ) → IsShareEnd planes parts j x → IsShareEnd planes parts (suc j) y
      → parts * weight planes y < parts * weight planes x + sum_of planes + parts * heaviest planes
  within j x zero a b =
      let none : parts * 0 ≡ 0 = omega arith in
      let p = plane in
      omega (arith, none, p, some)
  within j x (suc y) a b =
      let small = b.fewest y (omega arith) in
      let more = suc-mul j (sum_of planes) in
      let enough = a.reached in
      let step = times_le parts (weight planes (suc y)) (weight planes y + heaviest planes)
      (one_more planes y) in
      let split = times_more parts (weight planes y) (heaviest planes) in
      omega (arith, small, more, enough, step, split)

  -- the last part
  last : (j x y : ℕ) → suc j ≡ parts → y ≡ length planes → IsShareEnd planes parts j x
      → parts * weight planes y < parts * weight planes x + sum_of planes + parts * heaviest planes
  last j x y e f a =
      let whole : weight planes y ≡ sum_of planes =
      ap sum_of (take_all y planes (omega (arith, f))) in
      let all : parts * weight planes y ≡ suc j * sum_of planes =
      ap (λ n. parts * n) whole ∙ ap (λ n. n * sum_of planes) (sym e) in
      let more = suc-mul j (sum_of planes) in
      let enough = a.reached in
      let p = plane in
      omega (arith, all, more, enough, p, some)

  weighs : (left place j : ℕ) → j + suc left ≡ parts → IsShareEnd planes parts j place
      → AreFairFrom planes parts least place left
      → WeighAboutFrom planes parts place (widths_from planes parts least place left)
  weighs zero place j e a fair = (
    last j place (place + (length planes - place)) (omega (arith, e))
        (let w = a.within in omega (arith, w)) a,
    tt,
  )
  weighs (suc left) place j e a fair =
      let there : parts - suc left ≡ suc j = omega (arith, e) in
      let is : next_place planes parts least place (suc left) ≡ share_end planes parts (suc j) =
      fair.0 ∙ ap (share_end planes parts) there in
      let b = subst (IsShareEnd planes parts (suc j)) (sym is)
      (share_end_is planes parts (suc j) (omega (arith, e))) in
      let l = rises j place (next_place planes parts least place (suc left)) a b in
      let back : place + (next_place planes parts least place (suc left) - place)
      ≡ next_place planes parts least place (suc left) = omega (arith, l) in (
        subst (λ n. parts * weight planes n
            < parts * weight planes place + sum_of planes + parts * heaviest planes) (sym back)
            (within j place (next_place planes parts least place (suc left)) a b),
        subst (λ n. WeighAboutFrom planes parts n
            (widths_from planes parts least (next_place planes parts least place (suc left)) left))
            (sym back)
            (weighs left (next_place planes parts least place (suc left)) (suc j) (omega (arith, e))
            b fair.1),
      )

-- there is a plane
planes_there : (planes : List ℕ) (parts least : ℕ) → HasRoom planes parts least → 1 ≤ length planes
planes_there planes zero least c = absurd (omega (arith, c.some_part))
planes_there planes (suc left) least c =
    let r = c.room in
    let m = suc-mul left least in
    let l = c.some_width in
    omega (arith, r, m, l)

pub chosen_even : (planes : List ℕ) (parts least : ℕ) → HasRoom planes parts least
    → All (λ w. 1 ≤ w) planes → ArePlacesFair planes parts least
    → WeighAbout planes parts (chosen planes parts least)
chosen_even planes zero least room weights fair = tt
chosen_even planes (suc left) least room weights fair =
    let some = heavy planes weights (planes_there planes (suc left) least room) in
    weighs planes (suc left) least room.some_part some left 0 0 (omega arith)
    (share_end_zero planes (suc left)) fair
  where
    share_end_zero : (planes : List ℕ) (parts : ℕ) → IsShareEnd planes parts 0 0
    share_end_zero planes parts =
        record {
          within = omega arith;
          reached = omega arith;
          fewest = λ y l. absurd (omega (arith, l));
        }

-- ---- what `choose` answers

pub answer_fits : (planes : List ℕ) (parts least : ℕ) (widths : List ℕ)
    → CanChoose planes parts least → widths ≡ chosen planes parts least
    → WidthsFit planes parts least widths
answer_fits planes parts least widths can e =
    subst (WidthsFit planes parts least) (sym e) (chosen_fits planes parts least can.room)

pub answer_even : (planes : List ℕ) (parts least : ℕ) (widths : List ℕ)
    → CanChoose planes parts least → widths ≡ chosen planes parts least
    → ArePlacesFair planes parts least → WeighAbout planes parts widths
answer_even planes parts least widths can e fair =
    subst (WeighAbout planes parts) (sym e)
    (chosen_even planes parts least can.room can.some_weight fair)
