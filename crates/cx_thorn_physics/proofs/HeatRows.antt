-- Rows of heat that a rule sees, and what they gain.
use Rattle.std.proofs.Common.{◌≡◌, ◌≢◌, ℕ, ◌+◌, ◌<◌, ◌≤◌, arith, refl, sym, ap, ◌∙◌, subst, ◌⊎◌, inl, inr, ℤ, pos, negsuc, ◌+ℤ◌, ◌-ℤ◌, List, length, slice_set, Option, Some, Bool, true, false, nat_lt}
use Rattle.std.specs.Prelude.{if◌then◌else◌}
use Rattle.std.proofs.lemmas.Bool.{cases_eq}
use Rattle.std.proofs.lemmas.Int.{ints}
use Rattle.std.proofs.lemmas.List.{get_or-set_same, get_or-set_other}
use Rattle.cx_rule.specs.Place.{param_of}
use Rattle.cx_rule.specs.Rows.{SeenRow, ShowsAlong, GivesRow, LacksOne, reach_at, offset_from}
use Rattle.cx_rule.specs.Seen.{Seen, value_of}
use Rattle.cx_rule.specs.Single.{here, one_number}
use Rattle.cx_thorn_physics.specs.Exact.{in_64_bits}
use Rattle.cx_thorn_physics.specs.Flux.{flow_between, gain_between, gain, gain_if, gains, spot_at, heatflux_step_rule}
use Rattle.cx_thorn_physics.specs.Offsets.{step}
use Rattle.cx_thorn_physics.specs.Rows.{number_at, AreGiven, LacksIn, RowValues, ShowsRows, if_has, spot_of, gain_x, gain_y, gain_z, heat_at}
use Rattle.cx_thorn_physics.specs.declared.flow.Spot.{Spot}

pub one_given : (f : ℕ → Option ℤ) (ns : List ℤ) (k : ℕ) (n : ℤ) → k < length ns → Some n ≡ f k
    → AreGiven f ns k → AreGiven f (slice_set ns k n) (k + 1)
one_given f ns k n room is before i l = go (cases_eq i k)
  where
    go : (i ≡ k) ⊎ (i ≢ k) → f i ≡ Some (number_at (slice_set ns k n) i)
    go (inl same) =
        subst (λ j. f j ≡ Some (number_at (slice_set ns k n) j)) (sym same)
        (sym is ∙ ap Some (sym (get_or-set_same ns k n (pos 0) room)))
    go (inr other) = before i (omega (arith, other))
        ∙ ap Some (sym (get_or-set_other ns k i n (pos 0) other))

-- ---- what rows show

shown_at : (r : SeenRow) (k : ℕ) (y z : ℤ) (ns : List ℤ) (i j : ℕ) → reach_at r k ≡ 1
    → ShowsAlong r k y z ns → i < r.count → j ≤ 2
    → number_at ns (i + j) ≡ value_of (r.seen i) k (offset_from 1 y z j)
shown_at r k y z ns i j reach shows l h =
    subst (λ m. number_at ns (i + j) ≡ value_of (r.seen i) k (offset_from m y z j)) reach
    (shows.each i j l (rw reach h))

first_shown : (r : SeenRow) (k : ℕ) (y z : ℤ) (ns : List ℤ) (i : ℕ) → reach_at r k ≡ 1
    → ShowsAlong r k y z ns → i < r.count
    → number_at ns i ≡ value_of (r.seen i) k (offset_from 1 y z 0)
first_shown r k y z ns i reach shows l =
    let none : i ≡ i + 0 = omega arith in
    ap (number_at ns) none ∙ shown_at r k y z ns i 0 reach shows l (omega arith)

-- the rows of heat and of its mask around a row
pub record ShowsHeat (r : SeenRow) (u m : RowValues) : Type 0 where
  pub some : 1 ≤ r.dims
  pub dims : (i : ℕ) → (r.seen i).dims ≡ r.dims
  pub reach : reach_at r 0 ≡ 1
  pub mask_reach : reach_at r 1 ≡ 1
  pub heat : ShowsRows r 0 u
  pub mask : ShowsRows r 1 m

same_spot : (a b c d : ℤ) → a ≡ c → b ≡ d
    → ◌≡◌ {A = Spot} record { mask = a; heat = b } record { mask = c; heat = d }
same_spot a b c d p q i = record { mask = p i; heat = q i }

-- ---- gains

same_gain : (factor : ℤ) (a b c d e f : Spot) → a ≡ b → c ≡ d → e ≡ f
    → gain_between factor a c e ≡ gain_between factor b d f
same_gain factor a b c d e f p q r = rw (p, q, r) refl

no_gain : (factor : ℤ) (a : Spot) → gain_between factor a a a ≡ pos 0
no_gain factor a = none (flow_between factor a a)
  where
    none : (n : ℤ) → n -ℤ n ≡ pos 0
    none n = omega (arith, ints)

gain_along : (factor : ℤ) (w : Seen) (d : ℕ) (has : Bool) (down point up : Spot)
    → down ≡ spot_at w (step d (if_has has (negsuc 0))) → point ≡ spot_at w here
    → up ≡ spot_at w (step d (if_has has (pos 1)))
    → spot_at w (step d (pos 0)) ≡ spot_at w here
    → gain_between factor down point up ≡ if has then gain w factor d else pos 0
gain_along factor w d true down point up p q r same = same_gain factor _ _ _ _ _ _ p q r
gain_along factor w d false down point up p q r same =
    same_gain factor _ _ _ _ _ _ (p ∙ same) q (r ∙ same) ∙ no_gain factor (spot_at w here)

is_some : (n d : ℕ) → n ≡ d → 1 ≤ d → nat_lt 0 n ≡ true
is_some n d e h = grind (arith, e, h)

same_sum : (a b c d e f g h : ℤ) → a ≡ b → c ≡ d → e ≡ f → g ≡ h
    → a +ℤ (c +ℤ e +ℤ g) ≡ b +ℤ (d +ℤ f +ℤ h)
same_sum a b c d e f g h p q r t = rw (p, q, r, t) refl

heat_is : (r : SeenRow) (factor : ℤ) (u m : RowValues) (i : ℕ) → ShowsHeat r u m → i < r.count
    → heat_at factor u m i
    ≡ in_64_bits (value_of (r.seen i) 0 here +ℤ gains (r.seen i) factor)
heat_is r factor u m i a l =
    let w = r.seen i in
    let one : 1 ≤ 2 = omega arith in
    let heat = shown_at r 0 (pos 0) (pos 0) u.row i 1 a.reach a.heat.row l one in
    let middle : spot_of u.row m.row (i + 1) ≡ spot_at w here =
    same_spot _ _ _ _ (shown_at r 1 (pos 0) (pos 0) m.row i 1 a.mask_reach a.mask.row l one) heat in
    let right : spot_of u.row m.row (i + 2) ≡ spot_at w (step 0 (pos 1)) =
    same_spot _ _ _ _
    (shown_at r 1 (pos 0) (pos 0) m.row i 2 a.mask_reach a.mask.row l (omega arith))
    (shown_at r 0 (pos 0) (pos 0) u.row i 2 a.reach a.heat.row l (omega arith)) in
    let left : spot_of u.row m.row i ≡ spot_at w (step 0 (negsuc 0)) =
    same_spot _ _ _ _ (first_shown r 1 (pos 0) (pos 0) m.row i a.mask_reach a.mask.row l)
    (first_shown r 0 (pos 0) (pos 0) u.row i a.reach a.heat.row l) in
    let below : spot_of u.below m.below (i + 1)
    ≡ spot_at w (step 1 (if_has (nat_lt 1 r.dims) (negsuc 0))) =
    same_spot _ _ _ _ (shown_at r 1 _ _ m.below i 1 a.mask_reach a.mask.below l one)
    (shown_at r 0 _ _ u.below i 1 a.reach a.heat.below l one) in
    let above : spot_of u.above m.above (i + 1)
    ≡ spot_at w (step 1 (if_has (nat_lt 1 r.dims) (pos 1))) =
    same_spot _ _ _ _ (shown_at r 1 _ _ m.above i 1 a.mask_reach a.mask.above l one)
    (shown_at r 0 _ _ u.above i 1 a.reach a.heat.above l one) in
    let under : spot_of u.under m.under (i + 1)
    ≡ spot_at w (step 2 (if_has (nat_lt 2 r.dims) (negsuc 0))) =
    same_spot _ _ _ _ (shown_at r 1 _ _ m.under i 1 a.mask_reach a.mask.under l one)
    (shown_at r 0 _ _ u.under i 1 a.reach a.heat.under l one) in
    let over : spot_of u.over m.over (i + 1)
    ≡ spot_at w (step 2 (if_has (nat_lt 2 r.dims) (pos 1))) =
    same_spot _ _ _ _ (shown_at r 1 _ _ m.over i 1 a.mask_reach a.mask.over l one)
    (shown_at r 0 _ _ u.over i 1 a.reach a.heat.over l one) in
    let x : gain_x factor u m i ≡ gain_if w factor 0 =
    same_gain factor _ _ _ _ _ _ left middle right
    ∙ ap (λ (b : Bool). if b then gain w factor 0 else pos 0)
    (sym (is_some _ _ (a.dims i) a.some)) in
    let y : gain_y factor u m i ≡ gain_if w factor 1 =
    gain_along factor w 1 (nat_lt 1 r.dims) _ _ _ below middle above refl
    ∙ ap (λ n. if nat_lt 1 n then gain w factor 1 else pos 0) (sym (a.dims i)) in
    let z : gain_z factor u m i ≡ gain_if w factor 2 =
    gain_along factor w 2 (nat_lt 2 r.dims) _ _ _ under middle over refl
    ∙ ap (λ n. if nat_lt 2 n then gain w factor 2 else pos 0) (sym (a.dims i)) in
    ap in_64_bits (same_sum _ _ _ _ _ _ _ _ heat x y z)

with_factor : (r : SeenRow) (factor : ℤ) (i : ℕ) → ((i : ℕ) → factor ≡ param_of (r.place i) 0)
    → in_64_bits (value_of (r.seen i) 0 here +ℤ gains (r.seen i) factor)
    ≡ in_64_bits (value_of (r.seen i) 0 here +ℤ gains (r.seen i) (param_of (r.place i) 0))
with_factor r factor i same =
    ap (λ f. in_64_bits (value_of (r.seen i) 0 here +ℤ gains (r.seen i) f)) (same i)

pub heat_row : (r : SeenRow) (factor : ℤ) (u m : RowValues) (next : List ℤ) (n : ℕ)
    → ShowsHeat r u m → ((i : ℕ) → factor ≡ param_of (r.place i) 0) → n ≡ r.count
    → AreGiven (heat_at factor u m) next n → GivesRow heatflux_step_rule r next
heat_row r factor u m next n a same count are i l =
    let near : i < n = omega (arith, l, count) in
    ap one_number (sym (with_factor r factor i same) ∙ sym (heat_is r factor u m i a l) ∙ are i near)

pub heat_lacks : (r : SeenRow) (factor : ℤ) (u m : RowValues) (n : ℕ)
    → ShowsHeat r u m → ((i : ℕ) → factor ≡ param_of (r.place i) 0) → n ≡ r.count
    → LacksIn (heat_at factor u m) n → LacksOne heatflux_step_rule r
heat_lacks r factor u m n a same count (i, l, none) =
    let near : i < r.count = omega (arith, l, count) in (
      i,
      near,
      ap one_number
          (sym (with_factor r factor i same) ∙ sym (heat_is r factor u m i a near) ∙ none),
    )
