-- What the steps see at a point.
use Rattle.std.proofs.Common.{◌≡◌, ℕ, zero, suc, ◌≤◌, arith, refl, ap, ℤ, pos, negsuc, ◌+ℤ◌, List, [], ◌∷◌, map, nat_lt}
use Rattle.std.specs.Prelude.{if◌then◌else◌}
use Rattle.std.specs.List.{flat_map}
use Rattle.cx_grid.specs.declared.boxes.Point.{Point}
use Rattle.cx_grid.specs.Boxes.{shifted, numbers_in}
use Rattle.cx_grid.specs.Windows.{reach_box}
use Rattle.cx_plan.specs.declared.variable.VarId.{VarId}
use Rattle.cx_plan.specs.declared.item.Region.TheVariants.{Everywhere}
use Rattle.cx_plan.specs.declared.item.Touch.{Touch}
use Rattle.cx_plan.specs.declared.item.Item.{Item}
use Rattle.cx_plan.specs.Setups.{Setup}
use Rattle.cx_rule.specs.Seen.{Seen, value_of}
use Rattle.cx_rule.specs.Single.{here}
use Rattle.cx_rule.specs.Sweeps.{Values, seen_at, values_around, reach_of}
use Rattle.cx_thorn_physics.specs.Offsets.{step}
use Rattle.cx_thorn_physics.specs.Flux.{gain_between, gains}
use Rattle.cx_thorn_physics.specs.declared.flow.Spot.{Spot}
use Rattle.cx_thorn_physics.specs.Gas.{cell_of, arriving, east, north, west, south}
use Rattle.law_physics.specs.Steps.{touch_of}

-- ---- reads of reach 1

-- what several functions show around a point
abbrev pub shows : ℕ → List (Point → ℤ) → Seen
shows dims fs =
    record {
      dims = dims;
      reaches = map (λ _. 1) fs;
      values = flat_map (λ f. numbers_in (reach_box dims 1) f) fs;
    }

abbrev seen_with : Setup → Values → Point → List Touch → Seen
seen_with setup values p rs =
    record {
      dims = setup.shape.dims;
      reaches = map reach_of rs;
      values = flat_map (values_around setup values p) rs;
    }

pub two_seen : (setup : Setup) (x : Item) (values : Values) (p : Point) (u v : VarId)
    → x.reads ≡ touch_of u Everywhere 1 ∷ touch_of v Everywhere 1 ∷ []
    → seen_at setup x values p
    ≡ shows setup.shape.dims
    ((λ o. values u 0 (shifted p o)) ∷ (λ o. values v 0 (shifted p o)) ∷ [])
two_seen setup x values p u v reads =
    ap (λ (rs : List Touch). seen_with setup values p rs) reads

pub one_seen : (setup : Setup) (x : Item) (values : Values) (p : Point) (u : VarId)
    → x.reads ≡ touch_of u Everywhere 1 ∷ []
    → seen_at setup x values p ≡ shows setup.shape.dims ((λ o. values u 0 (shifted p o)) ∷ [])
one_seen setup x values p u reads =
    ap (λ (rs : List Touch). seen_with setup values p rs) reads

-- ---- what the heat gains

abbrev pub spot_by : (heat mask : Point → ℤ) → Point → Spot
spot_by heat mask p = record { mask = mask p; heat = heat p }

abbrev pub gain_by : (factor : ℤ) (heat mask : Point → ℤ) → ℕ → ℤ
gain_by factor heat mask d =
    gain_between factor (spot_by heat mask (step d (negsuc 0))) (spot_by heat mask here)
    (spot_by heat mask (step d (pos 1)))

abbrev pub gain_in : (dims : ℕ) (factor : ℤ) (heat mask : Point → ℤ) → ℕ → ℤ
gain_in dims factor heat mask d = if nat_lt d dims then gain_by factor heat mask d else pos 0

pub heat_seen : (dims : ℕ) (heat mask : Point → ℤ) → 1 ≤ dims → dims ≤ 3
    → value_of (shows dims (heat ∷ mask ∷ [])) 0 here ≡ heat here
heat_seen zero heat mask some most = absurd (omega (arith, some))
heat_seen (suc zero) heat mask some most = refl
heat_seen (suc (suc zero)) heat mask some most = refl
heat_seen (suc (suc (suc zero))) heat mask some most = refl
heat_seen (suc (suc (suc (suc n)))) heat mask some most = absurd (omega (arith, most))

pub gains_seen : (dims : ℕ) (factor : ℤ) (heat mask : Point → ℤ) → 1 ≤ dims → dims ≤ 3
    → gains (shows dims (heat ∷ mask ∷ [])) factor
    ≡ gain_in dims factor heat mask 0 +ℤ gain_in dims factor heat mask 1
    +ℤ gain_in dims factor heat mask 2
gains_seen zero factor heat mask some most = absurd (omega (arith, some))
gains_seen (suc zero) factor heat mask some most = refl
gains_seen (suc (suc zero)) factor heat mask some most = refl
gains_seen (suc (suc (suc zero))) factor heat mask some most = refl
gains_seen (suc (suc (suc (suc n)))) factor heat mask some most = absurd (omega (arith, most))

-- ---- which particles come

-- an offset along y on a grid that has that direction, and none on any other
abbrev pub up_by : (dims : ℕ) → ℤ → Point
up_by dims y = step 1 (if nat_lt 1 dims then y else pos 0)

pub arriving_seen : (dims : ℕ) (cells : Point → ℤ) → 1 ≤ dims → dims ≤ 3
    → arriving (shows dims (cells ∷ []))
    ≡ cell_of (east (cells (step 0 (negsuc 0)))) (north (cells (up_by dims (negsuc 0))))
    (west (cells (step 0 (pos 1)))) (south (cells (up_by dims (pos 1))))
arriving_seen zero cells some most = absurd (omega (arith, some))
arriving_seen (suc zero) cells some most = refl
arriving_seen (suc (suc zero)) cells some most = refl
arriving_seen (suc (suc (suc zero))) cells some most = refl
arriving_seen (suc (suc (suc (suc n)))) cells some most = absurd (omega (arith, most))
