-- How much of a run is left to do, by where its parts stand alone.
use Rattle.std.specs.Prelude.{ℕ, zero, suc, ◌+◌, ◌-◌, ◌*◌, ◌^◌, Bool, true, false, List, [], ◌∷◌, length, Option, Some, None}
use Rattle.cx_plan.specs.Setups.{Setup}
use Rattle.cx_flat.specs.Code.{code}
use Rattle.cx_flat.specs.Flats.{Control}
use Rattle.cx_flat.specs.Ways.{key}
use Rattle.cx_core_place.specs.Steps.{most_open}
use Rattle.cx_core_events.specs.declared.standing.Standing.{Standing}
use Rattle.cx_core_events.specs.Paces.{Paces, part_of}

-- above each number of a place's key, and how many numbers a key has at most
unfoldable pub key_base : Setup → ℕ
key_base setup = suc (setup.itlast + setup.while_limit + length (code setup))

unfoldable pub key_length : ℕ
key_length = 2 * most_open + 2

-- a list of so many digits, read as a number
abbrev pub rank_of : (base digits : ℕ) → List ℕ → ℕ
rank_of base zero xs = 0
rank_of base (suc n) [] = 0
rank_of base (suc n) (x ∷ xs) = x * base ^ n + rank_of base n xs

-- the rank of a place among all places, and a number above all ranks
unfoldable pub place_rank : Setup → Control → ℕ
place_rank setup place = rank_of (key_base setup) key_length (key place)

unfoldable pub rank_limit : Setup → ℕ
rank_limit setup = key_base setup ^ key_length

-- the places that are left to some parts
abbrev pub places_left : Setup → List Standing → ℕ
places_left setup [] = 0
places_left setup (s ∷ ss) = (rank_limit setup - place_rank setup s.place) + places_left setup ss

-- the rank of the least end that was met, and whether the run goes on
abbrev pub stop_left : Setup → Paces → Option ℕ → ℕ
stop_left setup p None = suc (rank_limit setup)
stop_left setup p (Some j) = place_rank setup (part_of p j).place

abbrev pub going_left : Bool → ℕ
going_left false = 1
going_left true = 0

-- An operation may hand in one more work. So each place that is left counts twice.
unfoldable pub steps_left : Setup → Paces → ℕ
steps_left setup p = 2 * places_left setup p.parts + length p.works + stop_left setup p p.stopped
    + going_left p.over
