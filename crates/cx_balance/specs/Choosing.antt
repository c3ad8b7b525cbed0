-- The widths of a direction's parts, by the weights of its planes.
use Rattle.std.specs.Prelude.{ℕ, zero, suc, ◌+◌, ◌-◌, ◌*◌, ◌^◌, ◌<◌, ◌≤◌, ◌≡◌, min, max, nat_le}
use Rattle.std.specs.Prelude.{List, [], ◌∷◌, length, take, All, if◌then◌else◌}
use Rattle.cx_cut.specs.Axis.{sum_of}

-- what the first so many planes weigh
abbrev pub weight : List ℕ → ℕ → ℕ
weight planes x = sum_of (take x planes)

-- ---- where parts begin

-- The fewest planes whose weight reaches a goal, where each counts so many times. The planes before
-- them weigh so much.
abbrev pub fewest : (times goal before : ℕ) → List ℕ → ℕ
fewest times goal before [] = 0
fewest times goal before (w ∷ ws) =
    if nat_le goal (times * before) then 0 else suc (fewest times goal (before + w) ws)

-- After how many planes j of the shares end. A share is the weight of all planes by the number of
-- parts.
abbrev pub share_end : List ℕ → (parts j : ℕ) → ℕ
share_end planes parts j = fewest parts (j * sum_of planes) 0 planes

-- Where the next part begins, with so many parts left: where its share does, but at least so many
-- planes after the last place, and so many planes for each part that is left before the end.
abbrev pub next_place : List ℕ → (parts least place left : ℕ) → ℕ
next_place planes parts least place left =
    min (max (share_end planes parts (parts - left)) (place + least)) (length planes - left * least)

-- the widths of a part that begins at a place, and of so many parts after it
abbrev pub widths_from : List ℕ → (parts least place left : ℕ) → List ℕ
widths_from planes parts least place zero = (length planes - place) ∷ []
widths_from planes parts least place (suc left) =
    (next_place planes parts least place (suc left) - place)
    ∷ widths_from planes parts least (next_place planes parts least place (suc left)) left

-- the widths of so many parts, each at least so wide
abbrev pub chosen : List ℕ → (parts least : ℕ) → List ℕ
chosen planes zero least = []
chosen planes (suc left) least = widths_from planes (suc left) least 0 left

-- ---- what is asked

-- there is room for so many parts, each at least so wide
pub record HasRoom (planes : List ℕ) (parts least : ℕ) : Type 0 where
  pub some_part : 1 ≤ parts
  pub some_width : 1 ≤ least
  pub room : parts * least ≤ length planes

-- at most 2^24 planes, each of which weighs from 1 to 2^70
pub record AreWeights (planes : List ℕ) : Type 0 where
  pub few : length planes ≤ 16777216
  pub some : All (λ w. 1 ≤ w) planes
  pub most : All (λ w. w ≤ 2 ^ 70) planes

-- there is room, and 128 bits hold the weight of all planes as many times as there are parts
pub record CanChoose (planes : List ℕ) (parts least : ℕ) : Type 0 where
  pub room : HasRoom planes parts least
  pub few_parts : parts ≤ 512
  pub few_planes : length planes ≤ 16777216
  pub some_weight : All (λ w. 1 ≤ w) planes
  pub most_weight : All (λ w. w ≤ 2 ^ 70) planes

-- ---- what is said

-- as many widths as parts, which have all planes together, and none below the least
pub record WidthsFit (planes : List ℕ) (parts least : ℕ) (widths : List ℕ) : Type 0 where
  pub count : length widths ≡ parts
  pub sum : sum_of widths ≡ length planes
  pub each : All (λ w. least ≤ w) widths

-- j of the shares end after x planes: the fewest that weigh them
pub record IsShareEnd (planes : List ℕ) (parts j x : ℕ) : Type 0 where
  pub within : x ≤ length planes
  pub reached : j * sum_of planes ≤ parts * weight planes x
  pub fewest : (y : ℕ) → y < x → parts * weight planes y < j * sum_of planes

-- each part begins where its share does: from a place on, with so many parts left
abbrev pub AreFairFrom : List ℕ → (parts least place left : ℕ) → Type 0
AreFairFrom planes parts least place zero = Unit {0}
AreFairFrom planes parts least place (suc left) =
    (next_place planes parts least place (suc left) ≡ share_end planes parts (parts - suc left))
    × AreFairFrom planes parts least (next_place planes parts least place (suc left)) left

abbrev pub ArePlacesFair : List ℕ → (parts least : ℕ) → Type 0
ArePlacesFair planes zero least = Unit {0}
ArePlacesFair planes (suc left) least = AreFairFrom planes (suc left) least 0 left

-- the greatest weight of a plane
abbrev pub heaviest : List ℕ → ℕ
heaviest [] = 0
heaviest (w ∷ ws) = max w (heaviest ws)

-- each part weighs less than a share and one plane; the first part begins at a place
abbrev pub WeighAboutFrom : List ℕ → (parts place : ℕ) → List ℕ → Type 0
WeighAboutFrom planes parts place [] = Unit {0}
WeighAboutFrom planes parts place (w ∷ ws) =
    (parts * weight planes (place + w)
    < parts * weight planes place + sum_of planes + parts * heaviest planes)
    × WeighAboutFrom planes parts (place + w) ws

abbrev pub WeighAbout : List ℕ → (parts : ℕ) → List ℕ → Type 0
WeighAbout planes parts widths = WeighAboutFrom planes parts 0 widths
