-- One walk along the planes of a direction, from share to share.
use Rattle.std.specs.Prelude.{ℕ, suc, ◌+◌, ◌-◌, ◌*◌, ◌<◌, ◌≤◌, ◌≡◌, List, length, ◌++◌}
use Rattle.cx_cut.specs.Axis.{sum_of}
use Rattle.cx_balance.specs.Choosing.{weight, widths_from, chosen}

-- the walk has come so far, what lies before weighs so much, and no fewer planes reach the goal
pub record HasWalked (planes : List ℕ) (parts goal end weighs : ℕ) : Type 0 where
  pub within : end ≤ length planes
  pub sum : weighs ≡ weight planes end
  pub before : (y : ℕ) → y < end → parts * weight planes y < goal

-- the widths before part j are chosen, which begins at a place
pub record IsChoosing (planes : List ℕ) (parts least j place : ℕ) (widths : List ℕ)
    (end weighs : ℕ) : Type 0 where
  pub some : 1 ≤ j
  pub within : j ≤ parts
  pub room : place + suc (parts - j) * least ≤ length planes
  pub walk : HasWalked planes parts (j * sum_of planes) end weighs
  pub built : widths ++ widths_from planes parts least place (parts - j)
      ≡ chosen planes parts least
