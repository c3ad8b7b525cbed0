-- Numbers near 0, of which no sum on the way to the next number leaves 64 bits.
use Rattle.std.specs.Prelude.{ℕ, ℤ, pos, negsuc, ◌+◌, ◌<◌, ◌≤◌, ◌≤ℤ◌, ◌^◌, List}
use Rattle.cx_thorn_pde.specs.Rows.{number_at, RowValues}
use Rattle.cx_thorn_pde.specs.declared.star.Star.{Star}

-- a number about 2^40 from 0 at most, and a factor about 2^16 from 0 at most
pub record IsNear (n : ℤ) : Type 0 where
  pub low : negsuc (2 ^ 40) ≤ℤ n
  pub high : n ≤ℤ pos (2 ^ 40)

pub record IsSmall (factor : ℤ) : Type 0 where
  pub low : negsuc (2 ^ 16) ≤ℤ factor
  pub high : factor ≤ℤ pos (2 ^ 16)

-- the numbers of a row from a place on, before another place
abbrev pub AreNear : List ℤ → (from to : ℕ) → Type 0
AreNear ns from to = (i : ℕ) → from ≤ i → i < to → IsNear (number_at ns i)

-- a number and its neighbours
pub record IsNearStar (s : Star) : Type 0 where
  pub here : IsNear s.here
  pub left : IsNear s.left
  pub right : IsNear s.right
  pub below : IsNear s.below
  pub above : IsNear s.above
  pub under : IsNear s.under
  pub over : IsNear s.over

-- all numbers that the next ones at the places are computed from
pub record AreNearRows (r : RowValues) (from to : ℕ) : Type 0 where
  pub before : AreNear r.before from to
  pub row : AreNear r.row from (to + 2)
  pub below : AreNear r.below (from + 1) (to + 1)
  pub above : AreNear r.above (from + 1) (to + 1)
  pub under : AreNear r.under (from + 1) (to + 1)
  pub over : AreNear r.over (from + 1) (to + 1)
