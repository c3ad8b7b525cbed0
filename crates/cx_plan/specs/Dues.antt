-- When checkpoints and outputs are due.
use Rattle.std.specs.Prelude.{ℕ, zero, suc, ◌%◌, Bool, false, ◌&&◌, ◌||◌, ◌==◌, nat_le, ℤ, pos, negsuc}
use Rattle.cx_plan.specs.Setups.{Setup}

-- whether a number that is at least 1 divides
abbrev pub is_each : ℤ → ℕ → Bool
is_each (pos zero) n = false
is_each (pos (suc k)) n = n % suc k == 0
is_each (negsuc k) n = false

-- whether a checkpoint is due at an iteration, by the last one, the step, and whether the last one
-- has one
abbrev pub is_due_by : (itlast : ℕ) (every : ℤ) (on_end : Bool) (n : ℕ) → Bool
is_due_by itlast every on_end zero = false
is_due_by itlast every on_end (suc n) =
    nat_le (suc n) itlast && (is_each every (suc n) || (on_end && suc n == itlast))

abbrev pub is_due : Setup → ℕ → Bool
is_due setup n = is_due_by setup.itlast setup.chk_every setup.on_end n

-- whether the variables are written at an iteration; 0 is divided by each number
abbrev pub is_written : Setup → ℕ → Bool
is_written setup n = is_each setup.out_every n
