-- The numbers and the flags of built-in parameters, and when a checkpoint is due by them.
use Rattle.std.specs.Prelude.{ℕ, Bool, false, ℤ, pos, negsuc, unsigned_abs, List, codes, None}
use Rattle.std.specs.Int.{int_min, int_max}
use Rattle.std.specs.Option.{option_map, unwrap_or}
use Rattle.cx_plan.specs.Dues.{is_due_by}
use Rattle.cx_param.specs.declared.ranges.Value.{Value}
use Rattle.cx_param.specs.declared.ranges.Value.TheVariants.{Number, Flag, Text}
use Rattle.cx_values.specs.declared.numbers.Dues.{Dues}
use Rattle.cx_values.specs.declared.values.Values.{Values}
use Rattle.cx_values.specs.Assigned.{get, number}

-- A number between two ends is itself; any other one stands for the nearer end.
abbrev pub within : ℤ → ℤ → ℤ → ℤ
within low high n = int_max low (int_min n high)

-- the number of the built-in parameter of a full name
abbrev pub number_at : Values → List ℕ → ℤ
number_at v full = unwrap_or (number v full None) (pos 0)

-- the number of one whose range in the table of built-in parameters has these ends
abbrev pub number_within : Values → ℤ → ℤ → List ℕ → ℤ
number_within v low high full = within low high (number_at v full)

abbrev pub natural_within : Values → ℕ → ℕ → List ℕ → ℕ
natural_within v low high full = unsigned_abs (number_within v (pos low) (pos high) full)

abbrev pub is_on : Value → Bool
is_on (Flag b) = b
is_on (Number n) = false
is_on (Text text) = false

abbrev pub holds_at : Values → List ℕ → Bool
holds_at v full = unwrap_or (option_map is_on (get v full None)) false

-- ---- when a checkpoint is due

abbrev pub itlast : Values → ℕ
itlast v = natural_within v 0 1000000 (codes "Cactus::cctk_itlast")

abbrev pub checkpoint_every : Values → ℤ
checkpoint_every v = number_within v (negsuc 0) (pos 1000000) (codes "IO::checkpoint_every")

abbrev pub on_end : Values → Bool
on_end v = holds_at v (codes "IO::checkpoint_on_terminate")

abbrev pub dues_of : Values → Dues
dues_of v = record { itlast = itlast v; every = checkpoint_every v; on_end = on_end v }

-- a checkpoint is due at iteration n
abbrev pub is_due_in : Dues → ℕ → Bool
is_due_in dues n = is_due_by dues.itlast dues.every dues.on_end n
