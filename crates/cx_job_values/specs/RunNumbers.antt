-- The numbers, the flags and the texts of a run, by the values of the built-in parameters.
use Rattle.std.specs.Prelude.{ℕ, Bool, ℤ, pos, negsuc, List, codes, if◌then◌else◌}
use Rattle.std.specs.Ordering.{int_eq}
use Rattle.cx_plan.specs.declared.job.Recover.{Recover}
use Rattle.cx_plan.specs.declared.job.Recover.TheVariants.{No, Auto, Autoprobe}
use Rattle.cx_values.specs.declared.values.Values.{Values}
pub use Rattle.cx_values.specs.Numbers.{itlast, checkpoint_every, on_end}
use Rattle.cx_job_values.specs.Grids.{number_at, number_within, natural_within, holds_at, text_at}

abbrev pub while_limit : Values → ℕ
while_limit v = natural_within v 1 1000000 (codes "driver::while_limit")

abbrev pub lead : Values → ℕ
lead v = natural_within v 0 64 (codes "driver::lead")

-- whether a checkpoint cuts the grid anew
abbrev pub balance : Values → Bool
balance v = holds_at v (codes "driver::balance")

-- the name of the variable that weighs; without one each point weighs 1
abbrev pub weight_name : Values → List ℕ
weight_name v = text_at v (codes "driver::weight")

abbrev pub weight_factor : Values → ℕ
weight_factor v = natural_within v 0 1048576 (codes "driver::weight_factor")

abbrev pub out_every : Values → ℤ
out_every v = number_within v (negsuc 0) (pos 1000000) (codes "IO::out_every")

abbrev pub keep : Values → ℕ
keep v = natural_within v 1 7 (codes "IO::checkpoint_keep")

abbrev pub out_dir : Values → List ℕ
out_dir v = text_at v (codes "IO::out_dir")

abbrev pub checkpoint_dir : Values → List ℕ
checkpoint_dir v = text_at v (codes "IO::checkpoint_dir")

-- the name of the steer file; without one no file steers
abbrev pub steer_file : Values → List ℕ
steer_file v = text_at v (codes "IO::steer_file")

-- how a run begins, by the place of the word among no, auto and autoprobe
abbrev pub recover_by : ℤ → Recover
recover_by n = if int_eq n (pos 1) then Auto else (if int_eq n (pos 2) then Autoprobe else No)

abbrev pub recover_of : Values → Recover
recover_of v = recover_by (number_at v (codes "IO::recover"))
