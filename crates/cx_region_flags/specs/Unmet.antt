-- The first need of a step that is not met.
use Rattle.std.specs.Prelude.{ℕ, List, [], ◌∷◌, if◌then◌else◌, map, Option, not, find, Bool, ◌&&◌}
use Rattle.cx_grid.specs.declared.shapes.Shape.{Shape}
use Rattle.cx_plan.specs.declared.flag.Flag.{Flag}
use Rattle.cx_plan.specs.declared.flag.Flag.TheVariants.{I, B, S}
use Rattle.cx_plan.specs.Lookups.{is_scalar}
use Rattle.cx_plan.specs.declared.job.Job.{Job}
use Rattle.cx_plan.specs.declared.variable.VarId.{VarId}
use Rattle.cx_plan.specs.Setups.{Setup, setup_of}
use Rattle.cx_plan.specs.Regions.{Need, Flags, Act, needs, is_met, is_B, has_boundary}
use Rattle.cx_region_flags.specs.declared.flags.LevelFlags.{LevelFlags}
use Rattle.cx_region_flags.specs.declared.unmet.Unmet.{Unmet}
use Rattle.cx_region_flags.specs.Cells.{flags_in}

-- a need with the lent words
abbrev pub seen : Unmet → Need
seen u = record { place = u.place.now; var = u.var; level = u.level; flag = u.flag }

abbrev pub is_unmet : Setup → Flags → Need → Bool
is_unmet setup flags n = not (is_met setup flags n)

abbrev pub first_unmet_of : Setup → Flags → List Need → Option Need
first_unmet_of setup flags ns = find (is_unmet setup flags) ns

-- the first of these needs that isn't met where these cells are set
abbrev pub first_unmet_in : Job → List LevelFlags → List Need → Option Need
first_unmet_in job cells ns = first_unmet_of (setup_of job) (flags_in cells) ns

-- the first need of a step that isn't met where these cells are set
abbrev pub unmet_at : Job → List LevelFlags → Act → Option Need
unmet_at job cells act = first_unmet_in job cells (needs (setup_of job) act)

-- the needs of these flags of a level
abbrev pub needs_of_flags : List ℕ → VarId → ℕ → List Flag → List Need
needs_of_flags place v level flags =
    map (λ f. record { place = place; var = v; level = level; flag = f }) flags

-- the flags that output of a variable needs
abbrev pub output_flags : Setup → VarId → List Flag
output_flags setup v = if is_scalar setup v then S ∷ [] else I ∷ B ∷ []

-- a flag of points that there are none of: that of boundary points, on a grid without
abbrev pub is_of_no_point : Shape → Flag → Bool
is_of_no_point shape f = is_B f && not (has_boundary shape)
