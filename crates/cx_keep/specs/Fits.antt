-- When a checkpoint fits a job: its iteration, how many values it holds, and the values.
use Rattle.std.specs.Prelude.{ℕ, Bool, true, false, ◌&&◌, ◌==◌, bytes_eq, nat_le, ℤ, int_le, List, [], ◌∷◌, length, take, replicate, if◌then◌else◌}
use Rattle.std.specs.List.{list_all, flat_map}
use Rattle.cx_grid.specs.Boxes.{point_count}
use Rattle.cx_grid.specs.Grid.{whole}
use Rattle.cx_plan.specs.Types.{least, greatest}
use Rattle.cx_plan.specs.Dues.{is_due}
use Rattle.cx_plan.specs.Setups.{setup_of}
use Rattle.cx_plan.specs.declared.variable.VarInfo.{VarInfo}
use Rattle.cx_plan.specs.declared.job.Job.{Job}
use Rattle.cx_outputs.specs.Names.{output_names}
use Rattle.cx_chk.specs.declared.checkpoint.Checkpoint.{Checkpoint}
use Rattle.cx_plan.specs.Whole.{scalar_count, level_count}

-- the variables of so many items each, item by item
abbrev pub variables_by : (VarInfo → ℕ) → List VarInfo → List VarInfo
variables_by count vars = flat_map (λ (v : VarInfo). replicate (count v) v) vars

-- whether there is an item for each variable, and fits it
abbrev pub each_fits : {A : Type 0} → (VarInfo → A → Bool) → List VarInfo → List A → Bool
each_fits test [] [] = true
each_fits test [] (x ∷ xs) = false
each_fits test (v ∷ vs) [] = false
each_fits test (v ∷ vs) (x ∷ xs) = test v x && each_fits test vs xs

-- whether the variable's type holds a value
abbrev pub holds_value : VarInfo → ℤ → Bool
holds_value v n = int_le (least v.ctype) n && int_le n (greatest v.ctype)

-- whether a level has a value for each point, and the variable's type holds all of them
abbrev pub holds_level : ℕ → VarInfo → List ℤ → Bool
holds_level points v level = length level == points && list_all (holds_value v) level

abbrev pub scalars_fit : List VarInfo → List ℤ → Bool
scalars_fit vars values = each_fits holds_value (variables_by scalar_count vars) values

abbrev pub levels_fit : ℕ → List VarInfo → List (List ℤ) → Bool
levels_fit points vars levels =
    each_fits (holds_level points) (variables_by level_count vars) levels

-- whether two lists of texts are the same
abbrev pub same_texts : List (List ℕ) → List (List ℕ) → Bool
same_texts [] [] = true
same_texts [] (y ∷ ys) = false
same_texts (x ∷ xs) [] = false
same_texts (x ∷ xs) (y ∷ ys) = bytes_eq x y && same_texts xs ys

-- whether the output files are the job's: in version 2 by their names, in version 1 there is one
abbrev pub outputs_fit : Job → Checkpoint → Bool
outputs_fit job c = if c.version == 2 then same_texts c.names (output_names (setup_of job))
    else length c.lengths == 1

abbrev pub fits_job : Job → Checkpoint → Bool
fits_job job c =
    is_due (setup_of job) c.iteration
    && (outputs_fit job c
    && (scalars_fit job.vars c.scalars
    && levels_fit (point_count (whole job.shape)) job.vars c.levels))

-- whether a list begins with so many items that pass a test
abbrev pub begins_with : {A : Type 0} → (A → Bool) → ℕ → List A → Bool
begins_with test n xs = nat_le n (length xs) && list_all test (take n xs)
