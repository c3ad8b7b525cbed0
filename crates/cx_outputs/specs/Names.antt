-- The output files of a job: one for each variable that is written, in rising order, named by its
-- full name.
use Rattle.std.specs.Prelude.{ℕ, suc, ◌==◌, ◌^◌, ◌<◌, List, [], ◌∷◌, ◌++◌, length, map, codes, if◌then◌else◌}
use Rattle.std.specs.List.{AllByRecursion}
use Rattle.cx_plan.specs.declared.variable.VarId.{VarId}
use Rattle.cx_plan.specs.Setups.{Setup}
use Rattle.cx_plan.specs.Lookups.{variable}

-- how many they are
abbrev pub output_count : Setup → ℕ
output_count setup = length setup.out_vars

-- the full names of their variables, and their own names
abbrev pub full_names : Setup → List (List ℕ)
full_names setup = map (λ (v : VarId). (variable setup v).full) setup.out_vars

abbrev pub output_names : Setup → List (List ℕ)
output_names setup = map (λ (v : VarId). (variable setup v).full ++ codes ".asc") setup.out_vars

-- each name can be spelled in a checkpoint
abbrev pub HasShortNames : Setup → Type 0
HasShortNames setup = AllByRecursion (λ name. length name < 2 ^ 32) (output_names setup)

-- the place of a variable among others, or how many they are
abbrev pub place_in : List VarId → VarId → ℕ
place_in [] v = 0
place_in (w ∷ ws) v = if w.0 == v.0 then 0 else suc (place_in ws v)

-- ---- lengths, in a list and by the variables' numbers

abbrev pub lengths_in : List VarId → (ℕ → ℕ) → List ℕ
lengths_in vs so_far = map (λ (v : VarId). so_far v.0) vs

abbrev pub lengths_by : List VarId → List ℕ → ℕ → ℕ
lengths_by [] ls v = 0
lengths_by (w ∷ ws) [] v = 0
lengths_by (w ∷ ws) (l ∷ ls) v = if w.0 == v then l else lengths_by ws ls v
