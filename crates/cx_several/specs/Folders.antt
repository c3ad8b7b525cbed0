-- Folders that two jobs of a batch have in common.
use Rattle.std.specs.Prelude.{ℕ, Bool, ◌||◌, List, [], ◌∷◌, bytes_eq, Option, Some, None, option_map, if◌then◌else◌}
use Rattle.cx_plan.specs.Lists.{or_else}
use Rattle.cx_plan.specs.declared.job.Job.{Job}

-- a text is one of a job's folders
abbrev pub is_folder : List ℕ → Job → Bool
is_folder name job = bytes_eq name job.out_dir || bytes_eq name job.chk_dir

-- a folder of the one is a folder of the other, as text
abbrev pub shares : Job → Job → Bool
shares a b = is_folder a.out_dir b || is_folder a.chk_dir b

-- the first of some files whose job shares a folder with this one
abbrev pub shared_with : Job → List (List ℕ) → List Job → Option (List ℕ)
shared_with a [] jobs = None
shared_with a (file ∷ files) [] = None
shared_with a (file ∷ files) (job ∷ jobs) =
    if shares a job then Some file else shared_with a files jobs

-- with another file before it
abbrev pub pair_with : List ℕ → Option (List ℕ) → Option (List ℕ × List ℕ)
pair_with first second = option_map (λ file. (first, file)) second

-- the first two files whose jobs share a folder: of several pairs the one whose first file comes
-- first, and of these the one whose second file does
abbrev pub same_folder : List (List ℕ) → List Job → Option (List ℕ × List ℕ)
same_folder [] jobs = None
same_folder (file ∷ files) [] = None
same_folder (file ∷ files) (job ∷ jobs) =
    or_else (pair_with file (shared_with job files jobs)) (same_folder files jobs)
