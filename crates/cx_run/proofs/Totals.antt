-- How long several files or texts are together.
use Rattle.std.proofs.Common.{◌≡◌, ◌∙◌, refl, sym, ap, ℕ, zero, suc, ◌+◌, ◌<◌, List, [], ◌∷◌, length, map, arith}
use Rattle.std.proofs.lemmas.List.{length-map}
use Rattle.std.specs.Prelude.{slice_index, slice_index_or}
use Rattle.std.specs.List.{range_with_len}
use Rattle.cx_disk.specs.Disk.{Files}
use Rattle.cx_keep.specs.Trails.{file_of_output, total}
use Rattle.cx_plan.specs.Setups.{setup_of}
use Rattle.cx_plan.specs.declared.variable.VarId.{VarId}
use Rattle.cx_outputs.specs.Names.{output_count}
use Rattle.cx_model.specs.Runs.{output, outputs}
use Rattle.cx_run_loop.specs.Drives.{Drive, HasWholeOutput}
use Rattle.cx_run.specs.Causes.{length_of_files}
use Rattle.cx_run.specs.Clauses.{length_of_all}

-- numbers that a function gives place by place
listed : (f : ℕ → ℕ) (ns : List ℕ) (k : ℕ)
    → ((j : ℕ) → j < length ns → slice_index ns j ≡ f (k + j))
    → ns ≡ map f (range_with_len k (length ns))
listed f [] k each = refl
listed f (n ∷ ns) k each =
    let first : n ≡ f k = each 0 (omega arith) ∙ ap f (omega arith) in
    ap (λ (m : ℕ). m ∷ ns) first
    ∙ ap (λ (ms : List ℕ). f k ∷ ms)
    (listed f ns (k + 1) (λ j lt. each (suc j) (omega (arith, lt)) ∙ ap f (omega arith)))

text_at : (texts : List (List ℕ)) (j : ℕ) → j < length texts
    → slice_index (map (λ (text : List ℕ). length text) texts) j
    ≡ length (slice_index_or texts j [])
text_at [] j within = absurd (omega (arith, within))
text_at (text ∷ texts) zero within = refl
text_at (text ∷ texts) (suc j) within = text_at texts j (omega (arith, within))

-- the lengths of all files
pub files_total : (files : Files) (count : ℕ) (ns : List ℕ) → length ns ≡ count
    → ((j : ℕ) → j < count → slice_index ns j ≡ length (files (file_of_output j)))
    → total ns ≡ length_of_files count files
files_total files count ns as_many each =
    ap total (listed (λ (j : ℕ). length (files (file_of_output j))) ns 0
    (λ j lt. each j (omega (arith, lt, as_many))
    ∙ ap (λ (i : ℕ). length (files (file_of_output i))) (omega arith)))
    ∙ ap (λ (n : ℕ). length_of_files n files) as_many

-- those of the files that hold these texts
pub texts_total : (files : Files) (texts : List (List ℕ))
    → ((j : ℕ) → j < length texts → files (file_of_output j) ≡ slice_index_or texts j [])
    → length_of_files (length texts) files ≡ length_of_all texts
texts_total files texts each =
    sym (files_total files (length texts) (map (λ (text : List ℕ). length text) texts)
    (length-map texts (λ (text : List ℕ). length text))
    (λ j lt. text_at texts j lt ∙ ap (λ (text : List ℕ). length text) (sym (each j lt))))

-- those of a disk on which each output is that of the undivided run
pub whole_total : (d : Drive) → HasWholeOutput d
    → length_of_files (output_count (setup_of d.job)) d.disk.new.seen
    ≡ length_of_all (outputs (setup_of d.job) d.rules)
whole_total d whole =
    ap (λ (n : ℕ). length_of_files n d.disk.new.seen) (sym as_many)
    ∙ texts_total d.disk.new.seen texts (λ j lt. (whole j (omega (arith, lt, as_many))).reads)
  where
    texts : List (List ℕ)
    texts = outputs (setup_of d.job) d.rules

    as_many : length texts ≡ output_count (setup_of d.job)
    as_many = length-map (setup_of d.job).out_vars (λ (v : VarId). output (setup_of d.job) d.rules v)
