use Rattle.std.proofs.Common.{◌≡◌, ℕ, List, [], ◌∷◌, ◌++◌, refl, zero, suc}
use Rattle.cx_disk.specs.Memory.{file_of}

-- an empty file more changes no file
pub empty_file : (files : List (List ℕ)) (file : ℕ)
    → file_of (files ++ [] ∷ []) file ≡ file_of files file
empty_file [] zero = refl
empty_file [] (suc k) = refl
empty_file (f ∷ files) zero = refl
empty_file (f ∷ files) (suc k) = empty_file files k
