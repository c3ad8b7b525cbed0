-- Files that are made of entries, one after another.
use Rattle.std.specs.Prelude.{ℕ, ◌≡◌, List, ◌++◌, Option, Some, None}
use Rattle.std.specs.List.{flat_map, AllByRecursion}

-- bytes are the texts of these entries, one after another, with nothing between or behind
pub record SpellsAll {E : Type 0} (text : E → List ℕ) (Fits : E → Type 0) (bytes : List ℕ)
    (es : List E) : Type 0 where
  pub in_range : AllByRecursion Fits es
  pub spelled : bytes ≡ flat_map text es

-- entries that the bytes spell, or none where they spell none
abbrev pub ReadsAll : {E : Type 0} → (E → List ℕ) → (E → Type 0) → List ℕ → Option (List E) → Type 0
ReadsAll {E} text Fits bytes None = (es : List E) → SpellsAll text Fits bytes es → ⊥
ReadsAll text Fits bytes (Some es) = SpellsAll text Fits bytes es

-- What is read of the front is what is spelled there, and what is spelled in front is read.
pub record IsField {A : Type 0} (spelled : A → List ℕ) (read : List ℕ → Option (A × List ℕ))
    (Fits : A → Type 0) : Type 0 where
  pub takes : (bytes : List ℕ) (x : A × List ℕ) → read bytes ≡ Some x
      → (bytes ≡ spelled x.0 ++ x.1) × Fits x.0
  pub again : (x : A) (rest : List ℕ) → Fits x → read (spelled x ++ rest) ≡ Some (x, rest)
