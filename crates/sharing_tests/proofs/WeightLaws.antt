-- A fact of all elements, read one after another.
use Rattle.std.proofs.Common.{ℕ, ◌+◌, ◌<◌, ◌≤◌, List, length, take, subst, slice_index_or}
use Rattle.std.specs.Prelude.{All}
use Rattle.std.proofs.lemmas.List.{take_all}
use Rattle.std.proofs.lemmas.List.Elements.{All-more}

pub more : (P : ℕ → Type 0) (ws : List ℕ) (i d : ℕ) → i < length ws → All P (take i ws)
    → P (slice_index_or ws i d) → All P (take (i + 1) ws)
more P ws i d l all p = All-more P ws i d l all p

pub all : (P : ℕ → Type 0) (ws : List ℕ) (i : ℕ) → length ws ≤ i → All P (take i ws) → All P ws
all P ws i l h = subst (All P) (take_all i ws l) h
