-- Lists: the first of something, what is marked, the greatest.
use Rattle.std.specs.Prelude.{Bool, List, [], ◌∷◌, ◌++◌, Option, Some, None, Result, Ok, Err, if◌then◌else◌, ℕ, ◌==◌, max, true, false, slice_index_or}
use Rattle.std.specs.List.{list_any}

-- the first of two that is there, and the first of several
abbrev pub or_else : {X : Type 0} → Option X → Option X → Option X
or_else (Some x) other = Some x
or_else None other = other

abbrev pub first_some : {X : Type 0} → List (Option X) → Option X
first_some [] = None
first_some (o ∷ os) = or_else o (first_some os)

-- what the first element gives that gives something
abbrev pub first_of_each : {X Y : Type 0} → (X → Option Y) → List X → Option Y
first_of_each f [] = None
first_of_each f (x ∷ xs) = or_else (f x) (first_of_each f xs)

-- The first element that is the same as one before it; some elements stand before the list.
abbrev pub first_again_behind : {X : Type 0} → (X → X → Bool) → List X → List X → Option X
first_again_behind same before [] = None
first_again_behind same before (x ∷ xs) = if list_any (same x) before then Some x
    else first_again_behind same (before ++ x ∷ []) xs

abbrev pub first_again : {X : Type 0} → (X → X → Bool) → List X → Option X
first_again same xs = first_again_behind same [] xs

-- each element once, at its first place; some elements are there already
abbrev pub once_behind : {X : Type 0} → (X → X → Bool) → List X → List X → List X
once_behind same before [] = []
once_behind same before (x ∷ xs) = if list_any (same x) before then once_behind same before xs
    else x ∷ once_behind same (before ++ x ∷ []) xs

abbrev pub once : {X : Type 0} → (X → X → Bool) → List X → List X
once same xs = once_behind same [] xs

-- the results of all, or the first error
abbrev pub with_others : {X E : Type 0} → X → Result (List X) E → Result (List X) E
with_others x (Ok xs) = Ok (x ∷ xs)
with_others x (Err e) = Err e

abbrev pub with_next : {X E : Type 0} → Result X E → Result (List X) E → Result (List X) E
with_next (Ok x) others = with_others x others
with_next (Err e) others = Err e

abbrev pub all_ok : {X E : Type 0} → List (Result X E) → Result (List X) E
all_ok [] = Ok []
all_ok (r ∷ rs) = with_next r (all_ok rs)

-- the greatest of all; 0 of none
abbrev pub greatest : List ℕ → ℕ
greatest [] = 0
greatest (n ∷ ns) = max n (greatest ns)

-- whether a number is marked in a list of flags
abbrev pub is_marked : List Bool → ℕ → Bool
is_marked marks k = slice_index_or marks k false

-- a list, or nothing
abbrev pub only : {A : Type 0} → Bool → List A → List A
only true xs = xs
only false xs = []

-- whether there is a number and it is this one
abbrev pub is_at : Option ℕ → ℕ → Bool
is_at None b = false
is_at (Some j) b = j == b
