-- Names, and how they are joined.
use Rattle.std.specs.Prelude.{ℕ, zero, suc, ◌-◌, ◌==◌, Bool, List, [], ◌∷◌, ◌++◌, length, take, drop, slice_index_or, codes, if◌then◌else◌, Option, Some, None}
use Rattle.std.specs.Fmt.{decimal}
use Rattle.cx_plan.specs.declared.item.Region.{Region}
use Rattle.cx_plan.specs.declared.item.Region.TheVariants.{Interior, Boundary, Everywhere}

-- owner::name
abbrev pub full_name : List ℕ → List ℕ → List ℕ
full_name owner name = owner ++ codes "::" ++ name

-- name[k]
abbrev pub bracketed : List ℕ → ℕ → List ℕ
bracketed name k = name ++ codes "[" ++ decimal k ++ codes "]"

-- a region's word
abbrev pub region_text : Region → List ℕ
region_text Interior = codes "interior"
region_text Boundary = codes "boundary"
region_text Everywhere = codes "everywhere"

-- ---- past levels

-- `_p` once for each level back
abbrev pub past : ℕ → List ℕ
past zero = []
past (suc level) = codes "_p" ++ past level

-- the place of the last `[` of a text, whose first byte has the place k; another place where there
-- is none
abbrev pub last_bracket : ℕ → ℕ → List ℕ → ℕ
last_bracket other k [] = other
last_bracket other k (c ∷ cs) = last_bracket (if c == 91 then k else other) (suc k) cs

abbrev pub ends_with_bracket : List ℕ → Bool
ends_with_bracket full = slice_index_or full (length full - 1) 0 == 93

-- where the bracket of a copy begins, which is the last `[` of a full name that ends with `]`; the
-- end of other names
abbrev pub bracket_of : List ℕ → ℕ
bracket_of full = if ends_with_bracket full then last_bracket (length full) 0 full else length full

-- a variable's full name with a level's `_p` before the bracket of a copy
abbrev pub level_text : List ℕ → ℕ → List ℕ
level_text full level = take (bracket_of full) full ++ past level ++ drop (bracket_of full) full

-- a name with its owner, where one is named
abbrev pub with_owner : Option (List ℕ) → List ℕ → List ℕ
with_owner None name = name
with_owner (Some owner) name = full_name owner name
