-- The numbers that parts have given for reductions: each part gives one number to every part,
-- itself included, and takes the oldest one of each part.
use Rattle.std.specs.Prelude.{ℕ, ◌+◌, ◌==◌, ◌<◌, ◌≤◌, ◌≡◌, ◌^◌, ℤ, pos, List, [], ◌∷◌, ◌++◌, length, map, drop, replicate, slice_index_or, if◌then◌else◌, All}
use Rattle.cx_plan.specs.declared.item.ItemKind.{ItemKind}
use Rattle.cx_plan.specs.declared.item.ItemKind.TheVariants.{Sum}
use Rattle.law_parts.specs.Holding.{joined}
use Rattle.cx_reduce.specs.Partials.{Reduced, IsReduction}

-- per part the numbers that it gave and that some part has still to take, the oldest first; and per
-- part how many of these it has taken of each
pub record Given : Type 0 where
  pub given : List (List Reduced)
  pub taken : List ℕ

-- as many of both, and none takes what wasn't given
pub record IsGiven (b : Given) : Type 0 where
  pub parts : length b.taken ≡ length b.given
  pub within : (a k : ℕ) → a < length b.given → k < length b.given
      → slice_index_or b.taken k 0 ≤ length (slice_index_or b.given a [])

-- the numbers that part a gave and part k hasn't taken, the oldest first
abbrev pub queue : Given → ℕ → ℕ → List Reduced
queue b a k = drop (slice_index_or b.taken k 0) (slice_index_or b.given a [])

-- there is a number of each part for part k
abbrev pub IsReady : Given → ℕ → Type 0
IsReady b k = (a : ℕ) → a < length b.given
    → slice_index_or b.taken k 0 < length (slice_index_or b.given a [])

abbrev pub no_number : Reduced
no_number = record { kind = Sum; points = 0; number = pos 0 }

-- the front number of part a for part k
abbrev pub front : Given → ℕ → ℕ → Reduced
front b a k = slice_index_or (queue b a k) 0 no_number

-- the numbers at a place of what each part gave, and those at the front for part k
abbrev pub numbers_at : ℕ → List (List Reduced) → List Reduced
numbers_at place given = map (λ row. slice_index_or (drop place row) 0 no_number) given

abbrev pub fronts : Given → ℕ → List Reduced
fronts b k = numbers_at (slice_index_or b.taken k 0) b.given

-- over how many points numbers are
abbrev pub points_of : List Reduced → ℕ
points_of [] = 0
points_of (r ∷ rs) = r.points + points_of rs

abbrev pub number_of : Reduced → ℤ
number_of r = r.number

abbrev pub kind_of : List Reduced → ItemKind
kind_of rs = (slice_index_or rs 0 no_number).kind

-- the numbers of one reduction over pieces of a grid
pub record AreOne (rs : List Reduced) : Type 0 where
  pub some : 0 < length rs
  pub reduction : IsReduction (kind_of rs)
  pub kinds : All (λ (r : Reduced). r.kind ≡ kind_of rs) rs
  pub few : points_of rs ≤ 2 ^ 24

-- the number over all of them
abbrev pub all_joined : List Reduced → Reduced
all_joined rs = record {
  kind = kind_of rs;
  points = points_of rs;
  number = joined (kind_of rs) (map number_of rs);
}

-- nothing is given
abbrev pub none_given : ℕ → Given
none_given parts = record { given = replicate parts []; taken = replicate parts 0 }

-- part `from` has given a number to every part
pub record Gives (old : Given) (from : ℕ) (number : Reduced) (new : Given) : Type 0 where
  pub parts : length new.given ≡ length old.given
  pub queues : (a k : ℕ) → a < length old.given → k < length old.given
      → queue new a k ≡ queue old a k ++ (if a == from then number ∷ [] else [])

-- part `to` has taken the front number of every part
pub record Takes (old : Given) (to : ℕ) (new : Given) : Type 0 where
  pub parts : length new.given ≡ length old.given
  pub queues : (a k : ℕ) → a < length old.given → k < length old.given
      → queue new a k ≡ (if k == to then drop 1 (queue old a k) else queue old a k)
