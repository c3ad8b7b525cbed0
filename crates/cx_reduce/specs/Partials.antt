-- The numbers of reductions over pieces of the grid, and how they are joined.
use Rattle.std.specs.Prelude.{ℕ, ◌+◌, ◌*◌, ◌^◌, ◌<◌, ◌≤◌, ◌≡◌, ◌&&◌, false, ℤ, pos, neg_ℤ, ◌+ℤ◌, ◌≤ℤ◌, int_le, List, length, Result, Ok, Err, Option, Some, None, if◌then◌else◌}
use Rattle.std.specs.Int.{int_min, int_max}
use Rattle.cx_plan.specs.declared.item.ItemKind.{ItemKind}
use Rattle.cx_plan.specs.declared.item.ItemKind.TheVariants.{Cell, Scalar, Sum, Least, Greatest, Count}
use Rattle.cx_rule.specs.declared.routine.Overflow.{Overflow}
use Rattle.cx_model.specs.Turns.{reduced}
use Rattle.cx_text.specs.Numbers.{is_not_zero}

-- the four kinds of reductions
abbrev pub IsReduction : ItemKind → Type 0
IsReduction Sum = Unit {0}
IsReduction Least = Unit {0}
IsReduction Greatest = Unit {0}
IsReduction Count = Unit {0}
IsReduction Cell = ⊥
IsReduction Scalar = ⊥

-- the number of a reduction over so many points, one at least
pub record Reduced : Type 0 where
  pub kind : ItemKind
  pub points : ℕ
  pub number : ℤ

-- numbers have 64 bits, and the grid has at most 2^24 points
pub record IsReduced (r : Reduced) : Type 0 where
  pub some : 0 < r.points
  pub few : r.points ≤ 2 ^ 24
  pub from : neg_ℤ (pos (r.points * 2 ^ 63)) ≤ℤ r.number
  pub to : r.number ≤ℤ pos (r.points * 2 ^ 63)

-- over the numbers of these points
abbrev pub reduced_over : ItemKind → List ℤ → Reduced
reduced_over kind ns = record { kind = kind; points = length ns; number = reduced kind ns }

-- two numbers of one kind joined: counts are added
abbrev pub joined_by : ItemKind → ℤ → ℤ → ℤ
joined_by Sum a b = a +ℤ b
joined_by Count a b = a +ℤ b
joined_by Least a b = int_min a b
joined_by Greatest a b = int_max a b
joined_by Cell a b = a
joined_by Scalar a b = a

abbrev pub joined : Reduced → Reduced → Reduced
joined a b = record {
  kind = a.kind;
  points = a.points + b.points;
  number = joined_by a.kind a.number b.number;
}

-- the number where it lies in the range of a type; Overflow exactly where it doesn't
abbrev pub Finishes : ℤ → ℤ → ℤ → Result ℤ Overflow → Type 0
Finishes number low high (Ok n) = (n ≡ number) × (low ≤ℤ number) × (number ≤ℤ high)
Finishes number low high (Err _) = (int_le low number && int_le number high) ≡ false

-- a number over so many points of 64 bits
abbrev pub IsWithin : ℕ → ℤ → Type 0
IsWithin points n = (neg_ℤ (pos (points * 2 ^ 63)) ≤ℤ n) × (n ≤ℤ pos (points * 2 ^ 63))

abbrev pub IsBounded : ℕ → Option ℤ → Type 0
IsBounded points None = points ≡ 0
IsBounded points (Some n) = (0 < points) × IsWithin points n

-- what a number counts as
abbrev pub told : ItemKind → ℤ → ℤ
told Count n = if is_not_zero n then pos 1 else pos 0
told Sum n = n
told Least n = n
told Greatest n = n
told Cell n = n
told Scalar n = n

-- the number over no points is none; with one more
abbrev pub one_more : ItemKind → Option ℤ → ℤ → Option ℤ
one_more kind None n = Some (told kind n)
one_more kind (Some so_far) n = Some (joined_by kind so_far (told kind n))
