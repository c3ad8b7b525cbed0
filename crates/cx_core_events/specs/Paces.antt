-- Where the parts of a run stand.
use Rattle.std.specs.Prelude.{ℕ, zero, suc, Bool, true, false, not, ◌&&◌, ◌||◌, ◌==◌, nat_lt, List, [], ◌∷◌, length, Option, Some, None, if◌then◌else◌, slice_get, slice_index_or}
use Rattle.cx_cut.specs.Cuts.{Parts}
use Rattle.cx_flat.specs.declared.op.Op.{Op}
use Rattle.cx_flat.specs.Code.{op_at}
use Rattle.cx_flat.specs.Flats.{Opened, Control}
use Rattle.cx_flat.specs.Ways.{key, at_place}
use Rattle.cx_core_events.specs.declared.standing.Standing.{Standing}
use Rattle.cx_core_events.specs.declared.standing.Work.{Work}

-- the parts, the operations, how many iterations a part may be ahead of another one, where each
-- part stands, the works that were handed in and aren't done, the part that met the least end,
-- whether the run is over, and a part before which no other stands
pub record Paces : Type 0 where
  pub cut : Parts
  pub ops : List Op
  pub lead : ℕ
  pub parts : List Standing
  pub works : List Work
  pub stopped : Option ℕ
  pub over : Bool
  pub hind : ℕ

-- a part at the first operation
abbrev pub no_part : Standing
no_part = record { place = at_place 0 0; count = 0; handed = 0 }

abbrev pub part_of : Paces → ℕ → Standing
part_of p k = slice_index_or p.parts k no_part

-- the operation at which a part stands, and its iteration
abbrev pub op_of : Paces → ℕ → Op
op_of p k = op_at p.ops (part_of p k).place.pc

abbrev pub iteration_of : Paces → ℕ → ℕ
iteration_of p k = (part_of p k).place.iteration

-- ---- the order of places

-- the first numbers that differ decide
abbrev pub is_less : List ℕ → List ℕ → Bool
is_less [] ys = false
is_less (x ∷ xs) [] = false
is_less (x ∷ xs) (y ∷ ys) = nat_lt x y || ((x == y) && is_less xs ys)

-- both are parts, and the first stands before the second
abbrev pub are_in_order : Option Standing → Option Standing → Bool
are_in_order None b = false
are_in_order (Some a) None = false
are_in_order (Some a) (Some b) = is_less (key a.place) (key b.place)

abbrev pub is_before : List Standing → ℕ → ℕ → Bool
is_before parts j k = are_in_order (slice_get parts j) (slice_get parts k)

-- of so many parts the first one before which no other stands
abbrev pub hindmost_of : List Standing → ℕ → ℕ
hindmost_of parts zero = 0
hindmost_of parts (suc n) = if is_before parts n (hindmost_of parts n) then n
    else hindmost_of parts n

-- ---- parts at one place

abbrev pub same_opened : List Opened → List Opened → Bool
same_opened [] [] = true
same_opened [] (b ∷ ys) = false
same_opened (a ∷ xs) [] = false
same_opened (a ∷ xs) (b ∷ ys) = (a.place == b.place) && (a.turns == b.turns) && same_opened xs ys

abbrev pub same_place : Control → Control → Bool
same_place a b = (a.pc == b.pc) && (a.iteration == b.iteration) && same_opened a.opened b.opened

-- of the parts from this number on the first one that stands there, but for part k
abbrev pub twin_from : ℕ → ℕ → Control → List Standing → Option ℕ
twin_from n k here [] = None
twin_from n k here (s ∷ ss) = if not (n == k) && same_place s.place here then Some n
    else twin_from (suc n) k here ss

-- a part at the hindmost place once part k has left its own, if one is known
abbrev pub other_hind : Paces → ℕ → Option ℕ
other_hind p k = if k == p.hind then twin_from 0 k (part_of p k).place p.parts else Some p.hind

abbrev pub hind_after : Option ℕ → List Standing → ℕ
hind_after None parts = hindmost_of parts (length parts)
hind_after (Some j) parts = j
