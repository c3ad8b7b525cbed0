-- What an entry's names stand for.
use Rattle.std.specs.Prelude.{ℕ, ◌==◌, Bool, false, List, [], ◌∷◌, map, slice_get, Option, Some, None, Result, Ok, Err, if◌then◌else◌}
use Rattle.std.specs.List.{list_any, flat_map}
use Rattle.cx_plan.specs.Lists.{once, all_ok}
use Rattle.cx_plan.specs.declared.variable.VarId.{VarId}
use Rattle.cx_plan.specs.declared.variable.VarInfo.{VarInfo}
use Rattle.cx_plan.specs.declared.item.Region.{Region}
use Rattle.cx_plan.specs.declared.item.Touch.{Touch}
use Rattle.cx_sched.specs.declared.tree.Ref.{Ref}
use Rattle.cx_sched.specs.declared.tree.Block.{Block}
use Rattle.cx_bind.specs.declared.thorns.Thorn.{Thorn}
use Rattle.cx_bind.specs.Variables.{variable_infos}
use Rattle.cx_scope.specs.declared.fault.ScopeFault.{ScopeFault}
use Rattle.cx_scope.specs.declared.fault.ScopeFault.TheVariants.{NotScalar, NotGrid}
use Rattle.cx_scope.specs.Sight.{Sight}
use Rattle.cx_scope.specs.Resolving.{resolve, ref_text}
use Rattle.cx_order.specs.declared.meaning.Meaning.{Meaning}
use Rattle.cx_order_entries.specs.Counted.{Entry}
use Rattle.cx_plan.specs.Regions.{same_variable}

-- the thorns, what they see, and the stored levels
pub record World : Type 0 where
  pub thorns : List Thorn
  pub sight : Sight
  pub storage : List ℕ

abbrev pub scalar_in : Option VarInfo → Bool
scalar_in None = false
scalar_in (Some v) = v.scalar

abbrev pub is_scalar : World → VarId → Bool
is_scalar w v = scalar_in (slice_get (variable_infos w.thorns) v.0)

-- the levels that a name of a thorn means
abbrev pub Levels : Type 0
Levels = List (VarId × ℕ)

abbrev pub meant : World → ℕ → Ref → Result Levels ScopeFault
meant w thorn r = resolve w.thorns w.sight w.storage thorn r

-- the scalar that IF or WHILE tests
abbrev pub one_scalar : World → Ref → Result Levels ScopeFault → Result (Option VarId) ScopeFault
one_scalar w r (Err e) = Err e
one_scalar w r (Ok []) = Err (NotScalar (ref_text r))
one_scalar w r (Ok (l ∷ [])) = if is_scalar w l.0 then Ok (Some l.0)
    else Err (NotScalar (ref_text r))
one_scalar w r (Ok (l ∷ m ∷ rest)) = Err (NotScalar (ref_text r))

abbrev pub tested : World → ℕ → Option Ref → Result (Option VarId) ScopeFault
tested w thorn None = Ok None
tested w thorn (Some r) = one_scalar w r (meant w thorn r)

-- the grid variables that a name of SYNC gives
abbrev pub all_grid : World → Ref → Result Levels ScopeFault → Result (List VarId) ScopeFault
all_grid w r (Err e) = Err e
all_grid w r (Ok ls) = if list_any (λ l. is_scalar w l.0) ls then Err (NotGrid (ref_text r))
    else Ok (map (λ l. l.0) ls)

abbrev pub all_joined : {X : Type 0} → Result (List (List X)) ScopeFault
    → Result (List X) ScopeFault
all_joined (Ok xss) = Ok (flat_map (λ xs. xs) xss)
all_joined (Err e) = Err e

abbrev pub once_each : Result (List VarId) ScopeFault → Result (List VarId) ScopeFault
once_each (Ok vs) = Ok (once same_variable vs)
once_each (Err e) = Err e

-- a variable that the names give more than once stands once, at its first place
abbrev pub synced : World → ℕ → List Ref → Result (List VarId) ScopeFault
synced w thorn refs = once_each
    (all_joined (all_ok (map (λ r. all_grid w r (meant w thorn r)) refs)))

-- reads or writes: each level that a name gives, in its region
abbrev pub touch : Region → VarId × ℕ → Touch
touch region l = record { var = l.0; level = l.1; region = region; reach = 0 }

abbrev pub touches_of : Region → Result Levels ScopeFault → Result (List Touch) ScopeFault
touches_of region (Err e) = Err e
touches_of region (Ok ls) = Ok (map (touch region) ls)

abbrev pub touches : World → ℕ → List (Ref × Region) → Result (List Touch) ScopeFault
touches w thorn refs = all_joined (all_ok (map (λ r. touches_of r.1 (meant w thorn r.0)) refs))

abbrev pub no_meaning : Meaning
no_meaning = record { test = None; turn = None; sync = []; reads = []; writes = [] }

abbrev pub and_then : {X Y : Type 0} → Result X ScopeFault → (X → Result Y ScopeFault)
    → Result Y ScopeFault
and_then (Ok x) f = f x
and_then (Err e) f = Err e

-- READS and WRITES of a group have no effect
abbrev pub unless_group : Block → List (Ref × Region) → List (Ref × Region)
unless_group b refs = if b.group then [] else refs

-- in the order IF, WHILE, SYNC, READS, WRITES, or the first fault
abbrev pub meaning : World → Entry → Result Meaning ScopeFault
meaning w e =
    and_then (tested w e.thorn e.block.test)
    (λ test. and_then (tested w e.thorn e.block.turn)
    (λ turn. and_then (synced w e.thorn e.block.sync)
    (λ sync. and_then (touches w e.thorn (unless_group e.block e.block.reads))
    (λ reads. and_then (touches w e.thorn (unless_group e.block e.block.writes))
    (λ writes.
    Ok (record { test = test; turn = turn; sync = sync; reads = reads; writes = writes }))))))

abbrev pub meaning_or_none : Result Meaning ScopeFault → Meaning
meaning_or_none (Ok m) = m
meaning_or_none (Err e) = no_meaning

-- what the names of an entry without a fault stand for
abbrev pub names_of : World → Entry → Meaning
names_of w e = meaning_or_none (meaning w e)
