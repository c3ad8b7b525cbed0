-- The blocks and STORAGE lines that count: those whose enclosing `if`s all hold.
use Rattle.std.specs.Prelude.{ℕ, ℤ, List, [], ◌∷◌, ◌++◌, map, Option, Result, Ok, Err, if◌then◌else◌}
use Rattle.cx_expr.specs.declared.tree.ExprFault.{ExprFault}
use Rattle.cx_expr.specs.Known.{Names}
use Rattle.cx_expr.specs.Evaluation.{eval}
use Rattle.cx_sched.specs.declared.tree.Ref.{Ref}
use Rattle.cx_sched.specs.declared.tree.Block.{Block}
use Rattle.cx_sched.specs.declared.tree.Node.{Node, Storage, Cond', Row_of-Node, end_of-Node, more_of-Node}
use Rattle.cx_sched.specs.declared.tree.Node as node
use Rattle.cx_text.specs.Numbers.{is_not_zero}

-- a name of a STORAGE line with its number of levels, and the number of its thorn
pub record Line : Type 0 where
  pub thorn : ℕ
  pub group : Ref
  pub levels : Option ℕ

-- a block and the number of its thorn
pub record Entry : Type 0 where
  pub thorn : ℕ
  pub block : Block

-- what counts, in file order; a block's own STORAGE lines stand at its place
pub record Counted : Type 0 where
  pub lines : List Line
  pub entries : List Entry

abbrev pub line : ℕ → Ref × Option ℕ → Line
line thorn store = record { thorn = thorn; group = store.0; levels = store.1 }

abbrev pub nothing : Counted
nothing = record { lines = []; entries = [] }

abbrev pub and_then : Counted → Counted → Counted
and_then a b = record { lines = a.lines ++ b.lines; entries = a.entries ++ b.entries }

-- what counts of two parts, or the first fault
abbrev pub joined : {E : Type 0} → Result Counted E → Result Counted E → Result Counted E
joined (Err e) more = Err e
joined (Ok a) (Err e) = Err e
joined (Ok a) (Ok b) = Ok (and_then a b)

abbrev pub lines_alone : ℕ → List (Ref × Option ℕ) → Counted
lines_alone thorn stores = record { lines = map (line thorn) stores; entries = [] }

abbrev pub block_alone : ℕ → Block → Counted
block_alone thorn b = record {
  lines = map (line thorn) b.storage;
  entries = record { thorn = thorn; block = b } ∷ [];
}

-- the branch that is taken; the other is not looked at
abbrev pub taken : {X E : Type 0} → Result ℤ E → Result X E → Result X E → Result X E
taken (Err e) yes_branch no_branch = Err e
taken (Ok n) yes_branch no_branch = if is_not_zero n then yes_branch else no_branch

abbrev mutual
  pub one_counted : ℕ → Names → Node → Result Counted ExprFault
  one_counted thorn names (Storage stores) = Ok (lines_alone thorn stores)
  one_counted thorn names (node.Block b) = Ok (block_alone thorn b)
  one_counted thorn names (Cond' test shape first shape2 second) =
      taken (eval names test) (each thorn names first) (each thorn names second)

  pub each : {m : _} → ℕ → Names → Row_of-Node m → Result Counted ExprFault
  each thorn names end_of-Node = Ok nothing
  each thorn names (more_of-Node n rest) =
      joined (one_counted thorn names n) (each thorn names rest)

-- what counts of some nodes of a thorn
abbrev pub counted_of : ℕ → Names → List Node → Result Counted ExprFault
counted_of thorn names [] = Ok nothing
counted_of thorn names (n ∷ ns) = joined (one_counted thorn names n) (counted_of thorn names ns)
