-- The operations of trees, and of a run.
use Rattle.std.specs.Prelude.{ℕ, zero, suc, ◌+◌, List, [], ◌∷◌, ◌++◌, length, slice_index_or}
use Rattle.cx_plan.specs.declared.variable.VarId.{VarId}
use Rattle.cx_plan.specs.declared.item.ItemKind.{ItemKind}
use Rattle.cx_plan.specs.declared.item.ItemKind.TheVariants.{Cell, Scalar, Sum, Least, Greatest, Count}
use Rattle.cx_plan.specs.declared.tree.Tree.{Tree, Seq', Call, Sync, If', While', Row_of-Tree, end_of-Tree, more_of-Tree}
use Rattle.cx_plan.specs.Setups.{Setup}
use Rattle.cx_plan.specs.Lookups.{item, bin, STARTUP, WRAGH, PARAMCHECK, BASEGRID, INITIAL, POSTINITIAL, PRESTEP, EVOL, POSTSTEP, CHECKPOINT, ANALYSIS, TERMINATE, SHUTDOWN}
use Rattle.cx_flat.specs.declared.op.Op.{Op}
use Rattle.cx_flat.specs.declared.op.Op.TheVariants.{Sweep, Apply, Give, Join, Post, Take, Test, Open, Turn, Again, Rotate, Due, Written, Skip, Next, Piece, Save, Halt}

abbrev pub item_code : ItemKind → ℕ → List Op
item_code Cell k = Sweep k ∷ []
item_code Scalar k = Apply k ∷ []
item_code Sum k = Give k ∷ Join k ∷ []
item_code Least k = Give k ∷ Join k ∷ []
item_code Greatest k = Give k ∷ Join k ∷ []
item_code Count k = Give k ∷ Join k ∷ []

-- so many directions from this one on, one after another
abbrev pub sync_code : List VarId → List ℕ → ℕ → ℕ → List Op
sync_code vars path d zero = []
sync_code vars path d (suc count) =
    Post d vars ∷ Take d vars path ∷ sync_code vars path (suc d) count

-- what is done where a scalar isn't 0
abbrev pub if_code : VarId → List ℕ → List Op → List Op
if_code v path body = Test v path (suc (length body)) ∷ body

-- what is done again and again
abbrev pub while_code : VarId → List ℕ → List Op → List Op
while_code v path body =
    Open ∷ Turn v path (suc (suc (length body))) ∷ body ++ Again (suc (length body)) ∷ []

abbrev mutual
  pub tree_code : Setup → Tree → List Op
  tree_code setup (Seq' shape all) = row_code setup all
  tree_code setup (Call k) = item_code (item setup k).kind k
  tree_code setup (Sync vars path) = sync_code vars path 0 setup.shape.dims
  tree_code setup (If' v path shape one) = if_code v path (row_code setup one)
  tree_code setup (While' v path shape one) = while_code v path (row_code setup one)

  pub row_code : {m : _} → Setup → Row_of-Tree m → List Op
  row_code setup end_of-Tree = []
  row_code setup (more_of-Tree tree rest) = tree_code setup tree ++ row_code setup rest

-- the operations of several trees, one after another
abbrev pub trees_code : Setup → List Tree → List Op
trees_code setup [] = []
trees_code setup (tree ∷ trees) = tree_code setup tree ++ trees_code setup trees

-- ---- the run

abbrev pub bins_code : Setup → List ℕ → List Op
bins_code setup [] = []
bins_code setup (b ∷ bs) = tree_code setup (bin setup b) ++ bins_code setup bs

-- the start
abbrev pub start_code : Setup → List Op
start_code setup = bins_code setup
    (STARTUP ∷ WRAGH ∷ PARAMCHECK ∷ BASEGRID ∷ INITIAL ∷ POSTINITIAL ∷ POSTSTEP ∷ [])

-- an iteration before ANALYSIS, and from it on
abbrev pub checkpoint_code : Setup → List Op
checkpoint_code setup = tree_code setup (bin setup CHECKPOINT) ++ Save ∷ []

abbrev pub before_code : Setup → List Op
before_code setup =
    Rotate ∷ bins_code setup (PRESTEP ∷ EVOL ∷ POSTSTEP ∷ [])
    ++ Due (suc (length (checkpoint_code setup))) ∷ checkpoint_code setup

abbrev pub pieces_code : List VarId → List Op
pieces_code [] = []
pieces_code (v ∷ vs) = Piece v ∷ pieces_code vs

abbrev pub from_code : Setup → List Op
from_code setup =
    tree_code setup (bin setup ANALYSIS) ++ Written (suc (length setup.out_vars))
    ∷ pieces_code setup.out_vars

-- an iteration, and back to its beginning
abbrev pub loop_code : Setup → List Op
loop_code setup =
    before_code setup ++ (from_code setup
    ++ Next (length (before_code setup) + length (from_code setup)) ∷ [])

abbrev pub end_code : Setup → List Op
end_code setup = bins_code setup (TERMINATE ∷ SHUTDOWN ∷ []) ++ Halt ∷ []

-- all operations of a run: the start has no operations before ANALYSIS of its own iteration
abbrev pub code : Setup → List Op
code setup =
    start_code setup ++ (Skip (suc (length (before_code setup)))
    ∷ (loop_code setup ++ end_code setup))

-- where ANALYSIS begins
abbrev pub analysis_place : Setup → ℕ
analysis_place setup = length (start_code setup) + suc (length (before_code setup))

-- the operation at a place; behind the last one there is none
abbrev pub op_at : List Op → ℕ → Op
op_at ops pc = slice_index_or ops pc Halt
