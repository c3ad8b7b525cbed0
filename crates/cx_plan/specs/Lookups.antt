-- What a job has under a number, and the bins.
use Rattle.std.specs.Prelude.{ℕ, Bool, true, false, List, [], ◌∷◌, ◌++◌, slice_index_or, codes}
use Rattle.cx_text.specs.declared.ctype.CType.TheVariants.{Int8}
use Rattle.cx_plan.specs.declared.variable.VarId.{VarId}
use Rattle.cx_plan.specs.declared.variable.VarInfo.{VarInfo}
use Rattle.cx_plan.specs.declared.item.Item.{Item}
use Rattle.cx_plan.specs.declared.item.ItemKind.TheVariants.{Cell}
use Rattle.cx_plan.specs.Setups.{Setup}
use Rattle.cx_plan.specs.declared.tree.Tree.{Tree, Seq, Seq', Call, Sync, If', While', Row_of-Tree, end_of-Tree, more_of-Tree}

-- a whole job has each number that it names, so these are never met
abbrev pub no_variable : VarInfo
no_variable = record { full = []; ctype = Int8; scalar = false; levels = 0 }

abbrev pub no_item : Item
no_item = record {
  thorn = [];
  name = [];
  path = [];
  kind = Cell;
  routine = 0;
  reads = [];
  writes = [];
  params = [];
}

abbrev pub variable : Setup → VarId → VarInfo
variable setup v = slice_index_or setup.vars v.0 no_variable

abbrev pub is_scalar : Setup → VarId → Bool
is_scalar setup v = (variable setup v).scalar

abbrev pub levels_of : Setup → VarId → ℕ
levels_of setup v = (variable setup v).levels

abbrev pub item : Setup → ℕ → Item
item setup k = slice_index_or setup.items k no_item

-- the tree of a bin
abbrev pub bin : Setup → ℕ → Tree
bin setup b = slice_index_or setup.bins b (Seq [])

-- ---- bins, by their numbers

-- those that are run
abbrev pub STARTUP : ℕ
STARTUP = 0

abbrev pub WRAGH : ℕ
WRAGH = 1

abbrev pub PARAMCHECK : ℕ
PARAMCHECK = 2

abbrev pub BASEGRID : ℕ
BASEGRID = 3

abbrev pub INITIAL : ℕ
INITIAL = 4

abbrev pub POSTINITIAL : ℕ
POSTINITIAL = 5

abbrev pub PRESTEP : ℕ
PRESTEP = 6

abbrev pub EVOL : ℕ
EVOL = 7

abbrev pub POSTSTEP : ℕ
POSTSTEP = 8

abbrev pub CHECKPOINT : ℕ
CHECKPOINT = 9

abbrev pub ANALYSIS : ℕ
ANALYSIS = 10

abbrev pub TERMINATE : ℕ
TERMINATE = 11

abbrev pub SHUTDOWN : ℕ
SHUTDOWN = 12

-- those that are not run
abbrev pub CPINITIAL : ℕ
CPINITIAL = 13

abbrev pub RECOVER_PARAMETERS : ℕ
RECOVER_PARAMETERS = 14

abbrev pub RECOVER_VARIABLES : ℕ
RECOVER_VARIABLES = 15

abbrev pub POST_RECOVER_VARIABLES : ℕ
POST_RECOVER_VARIABLES = 16

-- the order of a run: at iteration 0, in each later iteration, and at the end. ANALYSIS stands
-- behind the first two, and CHECKPOINT between the second and ANALYSIS
abbrev pub start_bins : List ℕ
start_bins = STARTUP ∷ WRAGH ∷ PARAMCHECK ∷ BASEGRID ∷ INITIAL ∷ POSTINITIAL ∷ POSTSTEP ∷ []

abbrev pub step_bins : List ℕ
step_bins = PRESTEP ∷ EVOL ∷ POSTSTEP ∷ []

abbrev pub end_bins : List ℕ
end_bins = TERMINATE ∷ SHUTDOWN ∷ []

-- the bins that are run, by their numbers
abbrev pub run_bins : List ℕ
run_bins =
    STARTUP ∷ WRAGH ∷ PARAMCHECK ∷ BASEGRID ∷ INITIAL ∷ POSTINITIAL ∷ PRESTEP ∷ EVOL ∷ POSTSTEP
    ∷ CHECKPOINT ∷ ANALYSIS
    ∷ TERMINATE ∷ SHUTDOWN ∷ []

-- how many bins there are; the first so many are run
abbrev pub bin_count : ℕ
bin_count = 17

abbrev pub run_bin_count : ℕ
run_bin_count = 13

-- the bins' names, by their numbers
abbrev pub bin_names : List (List ℕ)
bin_names =
    codes "STARTUP"
    ∷ codes "WRAGH"
    ∷ codes "PARAMCHECK"
    ∷ codes "BASEGRID"
    ∷ codes "INITIAL"
    ∷ codes "POSTINITIAL"
    ∷ codes "PRESTEP"
    ∷ codes "EVOL"
    ∷ codes "POSTSTEP"
    ∷ codes "CHECKPOINT"
    ∷ codes "ANALYSIS"
    ∷ codes "TERMINATE"
    ∷ codes "SHUTDOWN"
    ∷ codes "CPINITIAL"
    ∷ codes "RECOVER_PARAMETERS"
    ∷ codes "RECOVER_VARIABLES"
    ∷ codes "POST_RECOVER_VARIABLES"
    ∷ []

abbrev pub bin_name : ℕ → List ℕ
bin_name b = slice_index_or bin_names b []

-- ---- trees

-- the items that a tree calls, in its order
abbrev mutual
  pub called : Tree → List ℕ
  called (Seq' shape all) = called_in all
  called (Call k) = k ∷ []
  called (Sync vars path) = []
  called (If' v path shape tree) = called_in tree
  called (While' v path shape tree) = called_in tree

  pub called_in : {m : _} → Row_of-Tree m → List ℕ
  called_in end_of-Tree = []
  called_in (more_of-Tree tree rest) = called tree ++ called_in rest

-- whether a row has no tree
abbrev pub has_none : {m : _} → Row_of-Tree m → Bool
has_none end_of-Tree = true
has_none (more_of-Tree tree rest) = false

-- whether a bin has nothing in it
abbrev pub is_empty : Tree → Bool
is_empty (Seq' shape all) = has_none all
is_empty (Call k) = false
is_empty (Sync vars path) = false
is_empty (If' v path shape tree) = false
is_empty (While' v path shape tree) = false
