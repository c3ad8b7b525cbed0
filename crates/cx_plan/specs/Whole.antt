-- The jobs that calls ask for.
use Rattle.std.specs.Prelude.{ℕ, ◌*◌, ◌^◌, ◌≤◌, ◌<◌, ◌≡◌, ◌≢◌, true, false, pos, negsuc, ◌≤ℤ◌, List, map, length, sum, filter, not, All, AllPairs, IfSome, if◌then◌else◌}
use Rattle.cx_grid.specs.Boxes.{point_count}
use Rattle.cx_grid.specs.Grid.{IsShape, whole}
use Rattle.cx_plan.specs.declared.variable.VarId.{VarId}
use Rattle.cx_plan.specs.declared.variable.VarInfo.{VarInfo}
use Rattle.cx_plan.specs.declared.item.Touch.{Touch}
use Rattle.cx_plan.specs.declared.item.Item.{Item}
use Rattle.cx_plan.specs.declared.job.Job.{Job}
use Rattle.cx_plan.specs.declared.tree.Tree.{Tree, Seq', Call, Sync, If', While', Row_of-Tree, end_of-Tree, more_of-Tree}
use Rattle.cx_plan.specs.Setups.{setup_of}
use Rattle.cx_plan.specs.Lookups.{is_scalar, levels_of, item, bin_count}
use Rattle.cx_plan.specs.Regions.{run_items}
use Rattle.cx_plan.specs.Steering.{IsSteer}
use Rattle.cx_plan.specs.Sizes.{all_nodes, greatest_depth}

-- a variable of the job
abbrev pub IsVariable : Job → VarId → Type 0
IsVariable job v = v.0 < length job.vars

-- a level of a variable that is stored
abbrev pub IsStored : Job → VarId → ℕ → Type 0
IsStored job v level = IsVariable job v × (level < levels_of (setup_of job) v)

abbrev pub IsStoredScalar : Job → VarId → Type 0
IsStoredScalar job v = IsStored job v 0 × (is_scalar (setup_of job) v ≡ true)

abbrev pub IsStoredGrid : Job → VarId → Type 0
IsStoredGrid job v = IsStored job v 0 × (is_scalar (setup_of job) v ≡ false)

-- a tree that names items and variables of the job
abbrev mutual
  pub IsTree : Job → Tree → Type 0
  IsTree job (Seq' shape all) = IsRow job all
  IsTree job (Call k) = k < length job.items
  IsTree job (Sync vars path) = All (IsStoredGrid job) vars × AllPairs (λ a b. a.0 ≢ b.0) vars
  IsTree job (If' v path shape one) = IsStoredScalar job v × IsRow job one
  IsTree job (While' v path shape one) = IsStoredScalar job v × IsRow job one

  pub IsRow : {m : _} → Job → Row_of-Tree m → Type 0
  IsRow job end_of-Tree = Unit {0}
  IsRow job (more_of-Tree tree rest) = IsTree job tree × IsRow job rest

abbrev pub IsTouch : Job → Touch → Type 0
IsTouch job t = IsStored job t.var t.level

pub record IsItem (job : Job) (x : Item) : Type 0 where
  pub reads : All (IsTouch job) x.reads
  pub writes : All (IsTouch job) x.writes

-- the limits of an item that is run
pub record IsSmall (x : Item) : Type 0 where
  pub reads : length x.reads ≤ 32
  pub writes : length x.writes ≤ 16
  pub params : length x.params ≤ 32

-- a name that the output may hold: one or more bytes from 33 to 126
abbrev pub IsName : List ℕ → Type 0
IsName full = (1 ≤ length full) × All (λ b. (33 ≤ b) × (b ≤ 126)) full

-- how many numbers the grid variables have at one point
abbrev pub grid_levels : List VarInfo → ℕ
grid_levels vars =
    sum (map (λ (v : VarInfo). v.levels) (filter (λ (v : VarInfo). not v.scalar) vars))

pub record IsWhole (job : Job) : Type 0 where
  pub shape : IsShape job.shape
  pub names : All (λ (v : VarInfo). IsName v.full) job.vars
  pub names_differ : AllPairs (λ (a b : VarInfo). a.full ≢ b.full) job.vars
  pub one_level : All (λ (v : VarInfo). v.scalar ≡ true → v.levels ≤ 1) job.vars
  pub levels_limit : All (λ (v : VarInfo). v.levels ≤ 8) job.vars
  pub items : All (IsItem job) job.items
  pub run_items : All (λ k. IsSmall (item (setup_of job) k)) (run_items (setup_of job))
  pub bins : length job.plan.bins ≡ bin_count
  pub trees : All (IsTree job) job.plan.bins
  pub nodes_limit : all_nodes job.plan.bins ≤ 4096
  pub depth_limit : greatest_depth job.plan.bins ≤ 32
  pub outputs : All (λ v. IsStored job v 0) job.out_vars
  pub steers : All (IsSteer (setup_of job)) job.steers
  pub weight : IfSome job.weight (IsStoredGrid job)
  pub weight_factor : job.weight_factor ≤ 2 ^ 20
  pub outputs_rise : AllPairs (λ (a b : VarId). a.0 < b.0) job.out_vars
  pub variables_limit : length job.vars ≤ 256
  pub itlast_limit : job.itlast ≤ 1000000
  pub some_turn : 1 ≤ job.while_limit
  pub while_limit : job.while_limit ≤ 1000000
  pub lead_limit : job.lead ≤ 64
  pub some_keep : 1 ≤ job.keep
  pub keep_limit : job.keep ≤ 7
  pub output_least : negsuc 0 ≤ℤ job.out_every
  pub output_limit : job.out_every ≤ℤ pos 1000000
  pub checkpoint_least : negsuc 0 ≤ℤ job.chk_every
  pub checkpoint_limit : job.chk_every ≤ℤ pos 1000000
  pub cells_limit : grid_levels job.vars * point_count (whole job.shape) ≤ 2 ^ 26
  pub key_limit : length job.key < 2 ^ 32

-- how many numbers a checkpoint holds of a variable that is a scalar, and how many levels of a grid
-- variable
abbrev pub scalar_count : VarInfo → ℕ
scalar_count v = if v.scalar then v.levels else 0

abbrev pub level_count : VarInfo → ℕ
level_count v = if v.scalar then 0 else v.levels
