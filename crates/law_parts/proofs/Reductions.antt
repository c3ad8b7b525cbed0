-- What reductions over parts ask of a run.
use Rattle.std.proofs.Common.{ℕ, suc, ◌<◌, ◌≡◌, true, false, List, ◌∷◌, length, None}
use Rattle.cx_plan.specs.declared.item.Touch.{Touch}
use Rattle.cx_plan.specs.Setups.{Setup}
use Rattle.cx_plan.specs.Lookups.{item, is_scalar, levels_of}
use Rattle.cx_model.specs.States.{IsState}
use Rattle.cx_flat.specs.declared.op.Op.TheVariants.{Join}
use Rattle.cx_flat.specs.Flats.{begins_pair, ends_pair}
use Rattle.law_parts.specs.Runs.{Run, undivided, op_of}
use Rattle.law_parts.specs.Operations.{is_reduction}

-- what a reduction reads first is a stored level of a grid variable
pub record ReadsGrid (setup : Setup) (reads : List Touch) : Type 0 where
  pub touch : Touch
  pub more : List Touch
  pub reads_are : reads ≡ touch ∷ more
  pub grid : is_scalar setup touch.var ≡ false
  pub there : touch.var.0 < length setup.vars
  pub stored : touch.level < levels_of setup touch.var

-- the undivided run goes in pairs, its states are whole, and its results are those of reductions
-- that read the grid
pub record Reduces (r : Run) : Type 0 where
  pub first : ends_pair (op_of r 0) ≡ None
  pub pairs : (n : ℕ) → ends_pair (op_of r (suc n)) ≡ begins_pair r.setup (op_of r n)
  pub states : (n : ℕ) → IsState r.setup (undivided r n).state
  pub kind : (n i : ℕ) → op_of r n ≡ Join i → is_reduction (item r.setup i).kind ≡ true
  pub reads : (n i : ℕ) → op_of r n ≡ Join i → ReadsGrid r.setup (item r.setup i).reads
