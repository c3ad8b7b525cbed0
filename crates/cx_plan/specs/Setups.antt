-- What the undivided run of a job depends on: everything but the cut, the lead, the folders, the
-- slots and the way to begin.
use Rattle.std.specs.Prelude.{ℕ, Bool, ℤ, List}
use Rattle.cx_grid.specs.declared.shapes.Shape.{Shape}
use Rattle.cx_plan.specs.declared.variable.VarId.{VarId}
use Rattle.cx_plan.specs.declared.variable.VarInfo.{VarInfo}
use Rattle.cx_plan.specs.declared.item.Item.{Item}
use Rattle.cx_plan.specs.declared.steered.Steered.{Steered}
use Rattle.cx_plan.specs.declared.tree.Tree.{Tree}
use Rattle.cx_plan.specs.declared.job.Job.{Job}

pub record Setup : Type 0 where
  pub shape : Shape
  pub vars : List VarInfo
  pub items : List Item
  pub steers : List Steered
  pub bins : List Tree
  pub itlast : ℕ
  pub while_limit : ℕ
  pub out_every : ℤ
  pub out_vars : List VarId
  pub chk_every : ℤ
  pub on_end : Bool

abbrev pub setup_of : Job → Setup
setup_of job =
    record {
      shape = job.shape;
      vars = job.vars;
      items = job.items;
      steers = job.steers;
      bins = job.plan.bins;
      itlast = job.itlast;
      while_limit = job.while_limit;
      out_every = job.out_every;
      out_vars = job.out_vars;
      chk_every = job.chk_every;
      on_end = job.on_end;
    }
