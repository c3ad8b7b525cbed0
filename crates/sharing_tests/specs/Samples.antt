-- The jobs of the tests: a grid with two variables, the second of which may weigh its points, and a
-- checkpoint of such a job.
use Rattle.std.specs.Prelude.{ℕ, ◌≡◌, ◌≤◌, ◌^◌, Bool, true, false, ℤ, pos, List, [], ◌∷◌, length, Option, Some, None, codes, if◌then◌else◌}
use Rattle.cx_grid.specs.declared.shapes.Shape.{Shape}
use Rattle.cx_grid.specs.Boxes.{point_count}
use Rattle.cx_grid.specs.Grid.{whole}
use Rattle.cx_text.specs.declared.ctype.CType.TheVariants.{Int8}
use Rattle.cx_plan.specs.declared.variable.VarId.{VarId}
use Rattle.cx_plan.specs.declared.variable.VarInfo.{VarInfo}
use Rattle.cx_plan.specs.declared.tree.Tree.{Tree, Seq}
use Rattle.cx_plan.specs.declared.job.Recover.TheVariants.{No}
use Rattle.cx_plan.specs.declared.job.Cuts.{Cuts}
use Rattle.cx_plan.specs.declared.job.Job.{Job}
use Rattle.cx_chk.specs.declared.checkpoint.Checkpoint.{Checkpoint}

-- one with two levels, and one with one
abbrev pub sample_variables : List VarInfo
sample_variables =
    record { full = codes "a"; ctype = Int8; scalar = false; levels = 2 }
    ∷ record { full = codes "b"; ctype = Int8; scalar = false; levels = 1 } ∷ []

abbrev pub nothing : Tree
nothing = Seq []

abbrev pub no_bins : List Tree
no_bins = nothing ∷ nothing ∷ nothing ∷ nothing ∷ nothing ∷ nothing ∷ nothing ∷ nothing ∷ nothing
    ∷ nothing ∷ nothing ∷ nothing ∷ nothing ∷ nothing ∷ nothing ∷ nothing ∷ nothing ∷ []

-- the second one weighs, or none does
abbrev pub weighing : Bool → Option VarId
weighing weighed = if weighed then Some (record { 0 = 1 }) else None

abbrev pub sample : Shape → Cuts → Bool → (factor : ℕ) → Job
sample shape own weighed factor =
    record {
      shape = shape;
      vars = sample_variables;
      items = [];
      steers = [];
      plan = record { bins = no_bins };
      cut = own;
      itlast = 4;
      while_limit = 1;
      lead = 0;
      balance = true;
      weight = weighing weighed;
      weight_factor = factor;
      out_every = pos 0;
      out_vars = [];
      chk_every = pos 4;
      keep = 1;
      on_end = false;
      recover = No;
      out_dir = [];
      chk_dir = [];
      key = [];
      plan_text = [];
      starred = [];
    }

-- the first variable's two levels stand before the one that weighs
abbrev pub sample_state : List ℤ → Checkpoint
sample_state numbers =
    record {
      version = 2;
      iteration = 4;
      key = [];
      names = [];
      lengths = [];
      scalars = [];
      levels = [] ∷ [] ∷ numbers ∷ [];
    }

-- what is asked of the numbers of a row
pub record AreNumbers (shape : Shape) (factor : ℕ) (numbers : List ℤ) : Type 0 where
  pub points : length numbers ≡ point_count (whole shape)
  pub few_times : factor ≤ 2 ^ 20
