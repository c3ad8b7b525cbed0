-- The job of the tests: a ring of eight points in parts of 3 and 5 points, with a grid variable and
-- a scalar, both of which are written.
use Rattle.std.specs.Prelude.{◌∷◌, [], List, false, true, pos, None, codes}
use Rattle.cx_text.specs.declared.ctype.CType.TheVariants.{Byte}
use Rattle.cx_plan.specs.declared.variable.VarId.{VarId}
use Rattle.cx_plan.specs.declared.variable.VarInfo.{VarInfo}
use Rattle.cx_plan.specs.declared.tree.Tree.{Tree, Seq}
use Rattle.cx_plan.specs.declared.job.Recover.TheVariants.{No}
use Rattle.cx_plan.specs.declared.job.Job.{Job}

abbrev pub sample_variables : List VarInfo
sample_variables =
    record { full = codes "ca::cell"; ctype = Byte; scalar = false; levels = 1 }
    ∷ record { full = codes "ca::live"; ctype = Byte; scalar = true; levels = 1 } ∷ []

abbrev pub sample_outputs : List VarId
sample_outputs = record { 0 = 0 } ∷ record { 0 = 1 } ∷ []

abbrev pub nothing : Tree
nothing = Seq []

abbrev pub no_bins : List Tree
no_bins = nothing ∷ nothing ∷ nothing ∷ nothing ∷ nothing ∷ nothing ∷ nothing ∷ nothing ∷ nothing
    ∷ nothing ∷ nothing ∷ nothing ∷ nothing ∷ nothing ∷ nothing ∷ nothing ∷ nothing ∷ []

abbrev pub sample : Job
sample =
    record {
      shape = record {
        dims = 1;
        n = record { x = pos 8; y = pos 1; z = pos 1 };
        ghost_ = record { x = pos 1; y = pos 0; z = pos 0 };
        periodic = true ∷ false ∷ false ∷ [];
      };
      vars = sample_variables;
      items = [];
      steers = [];
      plan = record { bins = no_bins };
      cut = record { x = 3 ∷ 5 ∷ []; y = 1 ∷ []; z = 1 ∷ [] };
      itlast = 2;
      while_limit = 1;
      lead = 0;
      balance = false;
      weight = None;
      weight_factor = 1;
      out_every = pos 1;
      out_vars = sample_outputs;
      chk_every = pos 0;
      keep = 1;
      on_end = false;
      recover = No;
      out_dir = codes "out";
      chk_dir = codes "chk";
      key = [];
      plan_text = [];
      starred = [];
    }
