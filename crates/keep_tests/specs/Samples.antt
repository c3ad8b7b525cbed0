-- The job of the tests: a grid variable of two points and a scalar, both of which are written or
-- neither, with checkpoints at iterations 20 and 40.
use Rattle.std.specs.Prelude.{ℕ, ◌∷◌, [], List, Bool, false, true, pos, negsuc, None, replicate, codes}
use Rattle.cx_text.specs.declared.ctype.CType.TheVariants.{Int8, Byte}
use Rattle.cx_plan.specs.declared.variable.VarId.{VarId}
use Rattle.cx_plan.specs.declared.variable.VarInfo.{VarInfo}
use Rattle.cx_plan.specs.declared.tree.Tree.{Tree, Seq}
use Rattle.cx_plan.specs.declared.job.Recover.{Recover}
use Rattle.cx_plan.specs.declared.job.Job.{Job}
use Rattle.cx_chk.specs.declared.checkpoint.Checkpoint.{Checkpoint}

abbrev pub sample_variables : List VarInfo
sample_variables =
    record { full = codes "wave::phi"; ctype = Byte; scalar = false; levels = 1 }
    ∷ record { full = codes "wave::total"; ctype = Int8; scalar = true; levels = 1 } ∷ []

abbrev pub nothing : Tree
nothing = Seq []

abbrev pub no_bins : List Tree
no_bins = replicate 17 nothing

-- a steer of the iteration of the first checkpoint, and one after the last
abbrev pub sample_key : List ℕ
sample_key = codes "k\nv 5\nsteer 20 wave::factor = \"0\"\nsteer 100 wave::factor = \"1\""

abbrev pub written_variables : Bool → List VarId
written_variables true = record { 0 = 0 } ∷ record { 0 = 1 } ∷ []
written_variables false = []

abbrev pub sample : Bool → Recover → Job
sample written recover =
    record {
      shape = record {
        dims = 1;
        n = record { x = pos 2; y = pos 1; z = pos 1 };
        ghost_ = record { x = pos 0; y = pos 0; z = pos 0 };
        periodic = false ∷ false ∷ false ∷ [];
      };
      vars = sample_variables;
      items = [];
      steers = [];
      plan = record { bins = no_bins };
      cut = record { x = []; y = []; z = [] };
      itlast = 40;
      while_limit = 1;
      lead = 0;
      balance = false;
      weight = None;
      weight_factor = 1;
      out_every = negsuc 0;
      out_vars = written_variables written;
      chk_every = pos 20;
      keep = 1;
      on_end = false;
      recover = recover;
      out_dir = codes "out";
      chk_dir = codes "chk";
      key = sample_key;
      plan_text = [];
      starred = [];
    }

-- the checkpoint of iteration 20 of the tests, behind three bytes of one output and two of the other
abbrev pub sample_checkpoint : Checkpoint
sample_checkpoint = record {
  version = 2;
  iteration = 20;
  key = sample_key;
  names = codes "wave::phi.asc" ∷ codes "wave::total.asc" ∷ [];
  lengths = 3 ∷ 2 ∷ [];
  scalars = negsuc 0 ∷ [];
  levels = (pos 0 ∷ pos 1 ∷ []) ∷ [];
}
