-- The jobs of tests: a wave on a line of six points, and a scalar.
use Rattle.std.specs.Prelude.{ℕ, zero, suc, ◌∷◌, [], List, Bool, false, true, pos, negsuc, None, codes}
use Rattle.cx_text.specs.declared.ctype.CType.TheVariants.{Int8}
use Rattle.cx_plan.specs.declared.variable.VarId.{VarId}
use Rattle.cx_plan.specs.declared.variable.VarInfo.{VarInfo}
use Rattle.cx_plan.specs.declared.item.Region.{Region}
use Rattle.cx_plan.specs.declared.item.Region.TheVariants.{Interior, Boundary, Everywhere}
use Rattle.cx_plan.specs.declared.item.Touch.{Touch}
use Rattle.cx_plan.specs.declared.item.ItemKind.{ItemKind}
use Rattle.cx_plan.specs.declared.item.ItemKind.TheVariants.{Cell, Scalar}
use Rattle.cx_plan.specs.declared.item.Item.{Item}
use Rattle.cx_plan.specs.declared.tree.Tree.{Tree, Seq, While}
use Rattle.cx_plan.specs.declared.job.Recover.TheVariants.{No}
use Rattle.cx_plan.specs.declared.job.Job.{Job}

abbrev pub wave : VarId
wave = record { 0 = 0 }

abbrev pub switch : VarId
switch = record { 0 = 1 }

abbrev pub touch : VarId → ℕ → Region → ℕ → Touch
touch v level region reach = record { var = v; level = level; region = region; reach = reach }

abbrev pub item_of : ItemKind → List Touch → List Touch → Item
item_of kind reads writes =
    record {
      thorn = codes "W";
      name = codes "w";
      path = codes "EVOL/w";
      kind = kind;
      routine = 0;
      reads = reads;
      writes = writes;
      params = [];
    }

-- what is known of a variable of bytes
abbrev pub info_of : List ℕ → Bool → ℕ → VarInfo
info_of full scalar levels = record { full = full; ctype = Int8; scalar = scalar; levels = levels }

abbrev pub sample_variables : List VarInfo
sample_variables =
    info_of (codes "phi") false 3 ∷ info_of (codes "on") true 1 ∷ []

-- the switch is set; the wave begins; it takes a step; its boundary is set by what is within, and
-- alone
abbrev pub sample_items : List Item
sample_items =
    item_of Scalar [] (touch switch 0 Everywhere 0 ∷ [])
    ∷ item_of Cell [] (touch wave 0 Everywhere 0 ∷ touch wave 1 Everywhere 0 ∷ [])
    ∷ item_of Cell (touch wave 1 Everywhere 1 ∷ touch wave 2 Interior 0 ∷ [])
    (touch wave 0 Interior 0 ∷ [])
    ∷ item_of Cell (touch wave 0 Interior 0 ∷ []) (touch wave 0 Boundary 0 ∷ [])
    ∷ item_of Cell [] (touch wave 0 Boundary 0 ∷ []) ∷ []

abbrev pub nothing : Tree
nothing = Seq []

-- a job with these bins INITIAL and EVOL
abbrev pub sample : Tree → Tree → Job
sample initial evol =
    record {
      shape = record {
        dims = 1;
        n = record { x = pos 6; y = pos 1; z = pos 1 };
        ghost_ = record { x = pos 1; y = pos 0; z = pos 0 };
        periodic = false ∷ false ∷ false ∷ [];
      };
      vars = sample_variables;
      items = sample_items;
      steers = [];
      plan =
          record {
            bins = nothing ∷ nothing ∷ nothing ∷ nothing ∷ initial ∷ nothing ∷ nothing ∷ evol
                ∷ nothing ∷ nothing ∷ nothing ∷ nothing ∷ nothing ∷ nothing ∷ nothing ∷ nothing
                ∷ nothing
                ∷ [];
          };
      cut = record { x = []; y = []; z = [] };
      itlast = 8;
      while_limit = 8;
      lead = 1;
      balance = false;
      weight = None;
      weight_factor = 1;
      out_every = pos 1;
      out_vars = wave ∷ [];
      chk_every = negsuc 0;
      keep = 1;
      on_end = false;
      recover = No;
      out_dir = codes "out";
      chk_dir = codes "chk";
      key = [];
      plan_text = [];
      starred = [];
    }

-- WHILEs within one another
abbrev pub whiles : ℕ → Tree → Tree
whiles zero work = work
whiles (suc n) work = While switch (codes "EVOL/w") (whiles n work)
