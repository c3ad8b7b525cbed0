-- The files of seed 7 and size 64, the line that sums them up, and the scalar that it tells of.
use Rattle.std.specs.Prelude.{◌≡◌, pos, negsuc, true, false, [], ◌∷◌, Some, None, codes}
use Rattle.std.proofs.Common.{refl}
use Rattle.std.specs.Fmt.{digits}
use Rattle.cx_text.specs.declared.ctype.CType.TheVariants.{Byte, Int}
use Rattle.cx_plan.specs.Setups.{Setup}
use Rattle.cx_run_made.specs.Files.{thorn_list, interface, params, schedule, parameters, made_files}
use Rattle.cx_run_made.specs.Summaries.{summary, numbered, scalar_named, live_variable}

row_list : thorn_list ≡ codes "Integer/Life2D\n"
row_list = refl

row_interface : interface
    ≡ codes
    "implements: life\npublic:\nCCTK_BYTE cells TYPE=GF DIM=2 { cell } \"cells\"\nCCTK_INT counts TYPE=SCALAR { live } \"live cells\"\n"
row_interface = refl

row_params : params ≡ codes
    "restricted:\nINT born { 0:511 } 8\nINT survive { 0:511 } 12\nKEYWORD pattern { \"glider\" \"random\" } \"glider\"\nINT seed { 0:* } 0\n"
row_params = refl

row_schedule : schedule ≡ codes
    "STORAGE: cells[1] counts[1]\nschedule life_init AT INITIAL { LANG: C WRITES: life::cell(everywhere) } \"start\"\nschedule life_step AT EVOL\n{\n  LANG: C\n  SYNC: cells\n  READS: life::cell(everywhere)\n  WRITES: life::cell(interior)\n} \"one step\"\nschedule life_zero AT EVOL AFTER life_step { LANG: C WRITES: life::cell(boundary) } \"edge\"\nschedule life_count AT POSTSTEP { LANG: C READS: life::cell(everywhere) WRITES: life::live } \"count\"\n"
row_schedule = refl

row_parameters : parameters 7 64
    ≡ codes
    "ActiveThorns = \"Life2D\"\nCactus::cctk_itlast = 20\ndriver::global_nx = 64\ndriver::global_ny = 64\ndriver::periodic = yes\ndriver::parts_x = 4\ndriver::parts_y = 4\nlife::pattern = \"random\"\nlife::seed = 7\nIO::out_dir = \"made\"\nIO::checkpoint_dir = \"made\"\nIO::out_every = 20\nIO::out_vars = \"life::cell\"\nIO::checkpoint_every = 10\n"
unfolding digits
row_parameters = refl

row_files : made_files 7 64
    ≡ (codes "ThornList", thorn_list)
    ∷ (codes "arrangements/Integer/Life2D/interface.ccl", interface)
    ∷ (codes "arrangements/Integer/Life2D/param.ccl", params)
    ∷ (codes "arrangements/Integer/Life2D/schedule.ccl", schedule)
    ∷ (codes "made.par", parameters 7 64) ∷ []
unfolding digits
row_files = refl

row_summary : summary 7 64 16459 (pos 512)
    ≡ codes "made 7 64 points 4096 parts 16 output 16459 live 512\n"
unfolding digits
row_summary = refl

row_greatest : summary 9223372036854775807 1024 0 (negsuc 0)
    ≡ codes "made 9223372036854775807 1024 points 1048576 parts 16 output 0 live -1\n"
unfolding digits
row_greatest = refl

abbrev sheet : Setup
sheet =
    record {
      shape = record {
        dims = 2;
        n = record { x = pos 8; y = pos 8; z = pos 1 };
        ghost_ = record { x = pos 1; y = pos 1; z = pos 0 };
        periodic = true ∷ true ∷ false ∷ [];
      };
      vars =
          record { full = codes "life::cell"; ctype = Byte; scalar = false; levels = 1 }
          ∷ record { full = codes "life::live"; ctype = Int; scalar = true; levels = 0 }
          ∷ record { full = codes "life::live"; ctype = Int; scalar = true; levels = 1 }
          ∷ record { full = codes "life::live"; ctype = Int; scalar = true; levels = 1 }
          ∷ [];
      items = [];
      steers = [];
      bins = [];
      itlast = 20;
      while_limit = 1000;
      out_every = pos 20;
      out_vars = [];
      chk_every = pos 10;
      on_end = false;
    }

-- the first that is stored
row_live : live_variable sheet ≡ Some (numbered 2)
row_live = refl

-- which is no scalar
row_cell : scalar_named sheet (codes "life::cell") ≡ None
row_cell = refl

-- only a whole name counts
row_other : scalar_named sheet (codes "life::liv") ≡ None
row_other = refl
