-- Worked rows: listed widths, and the grid, the cut and the numbers of some settings.
use Rattle.std.specs.Prelude.{◌≡◌, refl, ℕ, pos, negsuc, true, false, List, [], ◌∷◌, codes, Some, None}
use Rattle.cx_iface.specs.declared.tree.Access.TheVariants.{Public}
use Rattle.cx_parfile.specs.declared.settings.Setting.{Setting}
use Rattle.cx_plan.specs.declared.job.Recover.TheVariants.{No, Auto}
use Rattle.cx_bind.specs.declared.thorns.Thorn.{Thorn}
use Rattle.cx_bind.proofs.Samples.{elem_ca, thorn, grid_group}
use Rattle.cx_values.specs.Naming.{names}
use Rattle.cx_values.specs.Assigned.{assigned}
use Rattle.cx_job_values.specs.Grids.{listed_widths, dims, shape_of, cuts_of}
use Rattle.cx_job_values.specs.RunNumbers.{itlast, balance, weight_name, weight_factor, out_every, out_dir, recover_of}

-- ---- listed widths

row_listed : listed_widths (codes " 5  003 ") ≡ 5 ∷ 3 ∷ []
row_listed = refl

row_blanks_alone : listed_widths (codes "  ") ≡ []
row_blanks_alone = refl

-- ---- the grid and its cut

abbrev set : List ℕ → List ℕ → List ℕ → Setting
set owner name value = record {
  owner = Some owner;
  name = name;
  index = None;
  value = value;
  line = 1;
}

abbrev set_driver : List ℕ → List ℕ → Setting
set_driver name value = set (codes "driver") name value

row_no_grid : dims [] ≡ 1
row_no_grid = refl

-- a ring of 8 points
abbrev ring : List Setting
ring = set_driver (codes "global_nx") (codes "8") ∷ set_driver (codes "periodic") (codes "yes")
    ∷ set_driver (codes "parts_x") (codes "3") ∷ []

row_ring : shape_of (elem_ca ∷ []) (assigned (elem_ca ∷ []) ring) ≡ record {
  dims = 1;
  n = record { x = pos 8; y = pos 1; z = pos 1 };
  ghost_ = record { x = pos 1; y = pos 0; z = pos 0 };
  periodic = true ∷ false ∷ false ∷ [];
}
unfolding assigned names
row_ring = refl

row_ring_in_three : cuts_of (elem_ca ∷ []) (assigned (elem_ca ∷ []) ring)
    ≡ record { x = 3 ∷ 3 ∷ 2 ∷ []; y = 1 ∷ []; z = 1 ∷ [] }
unfolding assigned names
row_ring_in_three = refl

-- a sheet of 6 points each way, which is periodic in y
abbrev sheets : List Thorn
sheets = thorn (codes "Sheet") (codes "sheet") []
    (grid_group Public (codes "u") 2 (codes "u" ∷ []) ∷ []) [] ∷ []

abbrev sheet : List Setting
sheet =
    set_driver (codes "global_nsize") (codes "6")
    ∷ set_driver (codes "ghost_size") (codes "0")
    ∷ set_driver (codes "periodic") (codes "yes")
    ∷ set_driver (codes "periodic_x") (codes "no")
    ∷ set_driver (codes "widths_y") (codes "1 5")
    ∷ set_driver (codes "parts_y") (codes "3")
    ∷ []

row_sheet : shape_of sheets (assigned sheets sheet) ≡ record {
  dims = 2;
  n = record { x = pos 6; y = pos 6; z = pos 1 };
  ghost_ = record { x = pos 0; y = pos 0; z = pos 0 };
  periodic = false ∷ true ∷ false ∷ [];
}
unfolding assigned names
row_sheet = refl

row_sheet_by_widths : cuts_of sheets (assigned sheets sheet)
    ≡ record { x = 6 ∷ []; y = 1 ∷ 5 ∷ []; z = 1 ∷ [] }
unfolding assigned names
row_sheet_by_widths = refl

-- ---- the numbers

row_default_end : itlast (assigned [] []) ≡ 10
unfolding assigned names
row_default_end = refl

row_weightless : weight_factor (assigned [] []) ≡ 1
unfolding assigned names
row_weightless = refl

row_heaviest : weight_factor
    (assigned [] (set_driver (codes "weight_factor") (codes "1048576") ∷ [])) ≡ 1048576
unfolding assigned names
row_heaviest = refl

row_balanced : balance (assigned [] (set_driver (codes "balance") (codes "yes") ∷ [])) ≡ true
unfolding assigned names
row_balanced = refl

row_weighing : weight_name
    (assigned [] (set (codes "PUGH") (codes "weight") (codes "ca::cell") ∷ [])) ≡ codes "ca::cell"
unfolding assigned names
row_weighing = refl

row_no_output : out_every (assigned [] (set (codes "IO") (codes "out_every") (codes "-1") ∷ []))
    ≡ negsuc 0
unfolding assigned names
row_no_output = refl

row_folder : out_dir (assigned [] (set (codes "IO") (codes "out_dir") (codes "a") ∷ [])) ≡ codes "a"
unfolding assigned names
row_folder = refl

row_afresh : recover_of (assigned [] []) ≡ No
unfolding assigned names
row_afresh = refl

row_again : recover_of (assigned [] (set (codes "IO") (codes "recover") (codes "AUTO") ∷ [])) ≡ Auto
unfolding assigned names
row_again = refl
