-- Worked rows: which variables are written, the stored levels of variables, and how many cells they
-- have.
use Rattle.std.specs.Prelude.{◌≡◌, refl, ℕ, pos, true, false, List, [], ◌∷◌, ◌++◌, map, codes, Some, Result, Ok, Err}
use Rattle.cx_iface.specs.declared.tree.Access.TheVariants.{Public}
use Rattle.cx_grid.specs.declared.shapes.Shape.{Shape}
use Rattle.cx_plan.specs.declared.variable.VarId.{VarId}
use Rattle.cx_bind.specs.declared.thorns.Thorn.{Thorn}
use Rattle.cx_bind.specs.BuiltIn.{text_parameter}
use Rattle.cx_bind.proofs.Samples.{elem_ca, thorn, grid_group}
use Rattle.cx_scope.specs.declared.fault.ScopeFault.{ScopeFault}
use Rattle.cx_scope.specs.declared.fault.ScopeFault.TheVariants.{NotFound, NoStorage}
use Rattle.cx_values.specs.declared.values.Values.{Values}
use Rattle.cx_values.specs.Assigned.{slot}
use Rattle.cx_job.specs.Outputs.{output_names, output_variables}
use Rattle.cx_job_values.specs.Stored.{stored_infos, point_count, owned_cells}

abbrev out_vars : List ℕ → Values
out_vars text = record {
  slots =
      slot [] (text_parameter 1 (codes "IO") (codes "out_vars") text) ∷ [];
  given = [];
  uses = [];
  globals = [];
}

-- the automaton has the cell, of the group cells, and the scalar live, of the group counts
abbrev written : List ℕ → List ℕ → Result (List VarId) ScopeFault
written text storage = output_variables (elem_ca ∷ []) (out_vars text) storage

abbrev both_stored : List ℕ
both_stored = 1 ∷ 1 ∷ []

row_names : output_names (out_vars (codes " ca::cell" ++ 10 ∷ 9 ∷ codes "CA::CELLS "))
    ≡ codes "ca::cell" ∷ codes "CA::CELLS" ∷ []
row_names = refl

row_none : written [] both_stored ≡ Ok []
row_none = refl

row_variable : written (codes "ca::cell") both_stored ≡ Ok (record { 0 = 0 } ∷ [])
row_variable = refl

row_group : written (codes "CA::CELLS") both_stored ≡ Ok (record { 0 = 0 } ∷ [])
row_group = refl

-- once, and in the order of the numbers
row_several : written (codes "ca::counts CA::CELLS ca::live") both_stored
    ≡ Ok (record { 0 = 0 } ∷ record { 0 = 1 } ∷ [])
row_several = refl

row_nobody : written (codes "ca::cell ca::nobody") both_stored ≡ Err (NotFound (codes "ca::nobody"))
row_nobody = refl

-- no full name, and a name of a past level
row_short : written (codes "cell") both_stored ≡ Err (NotFound (codes "cell"))
row_short = refl

row_past : written (codes "ca::cell_p") both_stored ≡ Err (NotFound (codes "ca::cell_p"))
row_past = refl

row_not_stored : written (codes "ca::live CA::Cells") (0 ∷ 1 ∷ [])
    ≡ Err (NoStorage (codes "CA::Cells"))
row_not_stored = refl

-- the first name that has a fault
row_first_fault : written (codes "ca::cells ca::nobody") (0 ∷ 1 ∷ [])
    ≡ Err (NoStorage (codes "ca::cells"))
row_first_fault = refl

-- ---- copies

abbrev pair_ : List Thorn
pair_ = thorn (codes "Pair") (codes "pair") []
    (record (grid_group Public (codes "g") 1 (codes "v" ∷ [])) { copies = Some 2 } ∷ []) [] ∷ []

abbrev of_pair : List ℕ → Result (List VarId) ScopeFault
of_pair text = output_variables pair_ (out_vars text) both_stored

row_copies : of_pair (codes "pair::g") ≡ Ok (record { 0 = 0 } ∷ record { 0 = 1 } ∷ [])
row_copies = refl

row_no_copy : of_pair (codes "pair::v") ≡ Err (NotFound (codes "pair::v"))
row_no_copy = refl

-- ---- cells

-- a ring of 8 points
abbrev ring : Shape
ring =
    record {
      dims = 1;
      n = record { x = pos 8; y = pos 1; z = pos 1 };
      ghost_ = record { x = pos 1; y = pos 0; z = pos 0 };
      periodic = true ∷ false ∷ false ∷ [];
    }

row_stored : map (λ info. info.levels) (stored_infos (elem_ca ∷ []) (2 ∷ [])) ≡ 2 ∷ 0 ∷ []
row_stored = refl

row_points : point_count ring ≡ 8
row_points = refl

-- scalars don't count
row_cells : owned_cells ring (stored_infos (elem_ca ∷ []) (2 ∷ 1 ∷ [])) ≡ 16
row_cells = refl

abbrev huge : Shape
huge = record ring { n = record { x = pos 16777216; y = pos 16777216; z = pos 16777216 } }

row_too_many : point_count huge ≡ 18446744073709551615
row_too_many = refl
