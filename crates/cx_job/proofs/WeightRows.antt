-- Worked rows: the variable that weighs, and the faults of its name.
use Rattle.std.specs.Prelude.{◌≡◌, refl, ℕ, List, [], ◌∷◌, ◌++◌, codes, Option, Some, None}
use Rattle.cx_plan.specs.declared.variable.VarId.{VarId}
use Rattle.cx_bind.specs.BuiltIn.{text_parameter}
use Rattle.cx_bind.proofs.Samples.{elem_ca}
use Rattle.cx_scope.specs.declared.fault.ScopeFault.{ScopeFault}
use Rattle.cx_scope.specs.declared.fault.ScopeFault.TheVariants.{NotFound, NotGrid, NoStorage}
use Rattle.cx_values.specs.declared.values.Values.{Values}
use Rattle.cx_values.specs.Assigned.{slot}
use Rattle.cx_job.specs.Weights.{weight_fault, weight_of}

abbrev weight : List ℕ → Values
weight text = record {
  slots = slot [] (text_parameter 1 (codes "driver") (codes "weight") text) ∷ [];
  given = [];
  uses = [];
  globals = [];
}

-- the automaton has the cell, of the group cells, and the scalar live
abbrev fault : List ℕ → List ℕ → Option ScopeFault
fault text storage = weight_fault (elem_ca ∷ []) (weight text) storage

abbrev weighing : List ℕ → Option VarId
weighing text = weight_of (elem_ca ∷ []) (weight text)

row_none : fault [] (0 ∷ 0 ∷ []) ≡ None
row_none = refl

row_nothing_weighs : weighing [] ≡ None
row_nothing_weighs = refl

row_cell : fault (codes "CA::Cell") (1 ∷ 0 ∷ []) ≡ None
row_cell = refl

row_cell_weighs : weighing (codes "CA::Cell") ≡ Some (record { 0 = 0 })
row_cell_weighs = refl

-- a name alone, one of a group, one of a past level, and blanks
row_short : fault (codes "cell") (1 ∷ 1 ∷ []) ≡ Some (NotFound (codes "cell"))
row_short = refl

row_group : fault (codes "ca::cells") (1 ∷ 1 ∷ []) ≡ Some (NotFound (codes "ca::cells"))
row_group = refl

row_past : fault (codes "ca::cell_p") (1 ∷ 1 ∷ []) ≡ Some (NotFound (codes "ca::cell_p"))
row_past = refl

row_blank : fault (codes " ca::cell") (1 ∷ 1 ∷ []) ≡ Some (NotFound (codes " ca::cell"))
row_blank = refl

-- a scalar, with or without storage
row_scalar : fault (codes "ca::live") (1 ∷ 1 ∷ []) ≡ Some (NotGrid (codes "ca::live"))
row_scalar = refl

row_bare_scalar : fault (codes "ca::live") (1 ∷ 0 ∷ []) ≡ Some (NotGrid (codes "ca::live"))
row_bare_scalar = refl

row_not_stored : fault (codes "ca::cell") (0 ∷ 1 ∷ []) ≡ Some (NoStorage (codes "ca::cell"))
row_not_stored = refl
