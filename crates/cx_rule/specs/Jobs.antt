-- Routines that fit a job.
use Rattle.std.specs.Prelude.{◌≡◌, ◌<◌, ◌≤◌, ℕ, List, map, length, slice_get, Some, IsTrue, All}
use Rattle.cx_text.specs.Lexemes.{same_name}
use Rattle.cx_grid.specs.Boxes.{point_count}
use Rattle.cx_plan.specs.Setups.{setup_of}
use Rattle.cx_plan.specs.Lookups.{item}
use Rattle.cx_plan.specs.Regions.{run_items}
use Rattle.cx_plan.specs.declared.item.Item.{Item}
use Rattle.cx_plan.specs.declared.item.Region.{Region}
use Rattle.cx_plan.specs.declared.item.Touch.{Touch}
use Rattle.cx_plan.specs.declared.job.Job.{Job}
use Rattle.cx_cut.specs.Cuts.{Parts, part_count, local}
use Rattle.cx_cut.specs.Faults.{parts_of}
use Rattle.cx_rule.specs.declared.spec.Spec.{Spec}
use Rattle.cx_rule.specs.declared.spec.Want.{Want}

abbrev pub of_touch : Touch → Region × ℕ
of_touch t = (t.region, t.reach)

abbrev pub of_want : Want → Region × ℕ
of_want w = (w.region, w.reach)

-- an object is that of an item: its thorn and its name in any case, its kind, the regions and
-- reaches of its reads and writes in the item's order, and as many parameters
pub record IsRoutineOf (s : Spec) (x : Item) : Type 0 where
  pub thorn : IsTrue (same_name s.thorn x.thorn)
  pub name : IsTrue (same_name s.name x.name)
  pub kind : x.kind ≡ s.kind
  pub reads : map of_touch x.reads ≡ map of_want s.reads
  pub writes : map of_touch x.writes ≡ map of_want s.writes
  pub params : length x.params ≡ length s.params

-- the object of an item's number is that item's
pub record HasRoutine (specs : List Spec) (x : Item) : Type 0 where
  pub spec : Spec
  pub object : slice_get specs x.routine ≡ Some spec
  pub its : IsRoutineOf spec x

-- an item has its object, and no part of a cut has more points than that object's cap
pub record FitItem (specs : List Spec) (c : Parts) (x : Item) : Type 0 where
  pub routine : HasRoutine specs x
  pub parts : (k : ℕ) → k < part_count c → point_count (local c k) ≤ routine.spec.cap

-- each item that is run has its object, for the parts of the job's cut
abbrev pub FitJob : List Spec → Job → Type 0
FitJob specs job = All (λ i. FitItem specs (parts_of job.shape job.cut) (item (setup_of job) i))
    (run_items (setup_of job))
