-- What the checker answers.
use Rattle.std.specs.Prelude.{◌≡◌, ◌⊎◌, ℕ, List, [], Some, Result, Ok, Err}
use Rattle.cx_plan.specs.Setups.{Setup}
use Rattle.cx_plan.specs.Lookups.{variable}
use Rattle.cx_plan.specs.Regions.{Need, HasShapes}
use Rattle.cx_plan.specs.Paths.{Sound, IsUnset}
use Rattle.cx_region.specs.declared.fault.RegionFault.{RegionFault}
use Rattle.cx_region.specs.declared.fault.RegionFault.TheVariants.{Shape, Unset, Memory}
use Rattle.cx_plan.specs.declared.flag.Flag.TheVariants.{I}
use Rattle.cx_region.specs.Shapes.{shape_fault}

-- a need that isn't met on a path of these letters, in words
abbrev pub unset : Setup → List ℕ → Need → RegionFault
unset setup letters n = Unset letters n.place (variable setup n.var).full n.level n.flag

-- on some path of these letters this need is the first that isn't met
pub record IsUnsetFault (setup : Setup) (fault : RegionFault) : Type 0 where
  pub letters : List ℕ
  pub need : Need
  pub first : IsUnset setup letters need
  pub told : fault ≡ unset setup letters need

-- The first item without a shape; where all have one, a need that isn't met.
abbrev pub IsRegionFault : Setup → RegionFault → Type 0
IsRegionFault setup fault =
    (shape_fault setup ≡ Some fault) ⊎ (HasShapes setup × IsUnsetFault setup fault)

-- What a fault tells beside the path that it shows and the need on it: of several paths any may be
-- shown.
abbrev pub without_path : RegionFault → RegionFault
without_path (Shape path variable) = Shape path variable
without_path (Unset path place variable level flag) = Unset [] [] [] 0 I
without_path Memory = Memory

abbrev pub Checks : {X : Type 0} → Setup → Result X RegionFault → Type 0
Checks setup (Ok x) = HasShapes setup × Sound setup
Checks setup (Err fault) = (fault ≡ Memory) ⊎ IsRegionFault setup fault

-- Where no need that isn't met is found, this holds.
abbrev pub Finds : {X : Type 0} → Setup → Type 0 → Result X RegionFault → Type 0
Finds setup Holds (Ok x) = Holds
Finds setup Holds (Err fault) = (fault ≡ Memory) ⊎ IsUnsetFault setup fault
