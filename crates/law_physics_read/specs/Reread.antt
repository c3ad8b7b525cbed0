-- Records of an output that never changes.
use Rattle.std.specs.Prelude.{◌≡◌, ℤ, List, [], ◌∷◌, Option, Some, All}
use Rattle.cx_ascii_read.specs.declared.record.Record.{Record}

-- what was read is records of scalars that all have one value
pub record AreOfOneValue (found : Option (List Record)) : Type 0 where
  pub value : ℤ
  pub records : List Record
  pub found_are : found ≡ Some records
  pub each : All (λ (r : Record). r.values ≡ value ∷ []) records
