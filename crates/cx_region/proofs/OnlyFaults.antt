-- Where the checker has a fault, it is one, but for the path that is shown.
use Rattle.std.proofs.Common.{◌≡◌, sym, ◌∙◌, ap, inl, inr, Option, None, Some}
use Rattle.std.specs.Prelude.{option_map}
use Rattle.cx_plan.specs.Setups.{Setup}
use Rattle.cx_plan.specs.Lookups.{item}
use Rattle.cx_plan.specs.Regions.{HasShapes}
use Rattle.cx_region.specs.Shapes.{no_shape, shape_fault}
use Rattle.cx_region.specs.Checks.{IsRegionFault, without_path}
use Rattle.cx_region.specs.declared.fault.RegionFault.{RegionFault}
use Rattle.cx_region.proofs.WholeLaws.{none_from_shapes}

some-is : (o : Option RegionFault) (a b : RegionFault) → o ≡ Some a → o ≡ Some b → a ≡ b
some-is o a b h k = cc (h, k)

none-and-some : (o : Option RegionFault) (a : RegionFault) → o ≡ None → o ≡ Some a → ⊥
none-and-some o a h k = cc (h, k)

-- a job whose items have shapes has no fault of shapes
pub no-shape-fault : (setup : Setup) (a : RegionFault) → HasShapes setup
    → shape_fault setup ≡ Some a → ⊥
no-shape-fault setup a shapes told =
    none-and-some (shape_fault setup) a
    (ap (option_map (λ k. no_shape setup (item setup k))) (none_from_shapes setup shapes)) told

pub one-fault : (setup : Setup) (a b : RegionFault) → IsRegionFault setup a → IsRegionFault setup b
    → without_path a ≡ without_path b
one-fault setup a b (inl f) (inl g) = ap without_path (some-is (shape_fault setup) a b f g)
one-fault setup a b (inl f) (inr g) = absurd (no-shape-fault setup a g.0 f)
one-fault setup a b (inr f) (inl g) = absurd (no-shape-fault setup b f.0 g)
one-fault setup a b (inr f) (inr g) = ap without_path f.1.told ∙ sym (ap without_path g.1.told)
