-- The first item without a shape.
use Rattle.std.proofs.Common.{◌≡◌, ℕ, ◌<◌, ◌≤◌, Bool, true, false, not, ◌&&◌, sym, subst, ap, ◌∙◌, List, length, get_or, arith, Some, None}
use Rattle.std.specs.Prelude.{option_map}
use Rattle.std.proofs.lemmas.List.{get_or_read}
use Rattle.cx_plan.specs.declared.item.Item.{Item}
use Rattle.cx_plan.specs.Setups.{Setup}
use Rattle.cx_plan.specs.Lookups.{item, no_item}
use Rattle.cx_plan.specs.Regions.{has_shape, run_items}
use Rattle.cx_region.specs.Marks.{is_among_items}
use Rattle.cx_region.specs.Shapes.{lacks_shape, first_shapeless}
use Rattle.cx_region_flags.proofs.RangeLaws.{none_of_range, first_of_range}

pub lacking : (setup : Setup) (k : ℕ) (x : Item) (called : Bool) → k < length setup.items
    → x ≡ get_or setup.items k x → called ≡ is_among_items (run_items setup) k
    → (called && not (has_shape setup x)) ≡ lacks_shape setup k
lacking setup k x called below is among =
    ap (λ (t : Bool). t && not (has_shape setup x)) among
    ∙ ap (λ (y : Item). is_among_items (run_items setup) k && not (has_shape setup y))
    (get_or_read setup.items k x below is no_item)

pub first_found : (setup : Setup) (k : ℕ) (x : Item) → k < length setup.items
    → x ≡ get_or setup.items k x → lacks_shape setup k ≡ true
    → ((j : ℕ) → j < k → lacks_shape setup j ≡ false)
    → Some x ≡ option_map (item setup) (first_shapeless setup)
first_found setup k x below is lacks before =
    ap (λ (y : Item). Some y) (get_or_read setup.items k x below is no_item)
    ∙ sym (ap (option_map (item setup))
    (first_of_range (lacks_shape setup) (length setup.items) 0 k (omega arith) (omega arith)
    lacks (λ j low high. before j high)))

pub none_found : (setup : Setup) (n : ℕ) → length setup.items ≤ n
    → ((j : ℕ) → j < n → lacks_shape setup j ≡ false)
    → None ≡ option_map (item setup) (first_shapeless setup)
none_found setup n all before =
    sym (ap (option_map (item setup))
    (none_of_range (lacks_shape setup) (length setup.items) 0
    (λ k low high. before k (omega arith))))

-- an element of the lent list of items
pub record Stands (setup : Setup) (k : ℕ) (x : Item) : Type 0 where
  pub below : k < length setup.items
  pub is : x ≡ get_or setup.items k x

pub stands : (setup : Setup) (items : List Item) (k : ℕ) (x : Item) → items ≡ setup.items
    → k < length items → x ≡ get_or items k x → Stands setup k x
stands setup items k x same below is =
    record {
      below = subst (λ (l : List Item). k < length l) same below;
      is = is ∙ ap (λ (l : List Item). get_or l k x) same;
    }
