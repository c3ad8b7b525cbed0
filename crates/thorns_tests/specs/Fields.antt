-- One field of three levels on a grid, and the items of routines that read and write it.
use Rattle.std.specs.Prelude.{ℕ, ◌≤◌, ◌≡◌, true, false, min, count_by, nat_eq, IsTrue, Bool, ℤ, List, [], ◌∷◌, map, length, slice_index_or, codes}
use Rattle.cx_text.specs.declared.ctype.CType.TheVariants.{Int}
use Rattle.cx_text.specs.Lexemes.{same_name}
use Rattle.cx_grid.specs.declared.shapes.Shape.{Shape}
use Rattle.cx_grid.specs.Grid.{whole}
use Rattle.cx_plan.specs.declared.variable.VarInfo.{VarInfo}
use Rattle.cx_plan.specs.declared.item.Item.{Item}
use Rattle.cx_plan.specs.declared.item.Touch.{Touch}
use Rattle.cx_plan.specs.declared.item.ItemKind.TheVariants.{Cell}
use Rattle.cx_plan.specs.Setups.{Setup}
use Rattle.cx_plan.specs.Regions.{has_shape, within_ghosts}
use Rattle.cx_cut.specs.Cuts.{Parts, IsWhole}
use Rattle.cx_plan.specs.Lookups.{no_item}
use Rattle.cx_rule.specs.Patches.{PatchValue, bare, setup_in, value_count, with_numbers}
use Rattle.cx_rule.specs.Swept.{CanSweep}
use Rattle.cx_rule.specs.declared.spec.Spec.{Spec}
use Rattle.cx_rule.specs.declared.spec.Want.{Want}

-- one variable of 64 bits
abbrev pub field_vars : List VarInfo
field_vars = record { full = codes "field"; ctype = Int; scalar = false; levels = 3 } ∷ []

-- the level that a name says, as 2 for `wave::phi_p_p`
abbrev pub is_mark : ℕ → Bool
is_mark byte = nat_eq byte 95

abbrev pub level_named : List ℕ → ℕ
level_named name = min (count_by is_mark name) 2

-- what is read or written of the field by a name
abbrev pub touch_of : Want → Touch
touch_of want =
    record {
      var = record { 0 = 0 };
      level = level_named want.name;
      region = want.region;
      reach = want.reach;
    }

-- a routine's item on the field
abbrev pub item_for : Spec → List ℤ → Item
item_for s params =
    record {
      thorn = s.thorn;
      name = s.name;
      path = [];
      kind = s.kind;
      routine = 0;
      reads = map touch_of s.reads;
      writes = map touch_of s.writes;
      params = params;
    }

-- a job of the field on a grid
abbrev pub field_on : Shape → List VarInfo → Setup
field_on g vars = setup_in (bare g (whole g) (whole g) vars [])

-- a Cell routine whose item stands in the table on each grid with a ghost zone
pub record IsTested (s : Spec) : Type 0 where
  pub thorn : IsTrue (same_name s.thorn s.thorn)
  pub name : IsTrue (same_name s.name s.name)
  pub kind : s.kind ≡ Cell
  pub params : length s.params ≤ 4
  pub writes : length s.writes ≤ 2
  pub declared : (g : Shape) (params : List ℤ) → within_ghosts g 1 ≡ true
      → has_shape (field_on g field_vars) (item_for s params) ≡ true
  pub cap : 1000000 ≤ s.cap
  pub values : (dims : ℕ) → dims ≤ 3 → value_count dims (item_for s []) ≤ 99

-- the same part but for its numbers
abbrev pub IsSamePart : PatchValue → PatchValue → Type 0
IsSamePart new old = with_numbers new [] ≡ with_numbers old []

-- a grid with its cut, and a tested routine's one item there
abbrev pub first_item : List Item → Item
first_item items = slice_index_or items 0 no_item

pub record IsFieldFor (s : Spec) (g : Shape) (cut : Parts) (items : List Item) : Type 0 where
  pub cut_is : cut.shape ≡ g
  pub whole : IsWhole cut
  pub wide : within_ghosts g 1 ≡ true
  pub params : List ℤ
  pub count : length params ≡ length s.params
  pub items_are : items ≡ item_for s params ∷ []

-- a part of the field, in which the routine's item can be swept
pub record IsTrial (s : Spec) (x : Item) (p : PatchValue) : Type 0 where
  pub can : CanSweep s x p
  pub cell : x.kind ≡ Cell
  pub vars : p.vars ≡ field_vars
  pub writes : length x.writes ≤ 2
  pub values : value_count p.shape.dims x ≤ 99
