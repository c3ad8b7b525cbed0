-- The patch of a part: all of it but its numbers.
use Rattle.std.specs.Prelude.{ℕ, ◌≡◌, ◌<◌, ◌≤◌, length, All}
use Rattle.cx_plan.specs.declared.item.Item.{Item}
use Rattle.cx_plan.specs.Setups.{Setup}
use Rattle.cx_plan.specs.Lookups.{item}
use Rattle.cx_plan.specs.Regions.{run_items}
use Rattle.cx_cut.specs.Cuts.{Parts, part_count, owned, local}
use Rattle.cx_field.specs.Patches.{PatchValue, value_count, with_numbers}
use Rattle.cx_field.specs.Sweeps.{IsSamePatch}

-- room for what an item reads and writes at one point
pub record HasRoomFor (setup : Setup) (p : PatchValue) (x : Item) : Type 0 where
  pub writes : length x.writes ≤ length p.staged
  pub values : value_count setup.shape.dims x ≤ p.room

-- a patch over the grid and the variables of a job, with room for each item that is run
pub record IsPatchFor (setup : Setup) (p : PatchValue) : Type 0 where
  pub shape : p.shape ≡ setup.shape
  pub vars : p.vars ≡ setup.vars
  pub rooms : All (λ i. HasRoomFor setup p (item setup i)) (run_items setup)

-- the patch of part k of a cut
pub record IsPatchOf (setup : Setup) (cut : Parts) (k : ℕ) (p : PatchValue) : Type 0 where
  pub patch : IsPatchFor setup p
  pub owned_is : p.owned ≡ owned cut k
  pub local_is : p.local ≡ local cut k

-- a patch over the local box of a part of a cut
pub record IsInCut (cut : Parts) (p : PatchValue) : Type 0 where
  pub part : ℕ
  pub below : part < part_count cut
  pub local_is : p.local ≡ local cut part

-- all is as before but the numbers and what is staged
abbrev pub KeepsFrame : (old new : PatchValue) → Type 0
KeepsFrame old new = IsSamePatch (with_numbers new old.numbers) old
