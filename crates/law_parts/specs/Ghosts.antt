-- Ghost points along a run: each level that is read beyond the owned points has them, beyond ends
-- too.
use Rattle.std.specs.Prelude.{ℕ, ◌≡◌, Bool, true, All}
use Rattle.std.specs.List.{list_any}
use Rattle.cx_plan.specs.declared.flag.Flag.TheVariants.{G}
use Rattle.cx_plan.specs.declared.item.Touch.{Touch}
use Rattle.cx_plan.specs.declared.item.Item.{Item}
use Rattle.cx_plan.specs.Setups.{Setup}
use Rattle.cx_plan.specs.Lookups.{item}
use Rattle.cx_plan.specs.Regions.{Flags, is_G, read_needs, flags_or_none}
use Rattle.cx_flat.specs.declared.op.Op.TheVariants.{Sweep}
use Rattle.law_parts.specs.Runs.{Run, op_of, flags_at}

-- whether a read of an item needs ghost points
abbrev pub reads_ghosts : Setup → Item → Touch → Bool
reads_ghosts setup x r = list_any is_G (flags_or_none (read_needs setup x r))

abbrev pub GhostsAt : Setup → Item → Flags → Type 0
GhostsAt setup x flags =
    All (λ (r : Touch). reads_ghosts setup x r ≡ true → flags r.var r.level G ≡ true) x.reads

abbrev pub HasGhosts : Run → Type 0
HasGhosts r = (n k : ℕ) → op_of r n ≡ Sweep k → GhostsAt r.setup (item r.setup k) (flags_at r n)
