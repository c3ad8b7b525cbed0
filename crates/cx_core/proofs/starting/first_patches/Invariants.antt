use Rattle.std.proofs.Common.{◌≡◌, length}
use Rattle.std.specs.Option.{option_copied}
use Rattle.cx_core.specs.Starts.{ArePatches}
use Rattle.cx_core.proofs.starting.first_patches.Given as goal

abbrev pub invariant-parts : goal.invariant-parts
invariant-parts l =
    record {
      count : length l.patches.items ≡ l.k;
      patches : ArePatches l.job l.cut (option_copied l.state) l.patches.items;
    }
