-- at each level that was passed the flag is set on the way, or cleared on one of the others
use Rattle.std.proofs.Common.{◌≡◌, ℕ, ◌<◌, ◌||◌, true}
use Rattle.cx_region_flags.specs.Cells.{flags_in}
use Rattle.cx_region.specs.Witnesses.{is_cleared_on}
use Rattle.cx_region.proofs.witnesses.covers_one.Given as goal

abbrev pub invariant-loop-level : goal.invariant-loop-level
invariant-loop-level l =
    (k : ℕ) → k < l.level → (flags_in l.way.flags l.followed.variable k l.followed.flag
    || is_cleared_on l.followed l.ways k) ≡ true
