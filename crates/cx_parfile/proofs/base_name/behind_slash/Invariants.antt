use Rattle.std.proofs.Common.{◌≡◌, ◌≤◌, ◌<◌, ℕ, length, get_or, true, not}
use Rattle.cx_parfile.proofs.base_name.behind_slash.Given as goal
use Rattle.cx_text.specs.Bytes.{is_slash}

abbrev pub invariant-bytes : goal.invariant-bytes
invariant-bytes l = (l.start ≤ length l.file)
    × ((k : ℕ) → l.start ≤ k → k < length l.file → not (is_slash (get_or l.file k 0)) ≡ true)

abbrev pub decreases-bytes : goal.decreases-bytes
decreases-bytes l = l.start
