-- the lists have lost marked numbers alone
use Rattle.std.proofs.Common.{◌≡◌, ℕ, true, length}
use Rattle.cx_order_least.specs.Links.{links, row, is_left}
use Rattle.cx_order_least.proofs.candidates.blocker.Given as goal

abbrev pub invariant-taken : goal.invariant-taken
invariant-taken l =
    record {
      same : length l.before ≡ length l.fn.before;
      kept : (a b : ℕ) → is_left l.marks a ≡ true → links l.before b a ≡ links l.fn.before b a;
      fewer : (a b : ℕ) → links l.before b a ≡ true → links l.fn.before b a ≡ true;
    }

abbrev pub decreases-taken : goal.decreases-taken
decreases-taken l = length (row l.before l.number)
