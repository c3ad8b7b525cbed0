-- those that were taken out are blocked
use Rattle.std.proofs.Common.{◌≡◌, ◌⊎◌, ℕ, true, length}
use Rattle.cx_order_least.specs.Links.{has, links, is_left, IsBlocked}
use Rattle.cx_order_least.proofs.candidates.next_free.Given as goal

abbrev pub invariant-taken : goal.invariant-taken
invariant-taken l =
    record {
      same : length l.before ≡ length l.fn.before;
      kept : (a b : ℕ) → is_left l.marks a ≡ true → links l.before b a ≡ links l.fn.before b a;
      fewer : (a b : ℕ) → links l.before b a ≡ true → links l.fn.before b a ≡ true;
      less : (k : ℕ) → has l.candidates k ≡ true → has l.fn.candidates k ≡ true;
      blocked : (k : ℕ) → has l.fn.candidates k ≡ true
          → (has l.candidates k ≡ true) ⊎ IsBlocked l.marks l.fn.before k;
    }

abbrev pub decreases-taken : goal.decreases-taken
decreases-taken l = length l.candidates
