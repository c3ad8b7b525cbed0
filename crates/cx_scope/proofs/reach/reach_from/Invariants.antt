-- what is marked is reached
use Rattle.std.proofs.Common.{◌≡◌, ℕ, true, length}
use Rattle.cx_scope.specs.Reach.{Reach}
use Rattle.cx_scope.proofs.ReachLaws.{unmarked}
use Rattle.cx_scope.proofs.reach.reach_from.Given as goal
use Rattle.cx_plan.specs.Lists.{is_marked}

abbrev pub invariant-rounds : goal.invariant-rounds
invariant-rounds l =
    record {
      long : length l.marks.items ≡ l.count;
      sound : (b : ℕ) → is_marked l.marks.items b ≡ true → Reach l.edges l.from b;
    }

abbrev pub decreases-rounds : goal.decreases-rounds
decreases-rounds l = unmarked l.marks.items
