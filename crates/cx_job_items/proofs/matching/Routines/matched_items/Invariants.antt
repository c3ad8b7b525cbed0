use Rattle.std.proofs.Common.{map, length}
use Rattle.cx_job_items.specs.Lookups.{world_in}
use Rattle.cx_job_items.proofs.MatchLaws.{Sofar}
use Rattle.cx_job_items.proofs.matching.Routines.matched_items.Given as goal

abbrev pub invariant-items : goal.invariant-items
invariant-items l = Sofar (world_in l.self) l.self.values.now (map (λ s. s.now) l.self.specs.now)
    l.run l.fn.items (length l.yielded) l.matched
