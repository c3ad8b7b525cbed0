use Rattle.cx_job_items.specs.Matching.{touch_of}
use Rattle.cx_job_items.specs.Lookups.{world_of}
use Rattle.cx_job_items.proofs.MatchLaws.{Had}
use Rattle.cx_job_items.proofs.lookup.Lookup.touches_of.Given as goal

abbrev pub invariant-wants : goal.invariant-wants
invariant-wants l = Had (touch_of (world_of l.self) l.self.thorn) l.wants l.want-index l.touches
