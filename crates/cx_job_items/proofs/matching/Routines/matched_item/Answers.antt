use Rattle.std.proofs.Common.{refl}
use Rattle.cx_job_items.specs.Lookups.{world_of, world_in}
use Rattle.cx_job_items.proofs.MatchLaws.{as_matched}
use Rattle.cx_job_items.proofs.matching.Routines.matched_item.Goals as goal

pub returns-in-Some : goal.returns-in-Some
returns-in-Some c =
    let self = c.args.self.now in
    as_matched (λ s. s.now) self.specs.now (world_in self) (world_of c.lookup-lookup.result)
    self.values.now c.args.item c.in-Some.place c.in-Some.place c.index-self-place.result
    c.lookup-lookup.result.thorn c.matched_with.result c.routine_number.ensures.number c.in-Some.is
    c.in-Some.ensures.within refl c.lookup-lookup.ensures.world c.lookup-lookup.ensures.number
    c.matched_with.ensures
