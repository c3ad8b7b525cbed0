use Rattle.std.proofs.Common.{◌<◌, length, rules}
use Rattle.cx_region_flags.proofs.MeetLaws.{meeting-next}
use Rattle.cx_region_flags.proofs.flag_table.FlagTable.meet.Goals as goal

pub loop-place-preserved : goal.loop-place-preserved
loop-place-preserved c =
    let below : c.loop-place.place < length c.args.self.now = search rules in
    meeting-next c.args.self.now c.args.other.now c.loop-place.self c.put.new.self
    c.loop-place.place c.both-flags.result below c.loop-place.invariant (search rules)
    c.put.ensures
