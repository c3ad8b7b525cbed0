use Rattle.std.proofs.Common.{◌<◌, ◌≤◌, ap, length, map, take}
use Rattle.cx_rule.specs.Seen.{Seen, volumes}
use Rattle.cx_rule.specs.Sweeps.{reach_of}
use Rattle.cx_rule.specs.Patches.{setup_in, values_in}
use Rattle.cx_rule.proofs.WindowLaws.{seen_count, room_left}
use Rattle.cx_rule.proofs.part.Part.show.Goals as goal

pub add_window-requires-clause-values : goal.add_window-requires-clause-values
add_window-requires-clause-values c =
    rw c.reads.invariant.seen
    (seen_count (setup_in c.args.self.now) (values_in c.args.self.now) c.args.p
    (take c.reads.k c.args.item.now.reads))

pub add_window-requires-clause-room : goal.add_window-requires-clause-room
add_window-requires-clause-room c =
    let s = c.reads.invariant.seen in
    let below : c.reads.k < length c.args.item.now.reads =
    rw c.as_slice-read-items.ensures at c.reads-test.true in
    let room : volumes c.args.self.now.shape.dims (map reach_of c.args.item.now.reads)
    ≤ c.reads.w.room = rw c.reads.invariant.room_is c.requires.room in
    rw c.as_slice-read-items.ensures
    (room_left c.args.self.now.shape.dims c.args.item.now.reads c.reads.k _ c.reads.w below room
    (ap (λ (u : Seen). u.dims) s) (ap (λ (u : Seen). u.reaches) s))
