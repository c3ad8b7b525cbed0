use Rattle.std.proofs.Common.{ℕ, List, map, subst}
use Rattle.law_restarts.specs.Stops.{IsStarted, fuse_disk, routines_of, stage}
use Rattle.law_restarts.proofs.stops.stopped.Goals as goal

pub returns : goal.returns
returns g c = record {
  fuse = c.new-fuse.result;
  fuse_is = c.new-fuse.ensures;
  left = c.start.new.disk;
  status = c.in_ok-start.field-0;
  started =
      subst (λ (words : List (List ℕ)). IsStarted
      (routines_of
      (map (λ r. (goal.Routine-dyn g (r.vtable, r.value)).rule r.value) c.args.routines.now)
      (map (λ r. (goal.Routine-dyn g (r.vtable, r.value)).spec_of r.value) c.args.routines.now))
      words
      (stage c.args.shelf.now c.args.disk (g.T.Turns.begun c.args.turns.now) c.args.out.now
      c.args.meter.now)
      (stage c.start.new.shelf c.in_ok-image.image (g.T.Turns.begun c.start.new.turns)
      c.start.new.out c.start.new.meter)
      (fuse_disk c.new-fuse.result c.start.new.disk) c.start.new.disk.disk.folders
      c.in_ok-start.field-0) c.as_slice.ensures
      (c.in_ok-start.ensures c.args.disk c.in_ok-image.image);
  image = c.in_ok-image.ensures.image;
  chosen = c.in_ok-image.ensures.chosen;
}
