use Rattle.std.proofs.Common.{◌∙◌, ℕ, List, ap, subst, length, arith}
use Rattle.std.specs.Prelude.{slice_index}
use Rattle.std.proofs.lemmas.Result.{on_ok_weaker}
use Rattle.cx_keep.specs.Resuming.{LeavesCut}
use Rattle.cx_keep.specs.Trails.{with_key}
use Rattle.cx_keep.proofs.Begins.{quiet_moments, cut_moments, cut_stands, trails_quiet, resumed_quiet}
use Rattle.cx_keep.proofs.resume.resume.Goals as goal

pub returns-in_err-settle_slots-clause-moments : goal.returns-in_err-settle_slots-clause-moments
returns-in_err-settle_slots-clause-moments g c =
    λ tells course can. quiet_moments course (g.D.Disk.view c.args.disk.now)
    (g.D.Disk.view c.settle_slots.new.disk) can.trails (c.settle_slots.ensures.quiet tells)

pub returns-clause-moments : goal.returns-clause-moments
returns-clause-moments g c = λ tells course can.
    cut_moments course can.monotone c.args.c.now (g.D.Disk.view c.args.disk.now)
    (g.D.Disk.view c.settle_slots.new.disk) (g.D.Disk.view c.cut_outputs.new.disk)
    can.counts can.trails (c.settle_slots.ensures.quiet tells)
    (c.in_ok-settle_slots.ensures.settled tells)
    (g.met.D.Disk.sound c.settle_slots.new.disk tells) can.resumed
    (subst (λ (l : List ℕ).
    LeavesCut l (g.D.Disk.view c.settle_slots.new.disk) (g.D.Disk.view c.cut_outputs.new.disk))
    c.as_slice.ensures (c.cut_outputs.ensures.moments tells))

pub returns-clause-stands : goal.returns-clause-stands
returns-clause-stands g c = λ tells.
    let quiet = c.settle_slots.ensures.quiet tells in
    on_ok_weaker c.cut_outputs.result (λ own course can next later.
    let r = resumed_quiet course c.args.c.now (g.D.Disk.view c.args.disk.now)
    (g.D.Disk.view c.settle_slots.new.disk) can.resumed quiet in
    cut_stands course can.monotone (with_key r.key c.args.c.now) r.of_run c.as_slice.result.now
    (length c.as_slice.result.now) (ap length c.as_slice.ensures ∙ can.counts)
    (λ j out. ap (λ (l : List ℕ). slice_index l j) c.as_slice.ensures)
    (g.D.Disk.view c.settle_slots.new.disk) (g.met.D.Disk.sound c.settle_slots.new.disk tells)
    (trails_quiet course (g.D.Disk.view c.args.disk.now) (g.D.Disk.view c.settle_slots.new.disk)
    can.trails quiet) (c.in_ok-settle_slots.ensures.settled tells) r.newest
    (g.D.Disk.view c.cut_outputs.new.disk) next r.reach later (c.cut_outputs.ensures.crash tells)
    (λ s lt. c.cut_outputs.ensures.earlier tells s (omega arith)) own)
    (c.cut_outputs.ensures.cut tells)
