use Rattle.std.proofs.Common.{◌≡◌, ◌∙◌, arith}
use Rattle.cx_chk.proofs.Saving.{all_settled}
use Rattle.cx_chk.proofs.Seconds.{shutting, shutting_all, keeps_more, none_more}
use Rattle.cx_chk.proofs.slots.Slots.close_second.Goals as goal

pub returns-in_err-shut_second-clause-crash : goal.returns-in_err-shut_second-clause-crash
returns-in_err-shut_second-clause-crash g c = λ tells d now.
    let step = c.shut_second.ensures.after tells in
    shutting c.each.slot (g.D.Disk.view c.args.disk.now) (g.D.Disk.view c.each.disk)
    (g.D.Disk.view c.shut_second.new.disk) (let t = c.each-test.true in omega arith)
    (c.each.invariant.crash tells) (g.met.D.Disk.sound c.each.disk tells).reads step d
    (step.crash d now)

pub returns-in_err-shut_second-clause-moments : goal.returns-in_err-shut_second-clause-moments
returns-in_err-shut_second-clause-moments g c = λ tells.
    shutting_all c.each.slot (g.D.Disk.view c.args.disk.now) (g.D.Disk.view c.each.disk)
    (g.D.Disk.view c.shut_second.new.disk) (let t = c.each-test.true in omega arith)
    (c.each.invariant.crash tells) (g.met.D.Disk.sound c.each.disk tells).reads
    (c.each.invariant.moments tells) (c.shut_second.ensures.after tells)

pub returns-in_err-shut_second-clause-seen : goal.returns-in_err-shut_second-clause-seen
returns-in_err-shut_second-clause-seen g c = λ tells f le.
    (c.shut_second.ensures.after tells).others f
    (λ same. absurd (let t = c.each-test.true in let x : f ≡ c.each.slot = same in omega arith))
    ∙ c.each.invariant.seen tells f le

pub returns-in_err-shut_second-clause-first_same : goal.returns-in_err-shut_second-clause-first_same
returns-in_err-shut_second-clause-first_same g c = λ tells.
    keeps_more c.each.slot (g.D.Disk.view c.args.disk.now) (g.D.Disk.view c.each.disk)
    (g.D.Disk.view c.shut_second.new.disk) (c.each.invariant.kept tells)
    (c.shut_second.ensures.after tells) (g.met.D.Disk.sound c.shut_second.new.disk tells).reads

pub each-preserved : goal.each-preserved
each-preserved g c =
    let inv = c.each.invariant in
    let h = c.shut_second.ensures in
    record {
      mounted = h.kept.mounted;
      folders = h.kept.folders ∙ inv.folders;
      count = h.kept.count ∙ inv.count;
      faults = let a = inv.faults in let b = h.kept.cause.later in omega arith;
      crash = λ tells d now. shutting c.each.slot (g.D.Disk.view c.args.disk.now)
          (g.D.Disk.view c.each.disk) (g.D.Disk.view c.shut_second.new.disk)
          (let t = c.each-test.true in omega arith) (inv.crash tells)
          (g.met.D.Disk.sound c.each.disk tells).reads (h.after tells) d
          ((h.after tells).crash d now);
      moments = λ tells. shutting_all c.each.slot (g.D.Disk.view c.args.disk.now)
          (g.D.Disk.view c.each.disk) (g.D.Disk.view c.shut_second.new.disk)
          (let t = c.each-test.true in omega arith) (inv.crash tells)
          (g.met.D.Disk.sound c.each.disk tells).reads (inv.moments tells) (h.after tells);
      seen = λ tells f le. (h.after tells).others f
          (λ same. absurd (let t = c.each-test.true in let x : f ≡ c.each.slot = same in
          omega arith)) ∙ inv.seen tells f le;
      settled = λ tells. all_settled c.each.slot (g.D.Disk.view c.each.disk)
          (g.D.Disk.view c.shut_second.new.disk) (inv.settled tells) (h.after tells)
          (c.in_ok-shut_second.ensures.settled tells);
      kept = λ tells. keeps_more c.each.slot (g.D.Disk.view c.args.disk.now)
          (g.D.Disk.view c.each.disk) (g.D.Disk.view c.shut_second.new.disk) (inv.kept tells)
          (h.after tells) (g.met.D.Disk.sound c.shut_second.new.disk tells).reads;
      closed = λ tells. none_more c.each.slot (g.D.Disk.view c.args.disk.now)
          (g.D.Disk.view c.each.disk) (g.D.Disk.view c.shut_second.new.disk)
          (let t = c.each-test.true in omega arith) (inv.kept tells) (inv.closed tells)
          (inv.crash tells) (g.met.D.Disk.sound c.each.disk tells).reads (h.after tells)
          (c.in_ok-shut_second.ensures.closed tells);
    }

pub returns-clause-closed : goal.returns-clause-closed
returns-clause-closed g c =
    λ tells s n lt head. c.each.invariant.closed tells s n
    (let t = c.each-test.false in omega arith) head
