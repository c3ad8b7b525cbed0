use Rattle.std.proofs.Common.{◌≡◌, inl, inr, ℕ, sym, ◌∙◌, ap, subst, arith}
use Rattle.std.specs.Prelude.{None}
use Rattle.std.proofs.lemmas.Bool.{cases_eq}
use Rattle.cx_chk.specs.Slots.{header_of}
use Rattle.cx_chk.proofs.Saving.{closing, closing_all, all_settled}
use Rattle.cx_chk.proofs.slots.Slots.close_all.Goals as goal

pub returns-in_err-close-clause-crash : goal.returns-in_err-close-clause-crash
returns-in_err-close-clause-crash g c = λ tells d now.
    let step = c.close.ensures.after tells in
    closing c.each.slot (g.D.Disk.view c.args.disk.now) (g.D.Disk.view c.each.disk)
    (g.D.Disk.view c.close.new.disk) (let t = c.each-test.true in omega arith)
    (c.each.invariant.crash tells) (g.met.D.Disk.sound c.each.disk tells).reads step d
    (step.crash d now)

pub returns-in_err-close-clause-moments : goal.returns-in_err-close-clause-moments
returns-in_err-close-clause-moments g c = λ tells.
    closing_all c.each.slot (g.D.Disk.view c.args.disk.now) (g.D.Disk.view c.each.disk)
    (g.D.Disk.view c.close.new.disk) (let t = c.each-test.true in omega arith)
    (c.each.invariant.crash tells) (g.met.D.Disk.sound c.each.disk tells).reads
    (c.each.invariant.moments tells) (c.close.ensures.after tells)

pub each-preserved : goal.each-preserved
each-preserved g c =
    let inv = c.each.invariant in
    let h = c.close.ensures in
    record {
      mounted = h.kept.mounted;
      folders = h.kept.folders ∙ inv.folders;
      count = h.kept.count ∙ inv.count;
      faults = let a = inv.faults in let b = h.kept.cause.later in omega arith;
      crash = λ tells d now. closing c.each.slot (g.D.Disk.view c.args.disk.now)
          (g.D.Disk.view c.each.disk) (g.D.Disk.view c.close.new.disk)
          (let t = c.each-test.true in omega arith) (inv.crash tells)
          (g.met.D.Disk.sound c.each.disk tells).reads (h.after tells) d
          ((h.after tells).crash d now);
      moments = λ tells. closing_all c.each.slot (g.D.Disk.view c.args.disk.now)
          (g.D.Disk.view c.each.disk) (g.D.Disk.view c.close.new.disk)
          (let t = c.each-test.true in omega arith) (inv.crash tells)
          (g.met.D.Disk.sound c.each.disk tells).reads (inv.moments tells) (h.after tells);
      seen = λ tells f le. (h.after tells).others f
          (λ same. absurd (let x : f ≡ c.each.slot = same in let t = c.each-test.true in
          omega arith)) ∙ inv.seen tells f le;
      settled = λ tells. all_settled c.each.slot (g.D.Disk.view c.each.disk)
          (g.D.Disk.view c.close.new.disk) (inv.settled tells) (h.after tells)
          (c.in_ok-close.ensures.settled tells);
      closed = λ tells s lt. elim (cases_eq s c.each.slot) as
          (λ _. header_of ((g.D.Disk.view c.close.new.disk).seen s) ≡ None) [
            | inl same ↦ subst (λ (j : ℕ). header_of ((g.D.Disk.view c.close.new.disk).seen j)
                ≡ None)
                (sym same) (c.in_ok-close.ensures.closed tells)
            | inr ne ↦ ap header_of ((h.after tells).others s ne)
                ∙ inv.closed tells s (let t = lt in omega arith)
          ];
    }
