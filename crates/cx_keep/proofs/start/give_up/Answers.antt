use Rattle.std.proofs.Common.{◌∙◌, ℕ, refl, sym, subst}
use Rattle.std.specs.Prelude.{replicate}
use Rattle.std.proofs.lemmas.Result.{on_ok_weaker}
use Rattle.cx_disk.proofs.Moments.{joins}
use Rattle.cx_plan.specs.declared.job.Recover.TheVariants.{No}
use Rattle.cx_keep.specs.Beginning.{IsWithinStart, IsLeft}
use Rattle.cx_keep.proofs.Afresh.{none_same, within_closing, within_emptying, emptied_stands, emptied_left}
use Rattle.cx_keep.proofs.Starting.{quiet_alone}
use Rattle.cx_keep.proofs.start.give_up.Goals as goal

pub returns-in_err-settle_slots-clause-moments : goal.returns-in_err-settle_slots-clause-moments
returns-in_err-settle_slots-clause-moments g c =
    λ tells. quiet_alone c.args.job.now No (g.D.Disk.view c.args.disk.now)
    (g.D.Disk.view c.settle_slots.new.disk) (c.settle_slots.ensures.quiet tells)

pub returns-in_err-close_all-clause-moments : goal.returns-in_err-close_all-clause-moments
returns-in_err-close_all-clause-moments g c = λ tells course can trails.
    let quiet = c.settle_slots.ensures.quiet tells in
    joins (IsWithinStart course No (g.D.Disk.view c.args.disk.now))
    (quiet_alone c.args.job.now No (g.D.Disk.view c.args.disk.now)
    (g.D.Disk.view c.settle_slots.new.disk) quiet course can trails)
    (c.close_all.ensures.moments tells)
    (within_closing course (g.D.Disk.view c.args.disk.now) (g.D.Disk.view c.settle_slots.new.disk)
    trails quiet (c.in_ok-settle_slots.ensures.settled tells))

pub returns-clause-started : goal.returns-clause-started
returns-clause-started g c = λ tells.
    let none = none_same (g.D.Disk.view c.close_all.new.disk).seen
    (g.D.Disk.view c.empty.new.disk).seen (c.in_ok-close_all.ensures.closed tells)
    (c.empty.ensures.slots tells) in
    on_ok_weaker c.empty.result (λ emptied. record {
      stands = λ course can next later. emptied_stands course c.len.result
          (g.D.Disk.view c.empty.new.disk) next (can.outputs ∙ sym c.len.ensures) none emptied;
      left = subst (λ (n : ℕ). IsLeft c.args.job.now (replicate n 0)
          (g.D.Disk.view c.args.disk.now) (g.D.Disk.view c.empty.new.disk)) c.len.ensures
          (emptied_left c.args.job.now c.len.result (g.D.Disk.view c.args.disk.now)
          (g.D.Disk.view c.empty.new.disk) emptied);
      former = emptied.former;
      kept = λ not. absurd (not refl);
      closed = λ is. none;
    }) (c.empty.ensures.emptied tells)

pub returns-clause-moments : goal.returns-clause-moments
returns-clause-moments g c = λ tells course can trails.
    let quiet = c.settle_slots.ensures.quiet tells in
    let closing = within_closing course (g.D.Disk.view c.args.disk.now)
    (g.D.Disk.view c.settle_slots.new.disk) trails quiet
    (c.in_ok-settle_slots.ensures.settled tells) in
    let so_far = joins (IsWithinStart course No (g.D.Disk.view c.args.disk.now))
    (quiet_alone c.args.job.now No (g.D.Disk.view c.args.disk.now)
    (g.D.Disk.view c.settle_slots.new.disk) quiet course can trails)
    (c.close_all.ensures.moments tells) closing in
    joins (IsWithinStart course No (g.D.Disk.view c.args.disk.now)) so_far
    (c.empty.ensures.moments tells)
    (within_emptying course c.len.result No (g.D.Disk.view c.args.disk.now)
    (g.D.Disk.view c.close_all.new.disk) (can.outputs ∙ sym c.len.ensures)
    (λ d now. closing d (c.close_all.ensures.crash tells d now))
    (c.in_ok-close_all.ensures.closed tells) (c.in_ok-close_all.ensures.settled tells))
