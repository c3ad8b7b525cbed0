use Rattle.std.proofs.Common.{◌∙◌, ℕ, inl, sym, subst}
use Rattle.std.specs.Prelude.{replicate}
use Rattle.std.proofs.lemmas.Result.{on_ok_weaker}
use Rattle.cx_disk.proofs.Moments.{weaker, joins}
use Rattle.cx_plan.specs.declared.job.Recover.TheVariants.{Autoprobe}
use Rattle.cx_keep.specs.Beginning.{IsWithinStart, IsLeft}
use Rattle.cx_keep.proofs.Afresh.{none_open, none_same, within_quiet, within_emptying, emptied_stands, emptied_left}
use Rattle.cx_keep.proofs.Starting.{quiet_alone, probe_keeps}
use Rattle.cx_keep.proofs.start.afresh.Goals as goal

pub returns-in_err-settle_slots-clause-moments : goal.returns-in_err-settle_slots-clause-moments
returns-in_err-settle_slots-clause-moments g c =
    λ tells. quiet_alone c.args.job.now Autoprobe (g.D.Disk.view c.args.disk.now)
    (g.D.Disk.view c.settle_slots.new.disk) (c.settle_slots.ensures.quiet tells)

pub returns-clause-started : goal.returns-clause-started
returns-clause-started g c = λ tells.
    let quiet = c.settle_slots.ensures.quiet tells in
    let slots = c.empty.ensures.slots tells in
    let none = none_same (g.D.Disk.view c.args.disk.now).seen (g.D.Disk.view c.empty.new.disk).seen
    (none_open (g.D.Disk.view c.args.disk.now).seen (c.requires.none tells))
    (λ s lt. slots s lt ∙ quiet.same s) in
    on_ok_weaker c.empty.result (λ emptied. record {
      stands = λ course can next later. emptied_stands course c.len.result
          (g.D.Disk.view c.empty.new.disk) next (can.outputs ∙ sym c.len.ensures) none emptied;
      left = subst (λ (n : ℕ). IsLeft c.args.job.now (replicate n 0)
          (g.D.Disk.view c.args.disk.now) (g.D.Disk.view c.empty.new.disk)) c.len.ensures
          (emptied_left c.args.job.now c.len.result (g.D.Disk.view c.args.disk.now)
          (g.D.Disk.view c.empty.new.disk) emptied);
      former = emptied.former;
      kept = λ not s lt. inl (slots s lt ∙ quiet.same s);
      closed = λ is. absurd (probe_keeps is);
    }) (c.empty.ensures.emptied tells)

pub returns-clause-moments : goal.returns-clause-moments
returns-clause-moments g c = λ tells course can trails.
    let quiet = c.settle_slots.ensures.quiet tells in
    let none = none_same (g.D.Disk.view c.args.disk.now).seen
    (g.D.Disk.view c.settle_slots.new.disk).seen
    (none_open (g.D.Disk.view c.args.disk.now).seen (c.requires.none tells))
    (λ s lt. quiet.same s) in
    joins (IsWithinStart course Autoprobe (g.D.Disk.view c.args.disk.now))
    (weaker (IsWithinStart course Autoprobe (g.D.Disk.view c.args.disk.now)) quiet.moments
    (within_quiet course Autoprobe (g.D.Disk.view c.args.disk.now) trails))
    (c.empty.ensures.moments tells)
    (within_emptying course c.len.result Autoprobe (g.D.Disk.view c.args.disk.now)
    (g.D.Disk.view c.settle_slots.new.disk) (can.outputs ∙ sym c.len.ensures)
    (λ d now. within_quiet course Autoprobe (g.D.Disk.view c.args.disk.now) trails d
    (quiet.crash d now)) none (c.in_ok-settle_slots.ensures.settled tells))
