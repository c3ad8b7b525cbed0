use Rattle.std.proofs.Common.{inl, sym, subst, List, ℕ, arith}
use Rattle.std.proofs.lemmas.Result.{on_ok_weaker}
use Rattle.cx_disk.proofs.Moments.{joins}
use Rattle.cx_chk.specs.Slots.{IsOrShut}
use Rattle.cx_keep.specs.Beginning.{IsWithinStart}
use Rattle.cx_keep.proofs.Going.{renew_quiet}
use Rattle.cx_keep.proofs.Renewing.{shut_within, renewal_within, renewed_stands}
use Rattle.cx_keep.proofs.Starting.{quiet_start}
use Rattle.cx_keep.proofs.renew.renew.Goals as goal

pub returns-in_err-settle_slots-clause-moments : goal.returns-in_err-settle_slots-clause-moments
returns-in_err-settle_slots-clause-moments g c = λ tells course chk recover trails can.
    quiet_start course recover (g.D.Disk.view c.args.disk.now)
    (g.D.Disk.view c.settle_slots.new.disk) trails (c.settle_slots.ensures.quiet tells)

pub returns-in_err-settle_slots-clause-slots : goal.returns-in_err-settle_slots-clause-slots
returns-in_err-settle_slots-clause-slots g c = λ tells s lt.
    inl ((c.settle_slots.ensures.quiet tells).same s)

pub returns-in_err-close_second-clause-moments : goal.returns-in_err-close_second-clause-moments
returns-in_err-close_second-clause-moments g c = λ tells course chk recover trails can.
    let old = g.D.Disk.view c.args.disk.now in
    let mid = g.D.Disk.view c.settle_slots.new.disk in
    let quiet = c.settle_slots.ensures.quiet tells in
    joins (IsWithinStart course recover old) (quiet_start course recover old mid trails quiet)
    (c.close_second.ensures.moments tells)
    (λ f shut. shut_within course chk c.args.texts.now old mid trails quiet
    (c.in_ok-settle_slots.ensures.settled tells)
    (renew_quiet course chk c.args.texts.now old mid can quiet) f shut recover)

pub returns-in_err-close_second-clause-slots : goal.returns-in_err-close_second-clause-slots
returns-in_err-close_second-clause-slots g c = λ tells s lt.
    subst (λ (b : List ℕ). IsOrShut b ((g.D.Disk.view c.close_second.new.disk).seen s))
    ((c.settle_slots.ensures.quiet tells).same s)
    ((c.close_second.ensures.crash tells (g.D.Disk.view c.close_second.new.disk).seen
    (g.met.D.Disk.sound c.close_second.new.disk tells).reads).slots s lt)

pub returns-clause-moments : goal.returns-clause-moments
returns-clause-moments g c = λ tells course chk recover trails can.
    let old = g.D.Disk.view c.args.disk.now in
    let mid = g.D.Disk.view c.settle_slots.new.disk in
    let shut = g.D.Disk.view c.close_second.new.disk in
    let quiet = c.settle_slots.ensures.quiet tells in
    let settled = c.in_ok-settle_slots.ensures.settled tells in
    let here = renew_quiet course chk c.args.texts.now old mid can quiet in
    let so_far = joins (IsWithinStart course recover old)
    (quiet_start course recover old mid trails quiet) (c.close_second.ensures.moments tells)
    (λ f shutting. shut_within course chk c.args.texts.now old mid trails quiet settled here f
    shutting recover) in
    joins (IsWithinStart course recover old) so_far (c.write_outputs.ensures.moments tells)
    (λ f renewing. renewal_within course chk c.args.texts.now old mid trails quiet settled here
    shut (c.close_second.ensures.crash tells) (c.in_ok-close_second.ensures.settled tells)
    (c.in_ok-close_second.ensures.closed tells) (c.close_second.ensures.first_same tells)
    recover f renewing)

pub returns-clause-stands : goal.returns-clause-stands
returns-clause-stands g c = λ tells.
    let old = g.D.Disk.view c.args.disk.now in
    let mid = g.D.Disk.view c.settle_slots.new.disk in
    let quiet = c.settle_slots.ensures.quiet tells in
    on_ok_weaker c.write_outputs.result (λ own course chk trails can next later.
    renewed_stands course chk c.args.texts.now old mid trails quiet
    (c.in_ok-settle_slots.ensures.settled tells)
    (renew_quiet course chk c.args.texts.now old mid can quiet)
    (g.D.Disk.view c.close_second.new.disk) (c.close_second.ensures.crash tells)
    (c.in_ok-close_second.ensures.settled tells) (c.in_ok-close_second.ensures.closed tells)
    (c.close_second.ensures.first_same tells) (g.D.Disk.view c.write_outputs.new.disk) next later
    (g.met.D.Disk.sound c.write_outputs.new.disk tells).reads (c.write_outputs.ensures.crash tells)
    (λ s lt. c.write_outputs.ensures.earlier tells s (omega arith)) own)
    (c.write_outputs.ensures.renewed tells)

pub returns-clause-slots : goal.returns-clause-slots
returns-clause-slots g c = λ tells s lt.
    let new = g.D.Disk.view c.write_outputs.new.disk in
    subst (λ (b : List ℕ). IsOrShut ((g.D.Disk.view c.args.disk.now).seen s) b)
    (sym (c.write_outputs.ensures.earlier tells s (omega arith)))
    (subst (λ (b : List ℕ). IsOrShut b ((g.D.Disk.view c.close_second.new.disk).seen s))
    ((c.settle_slots.ensures.quiet tells).same s)
    ((c.close_second.ensures.crash tells (g.D.Disk.view c.close_second.new.disk).seen
    (g.met.D.Disk.sound c.close_second.new.disk tells).reads).slots s lt))
