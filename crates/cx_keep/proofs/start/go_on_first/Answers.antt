use Rattle.std.proofs.Common.{◌≡◌, ◌∙◌, ℕ, List, sym, ap, subst}
use Rattle.std.specs.Prelude.{Result, Some, Ok, slice_index}
use Rattle.std.proofs.lemmas.Result.{err_from_is_err_and}
use Rattle.cx_plan.specs.declared.job.Recover.TheVariants.{Autoprobe}
use Rattle.cx_chk.specs.declared.checkpoint.Checkpoint.{Checkpoint}
use Rattle.cx_keep.specs.declared.fault.BeginFault.{BeginFault}
use Rattle.cx_keep.specs.Beginning.{IsStarted, RenewMoments, RenewStands}
use Rattle.cx_keep.specs.Renewing.{AreRenewed}
use Rattle.cx_keep.specs.Tests.{IsFaultOf, former_judged, renewed, split_at}
use Rattle.cx_keep.proofs.Going.{first_moments, first_started}
use Rattle.cx_keep.proofs.Starting.{quiet_alone}
use Rattle.cx_keep.proofs.Tested.{first_tested}
use Rattle.cx_keep.proofs.start.go_on_first.Goals as goal

pub returns-in_err-texts-clause-tests : goal.returns-in_err-texts-clause-tests
returns-in_err-texts-clause-tests g c = λ tells.
    let p = err_from_is_err_and c.from_residual.result c.from_residual.ensures.1 in
    rw (p.1, p.2) (subst (λ (s : Result Checkpoint BeginFault).
    IsFaultOf c.in_err-texts.field-0.0 s)
    (first_tested c.args.job.now (g.D.Disk.view c.args.disk.now).seen c.args.slot c.args.found
    (c.requires.spelled tells) c.requires.key c.requires.fits c.requires.version)
    (subst (λ (l : List ℕ). IsFaultOf c.in_err-texts.field-0.0
    (former_judged c.args.job.now (g.D.Disk.view c.args.disk.now).seen c.args.slot c.args.found
    (slice_index l 0))) c.as_slice.ensures (c.in_err-texts.ensures.tests tells c.args.found)))

pub returns-in_err-texts-clause-moments : goal.returns-in_err-texts-clause-moments
returns-in_err-texts-clause-moments g c = λ tells.
    quiet_alone c.args.job.now Autoprobe (g.D.Disk.view c.args.disk.now)
    (g.D.Disk.view c.split_former.new.disk) (c.split_former.ensures.quiet tells)

pub returns-in_err-now-clause-moments : goal.returns-in_err-now-clause-moments
returns-in_err-now-clause-moments g c = λ tells.
    quiet_alone c.args.job.now Autoprobe (g.D.Disk.view c.args.disk.now)
    (g.D.Disk.view c.split_former.new.disk) (c.split_former.ensures.quiet tells)

pub returns-in_err-renew-clause-moments : goal.returns-in_err-renew-clause-moments
returns-in_err-renew-clause-moments g c = λ tells.
    let old = g.D.Disk.view c.args.disk.now in
    let mid = g.D.Disk.view c.split_former.new.disk in
    let new = g.D.Disk.view c.renew.new.disk in
    let split : split_at c.args.job.now (slice_index c.args.found.lengths 0) old.seen
    ≡ Some c.in_ok-texts.texts =
    subst (λ (l : List ℕ). split_at c.args.job.now (slice_index l 0) old.seen
    ≡ Some c.in_ok-texts.texts) c.as_slice.ensures (c.in_ok-texts.ensures.split tells) in
    first_moments c.args.job.now old mid new (g.met.D.Disk.sound c.args.disk.now tells)
    c.args.slot c.args.iteration (c.requires.newest tells) c.args.found
    (c.requires.spelled tells) (c.split_former.ensures.quiet tells) c.requires.whole
    c.requires.version c.in_ok-texts.texts split
    (subst (λ (ts : List (List ℕ)). RenewMoments ts mid new) c.as_slice-3.ensures
    (c.renew.ensures.moments tells))

pub returns-clause-moments : goal.returns-clause-moments
returns-clause-moments g c = λ tells.
    let old = g.D.Disk.view c.args.disk.now in
    let mid = g.D.Disk.view c.split_former.new.disk in
    let new = g.D.Disk.view c.renew.new.disk in
    let split : split_at c.args.job.now (slice_index c.args.found.lengths 0) old.seen
    ≡ Some c.in_ok-texts.texts =
    subst (λ (l : List ℕ). split_at c.args.job.now (slice_index l 0) old.seen
    ≡ Some c.in_ok-texts.texts) c.as_slice.ensures (c.in_ok-texts.ensures.split tells) in
    first_moments c.args.job.now old mid new (g.met.D.Disk.sound c.args.disk.now tells)
    c.args.slot c.args.iteration (c.requires.newest tells) c.args.found
    (c.requires.spelled tells) (c.split_former.ensures.quiet tells) c.requires.whole
    c.requires.version c.in_ok-texts.texts split
    (subst (λ (ts : List (List ℕ)). RenewMoments ts mid new) c.as_slice-3.ensures
    (c.renew.ensures.moments tells))

pub returns-clause-tests : goal.returns-clause-tests
returns-clause-tests g c = λ tells.
    let first = first_tested c.args.job.now (g.D.Disk.view c.args.disk.now).seen c.args.slot
    c.args.found (c.requires.spelled tells) c.requires.key c.requires.fits c.requires.version in
    let answer : c.in_ok-now.now ≡ renewed c.args.job.now c.args.found c.in_ok-texts.texts =
    c.in_ok-now.ensures ∙ ap (renewed c.args.job.now c.args.found) c.as_slice-2.ensures in
    let judged : former_judged c.args.job.now (g.D.Disk.view c.args.disk.now).seen c.args.slot
    c.args.found (slice_index c.args.found.lengths 0)
    ≡ Ok (renewed c.args.job.now c.args.found c.in_ok-texts.texts) =
    subst (λ (l : List ℕ). former_judged c.args.job.now (g.D.Disk.view c.args.disk.now).seen
    c.args.slot c.args.found (slice_index l 0)
    ≡ Ok (renewed c.args.job.now c.args.found c.in_ok-texts.texts)) c.as_slice.ensures
    (c.in_ok-texts.ensures.tests tells c.args.found) in
    sym first ∙ judged ∙ ap (λ (x : Checkpoint). Ok x) (sym answer)

pub returns-clause-started : goal.returns-clause-started
returns-clause-started g c = λ tells.
    let old = g.D.Disk.view c.args.disk.now in
    let mid = g.D.Disk.view c.split_former.new.disk in
    let new = g.D.Disk.view c.renew.new.disk in
    let split : split_at c.args.job.now (slice_index c.args.found.lengths 0) old.seen
    ≡ Some c.in_ok-texts.texts =
    subst (λ (l : List ℕ). split_at c.args.job.now (slice_index l 0) old.seen
    ≡ Some c.in_ok-texts.texts) c.as_slice.ensures (c.in_ok-texts.ensures.split tells) in
    let answer : c.in_ok-now.now ≡ renewed c.args.job.now c.args.found c.in_ok-texts.texts =
    c.in_ok-now.ensures ∙ ap (renewed c.args.job.now c.args.found) c.as_slice-2.ensures in
    subst (λ (x : Checkpoint). IsStarted c.args.job.now Autoprobe (Some x) old new) (sym answer)
    (first_started c.args.job.now old mid new (g.met.D.Disk.sound c.args.disk.now tells)
    c.args.slot c.args.iteration (c.requires.newest tells) c.args.found
    (c.requires.spelled tells) (c.split_former.ensures.quiet tells) c.requires.whole
    c.requires.version c.in_ok-texts.texts split
    (subst (λ (ts : List (List ℕ)). RenewStands ts mid new) c.as_slice-3.ensures
    (c.in_ok-renew.ensures.stands tells))
    (subst (λ (ts : List (List ℕ)). AreRenewed ts new) c.as_slice-3.ensures
    (c.in_ok-renew.ensures.renewed tells)) (c.in_ok-renew.ensures.settled tells)
    (c.renew.ensures.former tells) (c.renew.ensures.slots tells))
