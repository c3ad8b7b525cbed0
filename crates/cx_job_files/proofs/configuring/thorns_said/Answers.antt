use Rattle.std.proofs.Common.{sym, subst}
use Rattle.std.proofs.lemmas.Result.{err_from_is_err_and}
use Rattle.cx_job_files.specs.NamesAndLevels.{SayRead}
use Rattle.cx_job_files.proofs.ReadNames.{said_none, said_too}
use Rattle.cx_job_files.proofs.ConfiguringLaws as laws
use Rattle.cx_job_files.proofs.configuring.thorns_said.Goals as goal

pub places-init : goal.places-init
places-init g c = (
  laws.leads_none g.H.Shelf.tells c.args.places.now (g.H.Shelf.held c.args.shelf.now)
      (g.H.Shelf.faults c.args.shelf.now) c.empty-said.result c.empty-said.ensures,
  λ named. said_none c.empty-said.result c.empty-said.ensures,
)

pub places-preserved : goal.places-preserved
places-preserved g c = (
  laws.leads_one g.H.Shelf.tells c.args.places.now (g.H.Shelf.held c.args.shelf.now)
      (g.H.Shelf.faults c.args.shelf.now)
      c.places.place-index c.place-item.result c.places.said c.push.new.self
      c.in_ok-thorn_files.field-0
      (g.H.Shelf.held c.places.shelf) (g.H.Shelf.held c.thorn_files.new.shelf)
      (g.H.Shelf.faults c.places.shelf) (g.H.Shelf.faults c.thorn_files.new.shelf)
      c.places-test.true c.place-item.is c.in_ok-thorn_files.ensures.follows c.places.invariant.0
      c.in_ok-push.ensures.ok,
  λ named. subst SayRead (sym c.in_ok-push.ensures.ok)
      (said_too c.args.places.now c.places.place-index c.place-item.result c.places.said
      c.in_ok-thorn_files.field-0 c.places-test.true c.place-item.is c.places.invariant.1
      c.in_ok-thorn_files.ensures.read named),
)

pub returns-in_err-thorn_files-clause-follows : goal.returns-in_err-thorn_files-clause-follows
returns-in_err-thorn_files-clause-follows g c =
    let p = err_from_is_err_and c.from_residual.result c.from_residual.ensures.1 in
    rw (p.1, p.2)
    (laws.leads_fault g.H.Shelf.tells c.args.places.now (g.H.Shelf.held c.args.shelf.now)
    (g.H.Shelf.faults c.args.shelf.now)
    c.places.place-index c.place-item.result c.places.said c.in_err-thorn_files.field-0.0
    (g.H.Shelf.held c.places.shelf) (g.H.Shelf.held c.thorn_files.new.shelf)
    (g.H.Shelf.faults c.places.shelf) (g.H.Shelf.faults c.thorn_files.new.shelf)
    c.places-test.true c.place-item.is c.in_err-thorn_files.ensures.follows c.places.invariant.0)

pub returns-in_err-push-clause-follows : goal.returns-in_err-push-clause-follows
returns-in_err-push-clause-follows g c =
    let p = err_from_is_err_and c.from_residual-in_err-push.result
    c.from_residual-in_err-push.ensures.1 in
    rw (p.1, p.2)
    (laws.leads_memory g.H.Shelf.tells c.args.places.now (g.H.Shelf.held c.args.shelf.now)
    (g.H.Shelf.faults c.args.shelf.now)
    c.places.place-index c.place-item.result c.places.said c.in_ok-thorn_files.field-0
    (g.H.Shelf.held c.places.shelf) (g.H.Shelf.held c.thorn_files.new.shelf)
    (g.H.Shelf.faults c.places.shelf) (g.H.Shelf.faults c.thorn_files.new.shelf)
    c.places-test.true c.place-item.is c.in_ok-thorn_files.ensures.follows c.places.invariant.0)

pub returns-clause-follows : goal.returns-clause-follows
returns-clause-follows g c =
    laws.leads_all g.H.Shelf.tells c.args.places.now (g.H.Shelf.held c.args.shelf.now)
    (g.H.Shelf.faults c.args.shelf.now)
    c.places.place-index c.places.said (g.H.Shelf.held c.places.shelf)
    (g.H.Shelf.faults c.places.shelf) c.places-test.false c.places.invariant.0
