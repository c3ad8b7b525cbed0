use Rattle.std.proofs.Common.{◌≡◌, refl, sym, arith}
use Rattle.std.proofs.lemmas.Result.{err_from_is_err_and}
use Rattle.cx_job_files.specs.Shelf.{Held}
use Rattle.cx_run.specs.Calls.{Lent}
use Rattle.cx_run.proofs.MadeLaws.{lent_on, lent_spared, made_on, ready_of, spares_shelf, wanting_for}
use Rattle.cx_run.proofs.call.job_for.Goals as goal

pub returns-in_err-name-clause-made : goal.returns-in_err-name-clause-made
returns-in_err-name-clause-made g c =
    let p = err_from_is_err_and c.from_residual.result c.from_residual.ensures.1 in
    let now : Held = g.H.Shelf.held c.args.shelf.now in
    let lent : Lent Held = record {
      tells = g.H.Shelf.tells;
      same = c.args.shelf.now ≡ c.args.shelf.now;
      old = now;
      new = now;
      faults = record {
        old = g.H.Shelf.faults c.args.shelf.now;
        new = g.H.Shelf.faults c.args.shelf.now;
      };
    } in
    rw (p.1, p.2) (wanting_for lent c.args.command c.args.file.now _ refl (omega arith))

pub returns-in_err-name-clause-spared : goal.returns-in_err-name-clause-spared
returns-in_err-name-clause-spared g c =
    let now : Held = g.H.Shelf.held c.args.shelf.now in
    let lent : Lent Held = record {
      tells = g.H.Shelf.tells;
      same = c.args.shelf.now ≡ c.args.shelf.now;
      old = now;
      new = now;
      faults = record {
        old = g.H.Shelf.faults c.args.shelf.now;
        new = g.H.Shelf.faults c.args.shelf.now;
      };
    } in
    spares_shelf lent c.args.command refl

pub returns-in-Some-clause-made : goal.returns-in-Some-clause-made
returns-in-Some-clause-made g c =
    made_on _ c.args.command (c.in-Some.seed, c.in-Some.size) _ c.args.file.now _ c.made_job.result
    (sym c.in-Some.ensures) c.in_ok-name.ensures c.made_job.ensures.made

pub returns-in-Some-clause-spared : goal.returns-in-Some-clause-spared
returns-in-Some-clause-spared g c =
    let now : Held = g.H.Shelf.held c.args.shelf.now in
    let lent : Lent Held = record {
      tells = g.H.Shelf.tells;
      same = c.args.shelf.now ≡ c.args.shelf.now;
      old = now;
      new = now;
      faults = record {
        old = g.H.Shelf.faults c.args.shelf.now;
        new = g.H.Shelf.faults c.args.shelf.now;
      };
    } in
    spares_shelf lent c.args.command refl

pub returns-clause-made : goal.returns-clause-made
returns-clause-made g c =
    lent_on _ c.args.command _ c.args.file.now _ c.make_job.result (sym c.in-None.ensures)
    c.in_ok-name.ensures c.make_job.ensures.made

pub returns-clause-spared : goal.returns-clause-spared
returns-clause-spared g c =
    let lent : Lent Held = record {
      tells = g.H.Shelf.tells;
      same = c.make_job.new.shelf ≡ c.args.shelf.now;
      old = g.H.Shelf.held c.args.shelf.now;
      new = g.H.Shelf.held c.make_job.new.shelf;
      faults = record {
        old = g.H.Shelf.faults c.args.shelf.now;
        new = g.H.Shelf.faults c.make_job.new.shelf;
      };
    } in
    lent_spared lent c.args.command (sym c.in-None.ensures)

pub returns-clause-ready : goal.returns-clause-ready
returns-clause-ready g c =
    ready_of _ c.make_job.result c.make_job.ensures.whole c.make_job.ensures.sound
    c.make_job.ensures.cut c.make_job.ensures.fit c.make_job.ensures.few_cells c.make_job.ensures.names
