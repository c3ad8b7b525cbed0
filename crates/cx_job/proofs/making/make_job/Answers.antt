use Rattle.std.proofs.Common.{◌≡◌, ◌∙◌, ◌≤◌, ◌^◌, ap, subst, map, None, IfOk}
use Rattle.std.proofs.lemmas.Result.{err_from_is_err_and}
use Rattle.cx_grid.specs.Grid.{HasInterior}
use Rattle.cx_cut.specs.Faults.{parts_of, cut_fault}
use Rattle.cx_cut.proofs.FaultLaws.{is_whole}
use Rattle.cx_job.specs.LocalCells.{local_cells}
use Rattle.cx_plan.specs.Setups.{setup_of}
use Rattle.cx_plan.specs.Regions.{HasShapes}
use Rattle.cx_plan.specs.Paths.{Sound}
use Rattle.cx_plan.specs.Whole.{IsWhole}
use Rattle.cx_outputs.specs.Names.{HasShortNames}
use Rattle.cx_rule.specs.Jobs.{FitJob}
use Rattle.cx_job.specs.Making.{MadeOf, ReachesFrom}
use Rattle.cx_job.proofs.MakingLaws.{makes_pass, makes_halt, makes_memory}
use Rattle.cx_job.proofs.ReadyLaws.{if_ready}
use Rattle.cx_job.proofs.making.make_job.Goals as goal

pub returns-in_err-specs-clause-made : goal.returns-in_err-specs-clause-made
returns-in_err-specs-clause-made g c =
    let p = err_from_is_err_and c.from_residual.result c.from_residual.ensures.1 in
    rw (p.1, p.2) (makes_memory
    (map (λ r. (goal.Routine-dyn g (r.vtable, r.value)).spec_of r.value) c.args.routines.now)
    g.H.Shelf.tells c.args.name.now (g.H.Shelf.held c.args.shelf.now)
    (g.H.Shelf.faults c.args.shelf.now))

pub returns-in_err-configured-clause-made : goal.returns-in_err-configured-clause-made
returns-in_err-configured-clause-made g c =
    let p = err_from_is_err_and c.from_residual-in_err-configured.result
    c.from_residual-in_err-configured.ensures.1 in
    rw (p.1, p.2)
    (makes_halt (map (λ r. (goal.Routine-dyn g (r.vtable, r.value)).spec_of r.value)
    c.args.routines.now) g.H.Shelf.tells c.args.name.now (g.H.Shelf.held c.args.shelf.now)
    (g.H.Shelf.held c.configure.new.shelf)
    (g.H.Shelf.faults c.args.shelf.now) (g.H.Shelf.faults c.configure.new.shelf)
    c.in_err-configured.field-0.0 c.in_err-configured.ensures.follows)

pub returns-clause-made : goal.returns-clause-made
returns-clause-made g c =
    makes_pass (map (λ r. (goal.Routine-dyn g (r.vtable, r.value)).spec_of r.value)
    c.args.routines.now) g.H.Shelf.tells c.args.name.now (g.H.Shelf.held c.args.shelf.now)
    (g.H.Shelf.held c.configure.new.shelf) (g.H.Shelf.held c.made_of.new.shelf)
    (g.H.Shelf.faults c.args.shelf.now) (g.H.Shelf.faults c.configure.new.shelf)
    (g.H.Shelf.faults c.made_of.new.shelf)
    c.in_ok-configured.configured c.made_of.result c.in_ok-configured.ensures.follows
    (subst (λ specs. ReachesFrom g.H.Shelf
    (λ files. MadeOf specs files c.in_ok-configured.configured)
    c.configure.new.shelf c.made_of.new.shelf c.made_of.result)
    (ap (map (λ s. s.now)) c.deref.ensures.value ∙ c.in_ok-specs.ensures)
    c.made_of.ensures.made)

pub returns-clause-whole : goal.returns-clause-whole
returns-clause-whole g c =
    if_ready _ IsWhole c.made_of.result (λ job ready. ready.whole) c.made_of.ensures.ready

pub returns-clause-sound : goal.returns-clause-sound
returns-clause-sound g c =
    if_ready _ (λ job. HasShapes (setup_of job) × Sound (setup_of job)) c.made_of.result
    (λ job ready. (ready.shapes, ready.sound)) c.made_of.ensures.ready

pub returns-clause-cut : goal.returns-clause-cut
returns-clause-cut g c =
    if_ready _ (λ job. cut_fault (parts_of job.shape job.cut) ≡ None) c.made_of.result
    (λ job ready. ready.cut) c.made_of.ensures.ready

pub returns-clause-interior : goal.returns-clause-interior
returns-clause-interior g c =
    if_ready _ (λ job. HasInterior job.shape) c.made_of.result
    (λ job ready. (is_whole (parts_of job.shape job.cut) ready.whole.shape ready.cut).interior)
    c.made_of.ensures.ready

pub returns-clause-few_cells : goal.returns-clause-few_cells
returns-clause-few_cells g c =
    if_ready _ (λ job. local_cells job ≤ 2 ^ 27) c.made_of.result (λ job ready. ready.few_cells)
    c.made_of.ensures.ready

pub returns-clause-names : goal.returns-clause-names
returns-clause-names g c =
    if_ready _ (λ job. HasShortNames (setup_of job)) c.made_of.result
    (λ job ready. ready.names) c.made_of.ensures.ready

pub returns-clause-fit : goal.returns-clause-fit
returns-clause-fit g c =
    subst (λ specs. IfOk c.made_of.result (λ job. FitJob specs job))
    (ap (map (λ s. s.now)) c.deref.ensures.value ∙ c.in_ok-specs.ensures)
    (if_ready _ (λ job. FitJob (map (λ s. s.now) c.deref.result.now) job) c.made_of.result
    (λ job ready. ready.fit) c.made_of.ensures.ready)
