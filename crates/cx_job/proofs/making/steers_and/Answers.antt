use Rattle.std.proofs.Common.{map, Err, Ok, subst}
use Rattle.std.proofs.lemmas.Result.{err_from_is_err_and}
use Rattle.cx_job_files.specs.Reading.{Follows, SaysSteers}
use Rattle.cx_job.specs.Making.{SteersAnd}
use Rattle.cx_job.proofs.MakingLaws.{reaches_memory, steers_halt, steers_pass}
use Rattle.cx_job.proofs.making.steers_and.Goals as goal

pub returns-in_err-name-clause-made : goal.returns-in_err-name-clause-made
returns-in_err-name-clause-made g c =
    let p = err_from_is_err_and c.from_residual.result c.from_residual.ensures.1 in
    rw (p.1, p.2)
    (reaches_memory g.H.Shelf.tells
    (λ files. SteersAnd (map (λ s. s.now) c.args.specs.now) files c.args.schedules.now
    c.args.bound.now c.args.values.now)
    (g.H.Shelf.held c.args.shelf.now) (g.H.Shelf.faults c.args.shelf.now))

pub returns-in_err-lines-clause-made : goal.returns-in_err-lines-clause-made
returns-in_err-lines-clause-made g c =
    let p = err_from_is_err_and c.from_residual-in_err-lines.result
    c.from_residual-in_err-lines.ensures.1 in
    rw (p.1, p.2)
    (steers_halt (map (λ s. s.now) c.args.specs.now) c.args.schedules.now
    c.args.bound.now c.args.values.now g.H.Shelf.tells (g.H.Shelf.held c.args.shelf.now)
    (g.H.Shelf.held c.steer_lines.new.shelf) (g.H.Shelf.faults c.args.shelf.now)
    (g.H.Shelf.faults c.steer_lines.new.shelf) c.in_err-lines.field-0.0
    (rw c.in_ok-name.ensures at c.in_err-lines.ensures.follows))

pub steps_and-requires : goal.steps_and-requires
steps_and-requires g c = record {
  few = c.requires.few;
  read = c.requires.read;
  fit = c.requires.fit;
  as_many = c.requires.as_many;
  named = c.in_ok-name.ensures;
  later = c.in_ok-lines.ensures.later;
}

pub returns-clause-made : goal.returns-clause-made
returns-clause-made g c =
    steers_pass (map (λ s. s.now) c.args.specs.now) c.args.schedules.now
    c.args.bound.now c.args.values.now g.H.Shelf.tells (g.H.Shelf.held c.args.shelf.now)
    (g.H.Shelf.held c.steer_lines.new.shelf) (g.H.Shelf.faults c.args.shelf.now)
    (g.H.Shelf.faults c.steer_lines.new.shelf) c.in_ok-lines.lines c.steps_and.result
    (rw c.in_ok-name.ensures at c.in_ok-lines.ensures.follows) c.steps_and.ensures.made
