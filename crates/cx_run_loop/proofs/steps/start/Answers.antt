use Rattle.std.proofs.Common.{◌≡◌, true, [], sym, subst, rules}
use Rattle.std.specs.Prelude.{Option, IsTrue}
use Rattle.std.specs.Option.{option_copied}
use Rattle.cx_chk.specs.declared.checkpoint.Checkpoint.{Checkpoint}
use Rattle.cx_plan.specs.Setups.{setup_of}
use Rattle.law_parts.specs.Beginnings.{run_of}
use Rattle.cx_core.specs.Starts.{CanBegin, begins_in}
use Rattle.cx_core.specs.Steps.{Begins}
use Rattle.cx_run_loop.proofs.StartLaws.{can_start, is_beginning}
use Rattle.cx_run_loop.proofs.steps.start.Goals as goal
use Rattle.cx_run_loop.proofs.steps.start.Goals.{After-as_ref}

lent : (c : After-as_ref) → option_copied c.as_ref.result ≡ c.args.found.now
lent c = search rules

pub start-requires-clause-state : goal.start-requires-clause-state
start-requires-clause-state c =
    subst (λ (o : Option Checkpoint). CanBegin (setup_of c.args.job.now) o) (sym (lent c))
    (can_start c.args.job.now
    (c.drive_laws.ensures true []).can_begin c.args.found.now c.requires.fits
    c.requires.lengths)

pub returns-in_err-start-clause-can : goal.returns-in_err-start-clause-can
returns-in_err-start-clause-can c =
    is_beginning c.args.job.now
    (c.drive_laws.ensures true []).can_begin c.args.found.now c.requires.fits

pub returns-in_err-start-clause-state : goal.returns-in_err-start-clause-state
returns-in_err-start-clause-state c =
    can_start c.args.job.now (c.drive_laws.ensures true []).can_begin c.args.found.now
    c.requires.fits c.requires.lengths

pub returns-clause-state : goal.returns-clause-state
returns-clause-state c =
    can_start c.args.job.now (c.drive_laws.ensures true []).can_begin c.args.found.now
    c.requires.fits c.requires.lengths

pub returns-clause-can : goal.returns-clause-can
returns-clause-can c = is_beginning c.args.job.now
    (c.drive_laws.ensures true []).can_begin c.args.found.now c.requires.fits

pub returns-clause-begins : goal.returns-clause-begins
returns-clause-begins c told rules queue first empty sum =
    subst (λ (o : Option Checkpoint).
    Begins (IsTrue told) (run_of c.args.job.now rules (begins_in (setup_of c.args.job.now) o))
    first c.in_ok-start.field-0 queue) (lent ((goal.at.returns-clause-begins c).After-as_ref))
    (c.in_ok-start.ensures.begins told rules queue first empty sum)
