use Rattle.std.proofs.Common.{refl}
use Rattle.std.specs.Prelude.{IsTrue}
use Rattle.std.specs.Option.{option_copied}
use Rattle.cx_plan.specs.Setups.{setup_of}
use Rattle.law_parts.specs.Beginnings.{run_of}
use Rattle.law_parts.specs.Totals.{undivided_from}
use Rattle.cx_core.specs.declared.answers.Outcome.TheVariants as out
use Rattle.cx_core.specs.Cores.{Cores}
use Rattle.cx_core.specs.Starts.{begins_in}
use Rattle.cx_core.proofs.StartLaws.{IsMade, begins_at, can_begin, is_fresh}
use Rattle.cx_core.proofs.machine.Core.start.Goals as goal

pub returns-clause-begins : goal.returns-clause-begins
returns-clause-begins c = λ told rules queue first empty small.
    let job = c.args.job.now in
    let state = option_copied c.args.state in
    let b = begins_in (setup_of job) state in
    let core : Cores = record {
      pace = c.in_ok-new.field-0;
      patches = c.in_ok-patches.patches.items;
      items = c.in_ok-items.items.items;
      given = c.in_ok-boards.boards;
      buffers = c.in_ok-gathering.gathering;
      met = out.Going;
      outcome = out.Going;
      lengths = c.in_ok-lengths.lengths.items;
      section = record { 0 = 0 };
    } in
    let made : IsMade job c.in_ok-cut.cut state core = record {
      cut_is = c.in_ok-cut.ensures.parts;
      ops = c.in_ok-ops.ops;
      ops_are = c.in_ok-ops.ensures;
      from = c.iteration_in.result;
      from_is = c.iteration_in.ensures;
      pace = c.in_ok-new.ensures;
      count = c.in_ok-patches.ensures.count;
      patches = c.in_ok-patches.ensures.patches;
      parts = c.count-parts.result;
      parts_are = c.count-parts.ensures.value;
      begins = c.first_iteration.result;
      begins_is = c.first_iteration.ensures;
      items = c.in_ok-items.ensures;
      given = c.in_ok-boards.ensures;
      key = c.in_ok-copy.field-0;
      buffers = c.in_ok-gathering.ensures;
      met = refl;
      outcome = refl;
      lengths_are = c.in_ok-lengths.ensures;
    } in
    begins_at (IsTrue told) (run_of job rules b) (undivided_from (setup_of job) rules b)
    (c.run_laws.ensures told rules b (can_begin (setup_of job) state c.requires.state)) core
    (is_fresh job rules c.in_ok-cut.cut core state c.requires.job.whole.outputs_rise
    c.requires.state
    made)
    queue empty first small
