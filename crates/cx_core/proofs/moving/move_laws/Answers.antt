use Rattle.cx_core.proofs.moving.move_laws.Goals as goal

pub returns : goal.returns
returns c = λ rules. record {
  flat = c.flat_is_run.ensures rules;
  ways = c.all_ways.ensures;
  met = c.operation_needs_met.ensures rules;
  pace = λ told b begins. c.pace_tells.ensures told rules b begins;
  taken = λ told b begins. c.taken_adds_up.ensures told rules b begins;
}
