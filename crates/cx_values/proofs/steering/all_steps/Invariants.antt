use Rattle.std.proofs.Common.{◌≡◌, take, drop}
use Rattle.std.specs.List.{flat_map}
use Rattle.cx_bind.specs.NamePlaces.{place_of}
use Rattle.cx_values.specs.Steering.{lines_fault, step_by}
use Rattle.cx_values.proofs.steering.all_steps.Given as goal

abbrev pub invariant-lines : goal.invariant-lines
invariant-lines l = record {
  steps : l.steps ≡ flat_map (step_by l.params (place_of l.names)) (take l.line-index l.lines);
  left : lines_fault l.params (place_of l.names) l.dues l.before (drop l.line-index l.lines)
      ≡ lines_fault l.params (place_of l.names) l.dues 0 l.lines;
}
