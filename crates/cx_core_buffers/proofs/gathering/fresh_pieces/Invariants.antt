use Rattle.std.proofs.Common.{◌≡◌, map}
use Rattle.std.specs.List.{range_with_len}
use Rattle.cx_plan.specs.Setups.{setup_of}
use Rattle.cx_core_buffers.specs.Gathering.{fresh_piece}
use Rattle.cx_core_buffers.proofs.gathering.fresh_pieces.Given as goal

abbrev pub invariant-vars : goal.invariant-vars
invariant-vars l = l.pieces.items ≡ map (fresh_piece (setup_of l.job)) (range_with_len 0 l.v)
