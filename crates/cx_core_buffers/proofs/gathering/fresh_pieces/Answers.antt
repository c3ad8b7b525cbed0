use Rattle.std.proofs.Common.{arith, rules}
use Rattle.std.proofs.lemmas.List.FromFn.{map-range_with_len_more}
use Rattle.cx_plan.specs.Setups.{setup_of}
use Rattle.cx_core_buffers.specs.Gathering.{fresh_piece}
use Rattle.cx_core_buffers.proofs.gathering.fresh_pieces.Goals as goal

pub vars-preserved : goal.vars-preserved
vars-preserved c =
    rw (map-range_with_len_more (fresh_piece (setup_of c.args.job.now)) 0 c.vars.v c.vars.v
    (omega arith)) (search rules)
