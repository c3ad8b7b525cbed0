use Rattle.std.proofs.Common.{rules, ◌≡◌, ◌++◌, ◌∷◌, [], unsigned_abs}
use Rattle.cx_grid.specs.Boxes.{along}
use Rattle.cx_run_chunks.proofs.LoopLaws.{grown_map}
use Rattle.cx_run_chunks.proofs.outputs.grid_sizes.Goals as goal

pub directions-preserved : goal.directions-preserved
directions-preserved c =
    let pushed : c.push.new.self ≡ c.directions.sizes
    ++ unsigned_abs (along c.args.shape.now.n c.directions.direction) ∷ [] =
    search rules in
    grown_map (λ d. unsigned_abs (along c.args.shape.now.n d)) c.directions.sizes c.push.new.self
    c.directions.direction c.directions.invariant pushed
