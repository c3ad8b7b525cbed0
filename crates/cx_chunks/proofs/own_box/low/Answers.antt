use Rattle.std.proofs.Common.{rules, ◌≡◌, ◌++◌, ◌∷◌, [], unsigned_abs}
use Rattle.cx_grid.specs.Boxes.{along}
use Rattle.cx_chunks.proofs.StepLaws.{grown_map}
use Rattle.cx_chunks.proofs.own_box.low.Goals as goal

pub directions-preserved : goal.directions-preserved
directions-preserved c =
    let pushed : c.push.new.self
    ≡ c.directions.low ++ unsigned_abs (along c.args.own.now.low c.directions.direction) ∷ [] =
    search rules in
    grown_map (λ d. unsigned_abs (along c.args.own.now.low d)) c.directions.low c.push.new.self
    c.directions.direction c.directions.invariant pushed
