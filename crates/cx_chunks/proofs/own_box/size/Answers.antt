use Rattle.std.proofs.Common.{rules, ◌≡◌, ◌++◌, ◌∷◌, []}
use Rattle.cx_grid.specs.Boxes.{extent}
use Rattle.cx_chunks.proofs.StepLaws.{grown_map}
use Rattle.cx_chunks.proofs.own_box.size.Goals as goal

pub directions-preserved : goal.directions-preserved
directions-preserved c =
    let pushed : c.push.new.self
    ≡ c.directions.size ++ extent c.args.own.now c.directions.direction ∷ [] = search rules in
    grown_map (extent c.args.own.now) c.directions.size c.push.new.self
    c.directions.direction c.directions.invariant pushed
