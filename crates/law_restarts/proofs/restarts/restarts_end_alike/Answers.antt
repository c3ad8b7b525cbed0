use Rattle.law_restarts.proofs.restarts.restarts_end_alike.Goals as goal
use Rattle.law_restarts.proofs.RestartLaws.{restarts_end}

pub returns : goal.returns
returns g c =
    let x = c.args.restarts.now in
    restarts_end (g.R.Restarts.start x) (g.R.Restarts.times x) (g.R.Restarts.calls x)
    (g.R.Restarts.goes_on x)
