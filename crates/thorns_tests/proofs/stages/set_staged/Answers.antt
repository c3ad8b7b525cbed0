use Rattle.thorns_tests.proofs.TrialLaws.{commits_keep}
use Rattle.thorns_tests.proofs.stages.set_staged.Goals as goal

pub returns : goal.returns
returns c = commits_keep c.args.patch.now c.commit.new.self c.args.item.now c.args.zone.now
    c.commit.result c.commit.ensures
