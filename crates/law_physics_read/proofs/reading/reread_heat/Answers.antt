use Rattle.cx_plan.specs.Setups.{setup_of}
use Rattle.law_physics.proofs.HeatRuns.{heat_sum, heat_told}
use Rattle.law_physics_read.proofs.ReadLaws.{read_one}
use Rattle.law_physics_read.proofs.reading.reread_heat.Goals as goal

pub returns : goal.returns
returns c = λ rules u mask total heat same.
    let setup = setup_of c.args.job.now in
    read_one setup rules total (heat_sum setup heat.params) c.reread_output.result heat.sum.scalar
    (heat_told setup rules u mask total c.requires.whole.shape c.requires.shapes
    (c.sound_uses_only_own.ensures rules) heat) (c.output_spells.ensures rules)
    (c.reread_output.ensures.each rules total same)
