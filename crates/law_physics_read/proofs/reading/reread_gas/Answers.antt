use Rattle.cx_plan.specs.Setups.{setup_of}
use Rattle.law_physics.proofs.GasRuns.{amounts, gas_told}
use Rattle.law_physics_read.proofs.ReadLaws.{read_one}
use Rattle.law_physics_read.proofs.reading.reread_gas.Goals as goal

pub returns-clause-particles : goal.returns-clause-particles
returns-clause-particles c = λ rules vars gas same.
    let setup = setup_of c.args.job.now in
    read_one setup rules vars.particles (amounts setup gas.params).number c.reread_output.result
    gas.particles.scalar
    (gas_told setup rules vars c.requires.whole.shape c.requires.periodic
    (c.sound_uses_only_own.ensures rules) gas).particles (c.output_spells.ensures rules)
    (c.reread_output.ensures.each rules vars.particles same)

pub returns-clause-x : goal.returns-clause-x
returns-clause-x c = λ rules vars gas same.
    let setup = setup_of c.args.job.now in
    read_one setup rules vars.total_x (amounts setup gas.params).x c.reread_output.result
    gas.total_x.scalar
    (gas_told setup rules vars c.requires.whole.shape c.requires.periodic
    (c.sound_uses_only_own.ensures rules) gas).total_x (c.output_spells.ensures rules)
    (c.reread_output.ensures.each rules vars.total_x same)

pub returns-clause-y : goal.returns-clause-y
returns-clause-y c = λ rules vars gas same.
    let setup = setup_of c.args.job.now in
    read_one setup rules vars.total_y (amounts setup gas.params).y c.reread_output.result
    gas.total_y.scalar
    (gas_told setup rules vars c.requires.whole.shape c.requires.periodic
    (c.sound_uses_only_own.ensures rules) gas).total_y (c.output_spells.ensures rules)
    (c.reread_output.ensures.each rules vars.total_y same)
