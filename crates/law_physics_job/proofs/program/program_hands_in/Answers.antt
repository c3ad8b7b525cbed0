use Rattle.law_physics_job.proofs.Handed.{program_heat, program_gas}
use Rattle.law_physics_job.proofs.program.program_hands_in.Goals as goal

pub returns-clause-heat : goal.returns-clause-heat
returns-clause-heat c = program_heat

pub returns-clause-gas : goal.returns-clause-gas
returns-clause-gas c = program_gas
