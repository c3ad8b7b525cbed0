use Rattle.cx_plan.specs.Setups.{setup_of}
use Rattle.cx_core_buffers.proofs.FillLaws.{ScatteredTo}
use Rattle.cx_core_buffers.proofs.scattering.scatter.Given as goal

abbrev pub invariant-vars : goal.invariant-vars
invariant-vars l = ScatteredTo (setup_of l.job)
    l.checkpoint l.initial.patch l.patch l.scalars l.levels l.v
