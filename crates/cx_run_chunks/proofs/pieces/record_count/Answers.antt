use Rattle.std.proofs.Common.{◌∙◌, ap, length}
use Rattle.cx_plan.specs.declared.variable.VarInfo.{VarInfo}
use Rattle.cx_plan.specs.Lookups.{variable}
use Rattle.cx_plan.specs.Setups.{setup_of}
use Rattle.cx_chunks.specs.Combining.{iterations_of}
use Rattle.cx_run_chunks.proofs.LoopLaws.{sum_next}
use Rattle.cx_run_chunks.proofs.pieces.record_count.Goals as goal

pub outputs-preserved : goal.outputs-preserved
outputs-preserved c =
    sum_next (λ v. iterations_of c.args.chunks.now (variable (setup_of c.args.job.now) v).full)
    c.args.job.now.out_vars c.as_slice-v-items.result.now c.outputs.v-index _ c.len.result
    c.outputs.count c.saturating_add-count.result c.as_slice-v-items.ensures c.outputs-test.true
    c.outputs.invariant
    (c.len.ensures ∙ c.in_ok-each.each.ok.0 ∙ ap length (c.in_ok-each.ensures
    ∙ ap (λ (i : VarInfo). iterations_of c.args.chunks.now i.full) c.info_of.ensures))
    c.saturating_add-count.ensures
