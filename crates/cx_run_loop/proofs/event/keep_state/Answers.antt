use Rattle.std.proofs.Common.{◌∙◌, sym, subst}
use Rattle.cx_chk.specs.Encoding.{IsCheckpoint}
use Rattle.cx_chk.specs.declared.checkpoint.Checkpoint.{Checkpoint}
use Rattle.cx_keep.specs.Keeping.{SaveStands}
use Rattle.cx_run_loop.specs.Numbers.{AreNumbers}
use Rattle.cx_run_loop.proofs.NumberLaws.{is_checkpoint}
use Rattle.cx_run_loop.proofs.event.keep_state.Goals as goal

pub save-requires-clause-fits : goal.save-requires-clause-fits
save-requires-clause-fits g c =
    subst (λ (k : Checkpoint). IsCheckpoint k) (sym c.state-state.ensures)
    (is_checkpoint c.args.job.now c.requires.whole c.requires.short c.args.core.now.buffers
    c.requires.behind.leaves.1 (c.requires.behind.key ∙ c.requires.behind.kept.key)
    (subst (λ (k : Checkpoint). AreNumbers k) c.state-state.ensures c.numbers_fit.ensures))

pub returns-clause-keeps : goal.returns-clause-keeps
returns-clause-keeps g c = λ t. (
  c.in_ok-save.ensures.outputs t,
  subst (λ (k : Checkpoint).
      SaveStands k (g.D.Disk.view c.args.disk.now) (g.D.Disk.view c.save.new.disk))
      c.state-state.ensures (c.in_ok-save.ensures.stands t),
)
