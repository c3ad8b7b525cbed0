use Rattle.std.proofs.Common.{◌∙◌, refl, sym, length}
use Rattle.cx_rule.specs.Patches.{with_buffers, setup_in}
use Rattle.cx_rule.specs.Staging.{levels_put}
use Rattle.cx_rule.proofs.PutLaws.{levels_some, levels_none}
use Rattle.cx_rule.proofs.RowLaws.{levels_tested}
use Rattle.cx_rule.proofs.part.Part.commit_levels.Goals as goal

pub returns-then-not-fit-clause-sets : goal.returns-then-not-fit-clause-sets
returns-then-not-fit-clause-sets c =
    let p = with_buffers c.args.self.now c.args.staged.now 0 in
    let x = c.args.item.now in
    let fit = rw c.as_slice.ensures at c.fit.ensures.value in
    let e = sym c.if-not-fit.true ∙ fit
    ∙ levels_tested (setup_in p) p.local c.args.zone.now x.writes p.staged c.requires.writes in
    (levels_none p x c.args.zone.now e, refl)

pub returns-clause-sets : goal.returns-clause-sets
returns-clause-sets c =
    let p = with_buffers c.args.self.now c.args.staged.now 0 in
    let x = c.args.item.now in
    let fit = rw c.as_slice.ensures at c.fit.ensures.value in
    let e = sym c.if-not-fit.false ∙ fit
    ∙ levels_tested (setup_in p) p.local c.args.zone.now x.writes p.staged c.requires.writes in (
      levels_put p c.args.zone.now c.args.staged.now (length x.writes)
          0 x.writes c.args.self.now.numbers,
      levels_some p x c.args.zone.now e,
      rw (c.as_slice-2.ensures, c.fit.ensures.same) at c.put_levels.ensures.value,
    )
