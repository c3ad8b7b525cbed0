use Rattle.std.proofs.Common.{◌∙◌, refl, sym}
use Rattle.std.proofs.lemmas.Result.{err_from_is_err_and}
use Rattle.cx_rule.proofs.BufferLaws.{buffers_kept}
use Rattle.cx_rule.proofs.StageLaws.{cleared_sizes}
use Rattle.cx_rule.proofs.PutLaws.{room_free, buffers_moved}
use Rattle.cx_rule.proofs.RowLaws.{cleared_same}
use Rattle.cx_rule.proofs.patch.Patch.commit.Goals as goal

pub returns-in_err-commit : goal.returns-in_err-commit
returns-in_err-commit c =
    let p = err_from_is_err_and c.from_residual.result c.from_residual.ensures.1 in
    let e = c.in_err-commit.ensures.sets.1 in
    rw (← c.self.view_is, p.1) (
      sym (room_free c.args.item.now.kind c.self.inside.part c.self.inside.staged 0
          c.self.inside.window.room c.args.item.now c.args.zone.now)
          ∙ c.in_err-commit.ensures.sets.0,
      rw (e, c.in_err-commit.ensures.kept) refl,
    )

pub invariant_of-self-2 : goal.invariant_of-self-2
invariant_of-self-2 c =
    let e = c.in_ok-commit.ensures.sets.2 in
    let same = cleared_same c.self.inside.staged c.commit.new.staged c.commit.ensures.sizes in
    rw (e, c.clear.ensures, same)
    (buffers_moved _ _ _ _ (buffers_kept _ _ _ c.self.invariant _ (cleared_sizes _)))

pub returns : goal.returns
returns c =
    let e = c.in_ok-commit.ensures.sets.2 in
    let same = cleared_same c.self.inside.staged c.commit.new.staged c.commit.ensures.sizes in
    rw (← c.self.view_is) (
      c.in_ok-commit.ensures.sets.0,
      sym (room_free c.args.item.now.kind c.self.inside.part c.self.inside.staged 0
          c.self.inside.window.room c.args.item.now c.args.zone.now)
          ∙ c.in_ok-commit.ensures.sets.1,
      rw (e, c.clear.ensures, same) refl,
    )
