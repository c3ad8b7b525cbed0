use Rattle.std.proofs.Common.{◌∙◌, ◌<◌, ap, sym, arith, length}
use Rattle.std.proofs.lemmas.List.Elements.{All-get_or}
use Rattle.cx_grid.specs.Boxes.{point_count}
use Rattle.cx_plan.specs.declared.item.Touch.{Touch}
use Rattle.cx_rule.specs.Patches.{PatchValue, IsGridLevel}
use Rattle.cx_rule.proofs.BufferLaws.{buffer_length}
use Rattle.cx_rule.proofs.PutLaws.{no_touch, grid_framed, put_none, put_more, put_all}
use Rattle.cx_rule.proofs.RowLaws.{spent_none, spent_more, spent_count}
use Rattle.cx_rule.proofs.part.Part.put_levels.Goals as goal

pub writes-init : goal.writes-init
writes-init c = (
  put_none c.args.self.now c.args.zone.now c.args.staged.now c.args.writes.now,
  spent_none c.args.staged.now,
)

pub put_level-requires-clause-level : goal.put_level-requires-clause-level
put_level-requires-clause-level c =
    let below : c.writes.k < length c.args.writes.now = omega (arith, c.writes-test.true) in
    grid_framed c.args.self.now c.writes.self c.writes.invariant.0.frame _ _
    (All-get_or (λ (w : Touch). IsGridLevel c.args.self.now w.var w.level)
    c.args.writes.now c.writes.k no_touch below c.requires.levels)

pub put_level-requires-clause-buffer : goal.put_level-requires-clause-buffer
put_level-requires-clause-buffer c =
    let n = spent_count c.writes.k c.args.staged.now c.writes.staged c.writes.invariant.1 in
    omega (arith, c.writes-test.true, c.requires.writes, n)

pub put_level-requires-clause-within : goal.put_level-requires-clause-within
put_level-requires-clause-within c =
    let below : c.writes.k < length c.args.staged.now =
    omega (arith, c.writes-test.true, c.requires.writes) in
    ap length (c.writes.invariant.1.later c.writes.k (omega arith))
    ∙ buffer_length c.args.self.now.local c.args.staged.now c.requires.buffers c.writes.k below
    ∙ ap (λ (p : PatchValue). point_count p.local) (sym c.writes.invariant.0.frame)

pub writes-preserved : goal.writes-preserved
writes-preserved c =
    let below : c.writes.k < length c.args.writes.now = omega (arith, c.writes-test.true) in
    let g = All-get_or (λ (w : Touch). IsGridLevel c.args.self.now w.var w.level)
    c.args.writes.now c.writes.k no_touch below c.requires.levels in
    let same = c.writes.invariant.1.later c.writes.k (omega arith) in (
      put_more c.args.self.now c.writes.self c.put_level.new.self c.args.zone.now c.args.staged.now
          c.args.writes.now c.writes.k below
          c.requires.writes c.requires.distinct c.put_level.ensures.patch g c.writes.invariant.0
          (rw same at c.put_level.ensures.value),
      spent_more c.writes.k c.args.staged.now c.writes.staged c.put_level.new.staged
          c.writes.invariant.1 c.put_level.ensures.staged,
    )

pub returns-clause-value : goal.returns-clause-value
returns-clause-value c =
    put_all c.args.self.now c.writes.self c.args.zone.now c.args.staged.now c.args.writes.now
    c.writes.k (omega (arith, c.writes-test.false)) c.writes.invariant.0

pub returns-clause-sizes : goal.returns-clause-sizes
returns-clause-sizes c = c.writes.invariant.1.sizes
