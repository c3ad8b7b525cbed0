use Rattle.std.proofs.Common.{◌∙◌, ◌<◌, ◌≤◌, ap, sym, arith, length, refl}
use Rattle.cx_core_buffers.specs.Checkpoints.{scalars_in}
use Rattle.law_parts.proofs.FilledLaws.{filled, filled_length}
use Rattle.cx_core_buffers.proofs.CheckpointLaws.{info_is, before_none, before_room}
use Rattle.cx_core_buffers.proofs.FillLaws.{held_as}
use Rattle.cx_core_buffers.proofs.PutLaws.{scalars_kept, scalars_done}
use Rattle.cx_core_buffers.proofs.gathering.set_scalars.Goals as goal
use Rattle.cx_plan.specs.Whole.{scalar_count}

pub vars-init : goal.vars-init
vars-init c = (before_none scalar_count c.args.vars.now, refl)

pub set_scalar-requires-clause-room : goal.set_scalar-requires-clause-room
set_scalar-requires-clause-room c =
    let vars = c.args.vars.now in
    let l : c.vars.v < length vars = omega (arith, c.vars-test.true) in
    let n = c.scalar_count-numbers.ensures
    ∙ ap scalar_count (sym (info_is vars c.vars.v c.index-vars-v.result l c.index-vars-v.is)) in
    let r = before_room scalar_count vars c.vars.v l in
    let m = ap length c.vars.invariant.1
    ∙ filled_length c.vars.place (scalars_in vars c.args.patch.now.numbers)
    c.args.scalars.now.items in
    let t = c.requires.room in
    omega (arith, r, m, n, t, c.vars.invariant.0)

pub overflow_add-place : goal.overflow_add-place
overflow_add-place c =
    let vars = c.args.vars.now in
    let l : c.vars.v < length vars = omega (arith, c.vars-test.true) in
    let n = c.scalar_count-numbers.ensures
    ∙ ap scalar_count (sym (info_is vars c.vars.v c.index-vars-v.result l c.index-vars-v.is)) in
    let r = before_room scalar_count vars c.vars.v l in
    let t = c.requires.room in
    omega (arith, r, n, t, c.vars.invariant.0, c.args.scalars.now.small, c.args.scalars.now.ok.0)

pub vars-preserved : goal.vars-preserved
vars-preserved c =
    let vars = c.args.vars.now in
    let p = c.args.patch.now in
    let l : c.vars.v < length vars = omega (arith, c.vars-test.true) in
    let n = c.scalar_count-numbers.ensures
    ∙ ap scalar_count (sym (info_is vars c.vars.v c.index-vars-v.result l c.index-vars-v.is)) in
    scalars_kept p vars (held_as p c.requires.held vars c.requires.vars c.requires.one)
    c.args.scalars.now.items c.requires.room
    c.vars.v c.vars.place c.scalar_count-numbers.result c.vars.scalars.items
    c.set_scalar.new.scalars.items l c.vars.invariant.0 n c.vars.invariant.1
    c.set_scalar.ensures

pub returns : goal.returns
returns c =
    let vars = c.args.vars.now in
    let p = c.args.patch.now in
    let l : length vars ≤ c.vars.v = omega (arith, c.vars-test.false) in
    c.vars.invariant.1
    ∙ ap (λ k. filled k (scalars_in vars p.numbers) c.args.scalars.now.items) c.vars.invariant.0
    ∙ scalars_done p vars (held_as p c.requires.held vars c.requires.vars c.requires.one)
    c.args.scalars.now.items c.requires.room c.vars.v l
