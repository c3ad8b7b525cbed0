use Rattle.std.proofs.Common.{◌∙◌, ◌<◌, ◌≤◌, ap, sym, arith, length, List}
use Rattle.cx_plan.specs.declared.variable.VarInfo.{VarInfo}
use Rattle.cx_plan.specs.Setups.{setup_of}
use Rattle.cx_core_buffers.proofs.CheckpointLaws.{info, info_is}
use Rattle.cx_core_buffers.proofs.FillLaws.{scattered_none, scattered_more, scattered_all, scalars_room, levels_room, scalars_small, levels_small}
use Rattle.cx_core_buffers.proofs.scattering.scatter.Goals as goal
use Rattle.cx_plan.specs.Whole.{scalar_count, level_count}

pub vars-init : goal.vars-init
vars-init c = scattered_none (setup_of c.args.job.now) c.args.checkpoint.now c.args.patch.now

pub fill_scalar-requires-clause-there : goal.fill_scalar-requires-clause-there
fill_scalar-requires-clause-there c =
    let job = c.args.job.now in
    let vs = c.as_slice-vars.result.now in
    let l : c.vars.v < length vs = omega (arith, c.vars-test.true) in
    let m : c.vars.v < length job.vars = let e = ap length c.as_slice-vars.ensures in
    omega (arith, e, l) in
    let a = c.scalar_count-number.ensures
    ∙ ap scalar_count (sym (info_is vs c.vars.v c.index-vars-v.result l c.index-vars-v.is))
    ∙ ap (λ (xs : List VarInfo). scalar_count (info xs c.vars.v)) c.as_slice-vars.ensures in
    let long = ap length c.as_slice.ensures in
    let r = scalars_room (setup_of job)
    c.args.checkpoint.now c.requires.state c.vars.scalars c.scalar_count-number.result c.vars.v
    m c.vars.invariant.scalars_are a in
    omega (arith, r, long)

pub fill_levels-requires-clause-there : goal.fill_levels-requires-clause-there
fill_levels-requires-clause-there c =
    let job = c.args.job.now in
    let vs = c.as_slice-vars.result.now in
    let l : c.vars.v < length vs = omega (arith, c.vars-test.true) in
    let m : c.vars.v < length job.vars = let e = ap length c.as_slice-vars.ensures in
    omega (arith, e, l) in
    let b = c.level_count-stored.ensures
    ∙ ap level_count
    (sym (info_is vs c.vars.v c.index-vars-v-in-vars.result l c.index-vars-v-in-vars.is))
    ∙ ap (λ (xs : List VarInfo). level_count (info xs c.vars.v)) c.as_slice-vars.ensures in
    let long = ap length c.as_slice-in-vars.ensures in
    let r = levels_room (setup_of job)
    c.args.checkpoint.now c.requires.state c.vars.levels c.level_count-stored.result c.vars.v m
    c.vars.invariant.levels_are b in
    omega (arith, r, long)

pub overflow_add-scalars : goal.overflow_add-scalars
overflow_add-scalars c =
    let job = c.args.job.now in
    let vs = c.as_slice-vars.result.now in
    let l : c.vars.v < length vs = omega (arith, c.vars-test.true) in
    let m : c.vars.v < length job.vars = let e = ap length c.as_slice-vars.ensures in
    omega (arith, e, l) in
    let a = c.scalar_count-number.ensures
    ∙ ap scalar_count (sym (info_is vs c.vars.v c.index-vars-v.result l c.index-vars-v.is))
    ∙ ap (λ (xs : List VarInfo). scalar_count (info xs c.vars.v)) c.as_slice-vars.ensures in
    let r = scalars_small job.vars c.requires.whole.variables_limit c.requires.whole.levels_limit
    c.vars.scalars c.scalar_count-number.result c.vars.v m c.vars.invariant.scalars_are a in
    omega (arith, r)

pub overflow_add-levels : goal.overflow_add-levels
overflow_add-levels c =
    let job = c.args.job.now in
    let vs = c.as_slice-vars.result.now in
    let l : c.vars.v < length vs = omega (arith, c.vars-test.true) in
    let m : c.vars.v < length job.vars = let e = ap length c.as_slice-vars.ensures in
    omega (arith, e, l) in
    let b = c.level_count-stored.ensures
    ∙ ap level_count
    (sym (info_is vs c.vars.v c.index-vars-v-in-vars.result l c.index-vars-v-in-vars.is))
    ∙ ap (λ (xs : List VarInfo). level_count (info xs c.vars.v)) c.as_slice-vars.ensures in
    let r = levels_small job.vars c.requires.whole.variables_limit c.requires.whole.levels_limit
    c.vars.levels c.level_count-stored.result c.vars.v m c.vars.invariant.levels_are b in
    omega (arith, r)

pub vars-preserved : goal.vars-preserved
vars-preserved c =
    let job = c.args.job.now in
    let vs = c.as_slice-vars.result.now in
    let l : c.vars.v < length vs = omega (arith, c.vars-test.true) in
    let m : c.vars.v < length job.vars = let e = ap length c.as_slice-vars.ensures in
    omega (arith, e, l) in
    let a = c.scalar_count-number.ensures
    ∙ ap scalar_count (sym (info_is vs c.vars.v c.index-vars-v.result l c.index-vars-v.is))
    ∙ ap (λ (xs : List VarInfo). scalar_count (info xs c.vars.v)) c.as_slice-vars.ensures in
    let b = c.level_count-stored.ensures
    ∙ ap level_count
    (sym (info_is vs c.vars.v c.index-vars-v-in-vars.result l c.index-vars-v-in-vars.is))
    ∙ ap (λ (xs : List VarInfo). level_count (info xs c.vars.v)) c.as_slice-vars.ensures in
    let e = rw c.as_slice.ensures at c.fill_scalar.ensures in
    let f = rw c.as_slice-in-vars.ensures at c.fill_levels.ensures in
    scattered_more (setup_of job)
    c.args.checkpoint.now c.requires.state c.args.patch.now c.local.ensures.patch
    c.requires.patch.shape c.requires.patch.vars c.requires.whole.one_level
    c.vars.patch c.fill_scalar.new.patch c.fill_levels.new.patch c.vars.scalars c.vars.levels
    c.vars.v c.scalar_count-number.result c.level_count-stored.result m a b c.vars.invariant e f

pub returns : goal.returns
returns c =
    let job = c.args.job.now in
    let m : length job.vars ≤ c.vars.v = let e = ap length c.as_slice-vars.ensures in
    omega (arith, e, c.vars-test.false) in
    scattered_all (setup_of job)
    c.args.checkpoint.now c.requires.state c.args.patch.now c.local.ensures.patch
    c.requires.patch.shape c.requires.patch.vars c.requires.whole.one_level
    c.vars.patch c.vars.scalars c.vars.levels c.vars.v m c.vars.invariant
