use Rattle.std.proofs.Common.{◌∙◌, ◌<◌, ◌≤◌, ap, sym, arith, length, refl, List, ℤ, []}
use Rattle.std.specs.Prelude.{slice_index_or}
use Rattle.cx_core_buffers.specs.Checkpoints.{levels_in}
use Rattle.cx_core_buffers.specs.Gathering.{put_all}
use Rattle.law_parts.proofs.FilledLaws.{filled, filled_length}
use Rattle.cx_core_buffers.proofs.CheckpointLaws.{info_is, any_default, before_none, before_room}
use Rattle.cx_core_buffers.proofs.FillLaws.{levels_as}
use Rattle.cx_core_buffers.proofs.PutLaws.{levels_kept, levels_done, levels_points}
use Rattle.cx_core_buffers.proofs.gathering.put_variables.Goals as goal
use Rattle.cx_plan.specs.Whole.{level_count}

pub vars-init : goal.vars-init
vars-init c = (before_none level_count c.args.vars.now, refl)

pub put_levels-requires-clause-room : goal.put_levels-requires-clause-room
put_levels-requires-clause-room c =
    let vars = c.args.vars.now in
    let l : c.vars.v < length vars = omega (arith, c.vars-test.true) in
    let n = c.level_count-levels.ensures
    ∙ ap level_count (sym (info_is vars c.vars.v c.index-vars-v.result l c.index-vars-v.is)) in
    let r = before_room level_count vars c.vars.v l in
    let m = ap length c.vars.invariant.1
    ∙ filled_length c.vars.place
    (put_all c.args.patch.now (levels_in vars c.args.patch.now.numbers) c.args.all.now.items)
    c.args.all.now.items in
    let t = c.requires.room in
    omega (arith, r, m, n, t, c.vars.invariant.0)

pub put_levels-requires-clause-points : goal.put_levels-requires-clause-points
put_levels-requires-clause-points c k d l =
    let vars = c.args.vars.now in
    let p = c.args.patch.now in
    let m = ap length c.vars.invariant.1
    ∙ filled_length c.vars.place (put_all p (levels_in vars p.numbers) c.args.all.now.items)
    c.args.all.now.items in
    let h : k < length c.args.all.now.items = omega (arith, l, m) in
    ap length (any_default c.vars.all.items k d [] l
    ∙ ap (λ (ls : List (List ℤ)). slice_index_or ls k []) c.vars.invariant.1)
    ∙ levels_points p vars (levels_as p c.requires.held vars c.requires.vars)
    c.args.all.now.items c.requires.room c.vars.place k h (c.requires.points k [] h)

pub overflow_add-place : goal.overflow_add-place
overflow_add-place c =
    let vars = c.args.vars.now in
    let l : c.vars.v < length vars = omega (arith, c.vars-test.true) in
    let n = c.level_count-levels.ensures
    ∙ ap level_count (sym (info_is vars c.vars.v c.index-vars-v.result l c.index-vars-v.is)) in
    let r = before_room level_count vars c.vars.v l in
    let t = c.requires.room in
    omega (arith, r, n, t, c.vars.invariant.0, c.args.all.now.small, c.args.all.now.ok.0)

pub vars-preserved : goal.vars-preserved
vars-preserved c =
    let vars = c.args.vars.now in
    let p = c.args.patch.now in
    let l : c.vars.v < length vars = omega (arith, c.vars-test.true) in
    let n = c.level_count-levels.ensures
    ∙ ap level_count (sym (info_is vars c.vars.v c.index-vars-v.result l c.index-vars-v.is)) in
    levels_kept p vars (levels_as p c.requires.held vars c.requires.vars)
    c.args.all.now.items c.requires.room
    c.vars.v c.vars.place c.level_count-levels.result c.vars.all.items c.put_levels.new.all.items l
    c.vars.invariant.0 n c.vars.invariant.1 c.put_levels.ensures

pub returns : goal.returns
returns c =
    let vars = c.args.vars.now in
    let p = c.args.patch.now in
    let l : length vars ≤ c.vars.v = omega (arith, c.vars-test.false) in
    c.vars.invariant.1
    ∙ ap (λ k. filled k (put_all p (levels_in vars p.numbers) c.args.all.now.items)
    c.args.all.now.items) c.vars.invariant.0
    ∙ levels_done p vars (levels_as p c.requires.held vars c.requires.vars)
    c.args.all.now.items c.requires.room c.vars.v l
