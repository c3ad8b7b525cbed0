use Rattle.std.proofs.Common.{◌-◌, sym, ap, subst, ◌∙◌}
use Rattle.std.proofs.Math.ListN.{set}
use Rattle.cx_plan.specs.Setups.{setup_of}
use Rattle.cx_region_flags.proofs.TableLaws.{Rotating, rotating-next, rotating-all}
use Rattle.cx_region_flags.proofs.flag_table.FlagTable.rotate.Goals as goal

pub loop-place-preserved : goal.loop-place-preserved
loop-place-preserved c =
    let setup = setup_of c.args.job.now in
    let first = c.args.self.now in
    let p = c.loop-place.place - 1 in
    let put = c.put.ensures ∙ ap (set c.loop-place.self p) c.newer-flags.ensures in
    subst (λ cells. Rotating setup first cells p) (sym put)
    (rotating-next setup first c.loop-place.self c.loop-place.place c.loop-place-test.true
    c.loop-place.invariant)

pub returns : goal.returns
returns c = rotating-all (setup_of c.args.job.now)
    c.args.self.now c.loop-place.self c.loop-place.place c.loop-place-test.false
    c.loop-place.invariant
