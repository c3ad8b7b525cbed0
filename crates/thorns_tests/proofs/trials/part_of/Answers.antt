use Rattle.std.proofs.Common.{arith, ◌<◌, ◌≤◌, ◌∙◌, ap}
use Rattle.cx_grid.specs.Boxes.{point_count}
use Rattle.cx_cut.specs.Cuts.{part_count}
use Rattle.cx_rule.specs.Patches.{PatchValue}
use Rattle.cx_rule.proofs.CutParts.{part_is}
use Rattle.thorns_tests.proofs.TrialLaws.{trial_of}
use Rattle.thorns_tests.proofs.trials.part_of.Goals as goal

pub new-requires : goal.new-requires
new-requires g c =
    let below : c.args.k < part_count c.args.field.now.cut =
    omega (arith, c.if-k-count.false, c.count.ensures.value) in
    rw (c.part-owned.ensures.value, c.local-local.ensures, ← c.requires.field.cut_is)
    (part_is c.args.field.now.cut c.requires.field.whole c.args.k below)

pub returns-clause-trial : goal.returns-clause-trial
returns-clause-trial g c =
    let counted = rw c.local.ensures.value at c.count-2.ensures in
    let few : point_count c.in_ok-patch.patch.local ≤ 1000000 =
    omega (arith, counted, c.if-count-gt1000000.false) in
    trial_of _ c.args.field.now.items _ c.args.field.now.shape c.args.field.now.cut
    c.part-owned.result c.local-local.result c.in_ok-patch.patch _ c.requires.tested
    c.requires.field c.in_ok-vars.ensures c.in_ok-patch.ensures c.fill.ensures few

pub returns-clause-local : goal.returns-clause-local
returns-clause-local g c =
    ap (λ (q : PatchValue). q.local) c.fill.ensures
    ∙ ap (λ (q : PatchValue). q.local) c.in_ok-patch.ensures ∙ c.local-local.ensures
