use Rattle.std.proofs.Common.{◌≡◌, rules, sym, subst}
use Rattle.cx_run_batch.specs.Members.{AreServed, AreWaiting, HaveWires}
use Rattle.cx_several.proofs.RunLaws.{all_served, all_waiting, all_wired}
use Rattle.cx_several.proofs.members.run_members.Goals as goal

pub run_all-requires-clause-waiting : goal.run_all-requires-clause-waiting
run_all-requires-clause-waiting g c =
    let same : c.deref_mut.result.now ≡ c.args.members.items = search rules in
    subst AreWaiting (sym same) (all_waiting _ c.args.members.items c.requires.runnable)

pub run_all-requires-clause-served : goal.run_all-requires-clause-served
run_all-requires-clause-served g c =
    let same : c.deref_mut.result.now ≡ c.args.members.items = search rules in
    subst (AreServed _) (sym same) (all_served _ c.args.members.items c.requires.runnable)

pub run_all-requires-clause-wires : goal.run_all-requires-clause-wires
run_all-requires-clause-wires g c =
    let same : c.deref_mut.result.now ≡ c.args.members.items = search rules in
    subst (λ ms. HaveWires g.W.Wire ms c.args.wires.now) (sym same)
    (all_wired g.W.Wire _ c.args.members.items c.args.wires.now c.requires.runnable
    c.requires.empty c.requires.wires)
