use Rattle.std.proofs.Common.{map, inr, refl}
use Rattle.cx_plan.specs.Setups.{setup_of}
use Rattle.cx_plan.specs.Steering.{item_at}
use Rattle.cx_rule.specs.Routine.{rule_at}
use Rattle.cx_flat.specs.declared.op.Op.TheVariants.{Apply}
use Rattle.cx_core_part.proofs.FrameLaws.{names_well, is_known, can_turn, turns_at}
use Rattle.cx_core_part.proofs.TurnLaws.{turn_keeps, rose_within, apply_computes}
use Rattle.cx_core_part.proofs.items.apply.Goals as goal

pub turn-requires-clause-item : goal.turn-requires-clause-item
turn-requires-clause-item g c =
    (names_well c.args.job.now c.requires.job (Apply c.args.item) c.requires.operation).0.0

pub turn-requires-clause-can : goal.turn-requires-clause-can
turn-requires-clause-can g c =
    turns_at (setup_of c.args.job.now) _ c.args.item c.args.iteration c.args.patch.now
    (can_turn c.args.job.now c.requires.job c.args.patch.now c.requires.patch c.args.item
    (is_known c.args.job.now c.requires.job (Apply c.args.item) c.requires.operation) _
    c.requires.routines c.requires.cut
    (inr (names_well c.args.job.now c.requires.job (Apply c.args.item) c.requires.operation).1))

pub returns-clause-frame : goal.returns-clause-frame
returns-clause-frame g c =
    let rules = map (λ r. (goal.Routine-dyn g (r.vtable, r.value)).rule r.value)
    c.args.routines.now in
    let x = item_at (setup_of c.args.job.now) c.args.item c.args.iteration in
    turn_keeps c.args.patch.now c.turn.new.patch (rule_at rules x.routine)
    x c.args.iteration c.args.meter.now c.turn.new.meter c.turn.result c.turn.ensures

pub returns-clause-numbers : goal.returns-clause-numbers
returns-clause-numbers g c = λ r k run by patch.
    apply_computes c.args.job.now _ c.args.item c.args.iteration c.args.patch.now c.turn.new.patch
    c.args.meter.now c.turn.new.meter c.turn.result c.turn.ensures r k run by patch
    (names_well c.args.job.now c.requires.job (Apply c.args.item) c.requires.operation).0.1
    (names_well c.args.job.now c.requires.job (Apply c.args.item) c.requires.operation).1

-- the points are those of the run by any rules
pub returns-clause-rises : goal.returns-clause-rises
returns-clause-rises g c = λ r k of patch.
    let rules = map (λ x. (goal.Routine-dyn g (x.vtable, x.value)).rule x.value)
    c.args.routines.now in
    rose_within (record r { rules = rules }) k (Apply c.args.item) c.args.iteration
    c.args.patch.now.numbers c.turn.new.patch.numbers c.args.meter.now c.turn.new.meter
    c.turn.result
    (returns-clause-numbers g c (record r { rules = rules }) k
    (record { setup = of.setup; cuts = of.cuts }) refl patch)
