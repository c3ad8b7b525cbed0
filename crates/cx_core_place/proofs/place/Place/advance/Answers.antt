use Rattle.std.proofs.Common.{◌∙◌, sym, ap}
use Rattle.cx_plan.specs.Setups.{setup_of}
use Rattle.cx_plan.specs.Dues.{is_due, is_written}
use Rattle.cx_flat.specs.Flats.{Control}
use Rattle.cx_core_place.proofs.StepLaws.{room-next, room-test, room-turn, room-due, room-written, room-skip, room-open, room-depth, room-turns}
use Rattle.cx_core_place.proofs.place.Place.advance.Goals as goal

pub step-requires : goal.step-requires
step-requires c = room-next c.args.job.now c.args.self.now c.args.op.now
    (record { whole = c.requires.whole; reached = c.requires.reached; here = c.requires.here })

pub step-requires-in-Apply : goal.step-requires-in-Apply
step-requires-in-Apply c =
    room-next c.args.job.now c.args.self.now c.args.op.now
    (record { whole = c.requires.whole; reached = c.requires.reached; here = c.requires.here })

pub step-requires-in-Give : goal.step-requires-in-Give
step-requires-in-Give c =
    room-next c.args.job.now c.args.self.now c.args.op.now
    (record { whole = c.requires.whole; reached = c.requires.reached; here = c.requires.here })

pub step-requires-in-Join : goal.step-requires-in-Join
step-requires-in-Join c =
    room-next c.args.job.now c.args.self.now c.args.op.now
    (record { whole = c.requires.whole; reached = c.requires.reached; here = c.requires.here })

pub step-requires-in-Post : goal.step-requires-in-Post
step-requires-in-Post c =
    room-next c.args.job.now c.args.self.now c.args.op.now
    (record { whole = c.requires.whole; reached = c.requires.reached; here = c.requires.here })

pub step-requires-in-Take : goal.step-requires-in-Take
step-requires-in-Take c =
    room-next c.args.job.now c.args.self.now c.args.op.now
    (record { whole = c.requires.whole; reached = c.requires.reached; here = c.requires.here })

pub test-requires-clause-next : goal.test-requires-clause-next
test-requires-clause-next c =
    room-next c.args.job.now c.args.self.now c.args.op.now
    (record { whole = c.requires.whole; reached = c.requires.reached; here = c.requires.here })

pub test-requires-clause-out : goal.test-requires-clause-out
test-requires-clause-out c =
    room-test c.args.job.now c.args.self.now c.args.op.now
    (record { whole = c.requires.whole; reached = c.requires.reached; here = c.requires.here })
    c.in-Test.field-0 c.in-Test.field-1 c.in-Test.count c.in-Test.is

pub open-requires-clause-room : goal.open-requires-clause-room
open-requires-clause-room c =
    room-open c.args.job.now c.args.self.now c.args.op.now
    (record { whole = c.requires.whole; reached = c.requires.reached; here = c.requires.here })
    c.in-Open.is

pub open-requires-clause-pc : goal.open-requires-clause-pc
open-requires-clause-pc c =
    room-next c.args.job.now c.args.self.now c.args.op.now
    (record { whole = c.requires.whole; reached = c.requires.reached; here = c.requires.here })

pub turn-requires-clause-next : goal.turn-requires-clause-next
turn-requires-clause-next c =
    room-next c.args.job.now c.args.self.now c.args.op.now
    (record { whole = c.requires.whole; reached = c.requires.reached; here = c.requires.here })

pub turn-requires-clause-out : goal.turn-requires-clause-out
turn-requires-clause-out c =
    room-turn c.args.job.now c.args.self.now c.args.op.now
    (record { whole = c.requires.whole; reached = c.requires.reached; here = c.requires.here })
    c.in-Turn.field-0 c.in-Turn.field-1 c.in-Turn.count c.in-Turn.is

pub turn_back-requires-clause-depth : goal.turn_back-requires-clause-depth
turn_back-requires-clause-depth c =
    room-depth c.args.job.now c.args.self.now c.args.op.now
    (record { whole = c.requires.whole; reached = c.requires.reached; here = c.requires.here })

pub turn_back-requires-clause-turns : goal.turn_back-requires-clause-turns
turn_back-requires-clause-turns c =
    room-turns c.args.job.now c.args.self.now c.args.op.now
    (record { whole = c.requires.whole; reached = c.requires.reached; here = c.requires.here })

pub step-requires-in-Rotate : goal.step-requires-in-Rotate
step-requires-in-Rotate c =
    room-next c.args.job.now c.args.self.now c.args.op.now
    (record { whole = c.requires.whole; reached = c.requires.reached; here = c.requires.here })

pub step_or_skip-requires-clause-next : goal.step_or_skip-requires-clause-next
step_or_skip-requires-clause-next c =
    room-next c.args.job.now c.args.self.now c.args.op.now
    (record { whole = c.requires.whole; reached = c.requires.reached; here = c.requires.here })

pub step_or_skip-requires-clause-out : goal.step_or_skip-requires-clause-out
step_or_skip-requires-clause-out c =
    λ off. room-due c.args.job.now c.args.self.now c.args.op.now
    (record { whole = c.requires.whole; reached = c.requires.reached; here = c.requires.here })
    c.in-Due.count c.in-Due.is
    (ap (λ (d : Control). is_due (setup_of c.args.job.now) d.iteration) (sym c.step_or_skip.view_is)
    ∙ sym c.is_due.ensures ∙ off)

pub step_or_skip-requires-in-Written-clause-next : goal.step_or_skip-requires-in-Written-clause-next
step_or_skip-requires-in-Written-clause-next c =
    room-next c.args.job.now c.args.self.now c.args.op.now
    (record { whole = c.requires.whole; reached = c.requires.reached; here = c.requires.here })

pub step_or_skip-requires-in-Written-clause-out : goal.step_or_skip-requires-in-Written-clause-out
step_or_skip-requires-in-Written-clause-out c =
    λ off. room-written c.args.job.now c.args.self.now c.args.op.now
    (record { whole = c.requires.whole; reached = c.requires.reached; here = c.requires.here })
    c.in-Written.count c.in-Written.is
    (ap (λ (d : Control). is_written (setup_of c.args.job.now) d.iteration)
    (sym c.step_or_skip-in-Written.view_is) ∙ sym c.is_written.ensures ∙ off)

pub skip-requires : goal.skip-requires
skip-requires c = room-skip c.args.job.now c.args.self.now c.args.op.now
    (record { whole = c.requires.whole; reached = c.requires.reached; here = c.requires.here })
    c.in-Skip.count c.in-Skip.is

pub iterate-requires : goal.iterate-requires
iterate-requires c = room-next c.args.job.now c.args.self.now c.args.op.now
    (record { whole = c.requires.whole; reached = c.requires.reached; here = c.requires.here })

pub step-requires-in-Piece : goal.step-requires-in-Piece
step-requires-in-Piece c =
    room-next c.args.job.now c.args.self.now c.args.op.now
    (record { whole = c.requires.whole; reached = c.requires.reached; here = c.requires.here })

pub step-requires-in-Save : goal.step-requires-in-Save
step-requires-in-Save c =
    room-next c.args.job.now c.args.self.now c.args.op.now
    (record { whole = c.requires.whole; reached = c.requires.reached; here = c.requires.here })
