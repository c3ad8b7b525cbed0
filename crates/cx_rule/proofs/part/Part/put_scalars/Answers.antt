use Rattle.std.proofs.Common.{rules, ◌≡◌, ◌∙◌, ◌<◌, sym, arith, length, pos, get_or, SFits, w64}
use Rattle.std.proofs.lemmas.Int.{to_z-of_z}
use Rattle.std.proofs.lemmas.List.Elements.{All-get_or}
use Rattle.cx_plan.specs.declared.item.Touch.{Touch}
use Rattle.cx_rule.specs.Patches.{IsScalar}
use Rattle.cx_rule.specs.Staging.{numbers_staged}
use Rattle.cx_rule.proofs.BufferLaws.{buffer_length}
use Rattle.cx_rule.proofs.CommitLaws.{staged_number}
use Rattle.cx_rule.proofs.CommitSteps.{staged_length}
use Rattle.cx_rule.proofs.PutLaws.{no_touch, scalar_framed, scalars_none, scalars_more, scalars_all}
use Rattle.cx_rule.proofs.part.Part.put_scalars.Goals as goal

pub writes-init : goal.writes-init
writes-init c = scalars_none c.args.self.now c.args.writes.now _

pub number-requires-clause-at : goal.number-requires-clause-at
number-requires-clause-at c =
    let below : c.writes.k < length c.args.staged.now =
    omega (arith, c.writes-test.true, c.requires.writes) in
    rw (buffer_length c.args.self.now.local c.args.staged.now c.requires.buffers c.writes.k below)
    c.requires.place

pub set_scalar-requires : goal.set_scalar-requires
set_scalar-requires c =
    let below : c.writes.k < length c.args.writes.now = omega (arith, c.writes-test.true) in
    scalar_framed c.args.self.now c.writes.self c.writes.invariant.frame _
    (All-get_or (λ (w : Touch). IsScalar c.args.self.now w.var)
    c.args.writes.now c.writes.k no_touch below c.requires.scalars)

pub writes-preserved : goal.writes-preserved
writes-preserved c =
    let ws = c.args.writes.now in
    let ns = numbers_staged c.args.staged.now (length ws) c.args.at in
    let below : c.writes.k < length ws = omega (arith, c.writes-test.true) in
    let long : c.writes.k < length ns =
    omega (
      arith,
      below,
      staged_length c.args.staged.now (length ws)
          c.args.at c.requires.writes,
    ) in
    let r : SFits w64 c.number.result = search rules in
    let n : c.number.result ≡ get_or ns c.writes.k (pos 0) =
    c.number.ensures ∙ sym
    (staged_number c.args.staged.now (length ws) c.args.at c.writes.k (pos 0)
    below c.requires.writes) in
    scalars_more c.args.self.now c.writes.self c.set_scalar.new.self ws ns c.writes.k below long
    c.writes.invariant (rw (to_z-of_z w64 _ r, n) at c.set_scalar.ensures)

pub returns : goal.returns
returns c = scalars_all c.args.self.now c.writes.self c.args.writes.now _ c.writes.k
    (omega (arith, c.writes-test.false)) c.writes.invariant
