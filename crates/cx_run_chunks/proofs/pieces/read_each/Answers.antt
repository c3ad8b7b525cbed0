use Rattle.std.proofs.Common.{◌≡◌, ◌∙◌, ◌++◌, ◌∷◌, [], ap, subst, length, arith}
use Rattle.std.specs.Prelude.{None}
use Rattle.std.proofs.lemmas.List.{length-append}
use Rattle.std.proofs.lemmas.Result.{err_from_is_err_and}
use Rattle.cx_disk.specs.Disk.{Files}
use Rattle.cx_disk.proofs.Moments.{quiet_more}
use Rattle.cx_run_chunks.specs.Commands.{bad, pieces_in}
use Rattle.cx_run_chunks.specs.Faults.{IsFaultOf}
use Rattle.cx_run_chunks.proofs.LoopLaws.{fault_of, grown_map, part_more, part_told, seen_same}
use Rattle.cx_run_chunks.proofs.pieces.read_each.Goals as goal

pub parts-preserved : goal.parts-preserved
parts-preserved g c =
    let first = g.D.Disk.view c.args.disk.now in
    let same : g.D.Disk.tells → (g.D.Disk.view c.parts.disk).seen ≡ first.seen = λ tells.
    seen_same (c.parts.invariant.quiet tells) in
    record {
      mounted = c.read_one.ensures.kept.mounted;
      folders = c.read_one.ensures.kept.folders ∙ c.parts.invariant.folders;
      count = c.read_one.ensures.kept.count ∙ c.parts.invariant.count;
      faults = let a = c.parts.invariant.faults in let b = c.read_one.ensures.kept.cause.later in
          omega arith;
      quiet = λ tells. quiet_more (c.parts.invariant.quiet tells) (c.read_one.ensures.quiet tells);
      told = λ tells. part_more (bad first.seen) c.parts.part c.args.count _ c.parts-test.true
          (subst (λ (files : Files). bad files c.parts.part ≡ None) (same tells)
          (c.in_ok-pieces.ensures.told tells)) (c.parts.invariant.told tells);
      pieces = λ tells.
          let read : c.in_ok-pieces.pieces ≡ pieces_in first.seen c.parts.part =
          subst (λ (files : Files). c.in_ok-pieces.pieces ≡ pieces_in files c.parts.part)
          (same tells) (c.in_ok-pieces.ensures.pieces tells) in
          grown_map (pieces_in first.seen) c.parts.chunks c.push.new.self c.parts.part
          (c.parts.invariant.pieces tells)
          (c.in_ok-push.ensures.ok ∙ ap (λ ps. c.parts.chunks ++ ps ∷ []) read);
      many = let more = ap length c.in_ok-push.ensures.ok in
          let one = length-append c.parts.chunks (c.in_ok-pieces.pieces ∷ []) in
          let was = c.parts.invariant.many in omega arith;
    }

pub returns-in_err-pieces-clause-told : goal.returns-in_err-pieces-clause-told
returns-in_err-pieces-clause-told g c = λ tells.
    let first = g.D.Disk.view c.args.disk.now in
    let p = err_from_is_err_and c.from_residual.result c.from_residual.ensures.1 in
    rw (p.1, p.2) (fault_of (bad first.seen c.parts.part) _ c.in_err-pieces.field-0.0
    (subst (λ (files : Files). IsFaultOf (bad files c.parts.part) c.in_err-pieces.field-0.0)
    (seen_same (c.parts.invariant.quiet tells)) (c.in_err-pieces.ensures.told tells))
    (λ f is. part_told (bad first.seen) c.parts.part c.args.count _ f c.parts-test.true
    (c.parts.invariant.told tells) is))

pub returns-in_err-pieces-clause-quiet : goal.returns-in_err-pieces-clause-quiet
returns-in_err-pieces-clause-quiet g c = λ tells.
    quiet_more (c.parts.invariant.quiet tells) (c.read_one.ensures.quiet tells)

pub returns-in_err-push-clause-quiet : goal.returns-in_err-push-clause-quiet
returns-in_err-push-clause-quiet g c = λ tells.
    quiet_more (c.parts.invariant.quiet tells) (c.read_one.ensures.quiet tells)
