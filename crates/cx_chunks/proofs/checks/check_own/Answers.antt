use Rattle.std.proofs.Common.{rules, ◌≡◌, inr, Some}
use Rattle.std.specs.Prelude.{find}
use Rattle.cx_plan.specs.Setups.{setup_of}
use Rattle.cx_chunks.specs.declared.fault.ChunkFault.TheVariants.{Stranger}
use Rattle.cx_chunks.specs.Combining.{full_of, is_stranger}
use Rattle.cx_chunks.proofs.StepLaws.{told_piece}
use Rattle.cx_chunks.proofs.checks.check_own.Goals as goal

pub returns-in-Some : goal.returns-in-Some
returns-in-Some c =
    let found : find (is_stranger (setup_of c.args.job.now) c.in_ok-own.own) c.args.pieces.now
    ≡ Some c.in-Some.piece.now = search rules in
    let name : c.in_ok-full-in-Some.full ≡ full_of c.in-Some.piece.now = search rules in
    inr (told_piece Stranger c.args.part _ c.in-Some.piece.now c.in_ok-full-in-Some.full
    c.iteration.result (rw c.in_ok-own.ensures at found) name c.iteration.ensures)
