use Rattle.std.proofs.Common.{inr}
use Rattle.cx_chunks.specs.declared.fault.ChunkFault.TheVariants.{Bad}
use Rattle.cx_run_chunks.specs.Entries.{pieces_of}
use Rattle.cx_run_chunks.proofs.OutputLaws.{gone, got, pieces_answer, there}
use Rattle.cx_run_chunks.proofs.pieces.pieces_of.Goals as goal

pub returns-in-Some-clause-told : goal.returns-in-Some-clause-told
returns-in-Some-clause-told c =
    there (Bad c.args.part) c.in_ok-found.found (pieces_of c.args.bytes.now)
    c.in-Some.pieces (pieces_answer c.args.bytes.now _ c.in_ok-found.ensures.reads) c.in-Some.is

pub returns-in-Some-clause-pieces : goal.returns-in-Some-clause-pieces
returns-in-Some-clause-pieces c =
    got c.in_ok-found.found (pieces_of c.args.bytes.now) c.in-Some.pieces
    (pieces_answer c.args.bytes.now _ c.in_ok-found.ensures.reads) c.in-Some.is

pub returns-in-None-clause-told : goal.returns-in-None-clause-told
returns-in-None-clause-told c =
    inr (gone (Bad c.args.part) c.in_ok-found.found (pieces_of c.args.bytes.now)
    (pieces_answer c.args.bytes.now _ c.in_ok-found.ensures.reads) c.in-None.is)
