use Rattle.cx_chunks.proofs.ReadLaws.{chunks_are_read}
use Rattle.cx_chunks.proofs.WholeLaws.{pieces_join, owners_count}
use Rattle.cx_chunks.proofs.laws.chunks_are_whole.Goals as goal

pub returns-clause-read : goal.returns-clause-read
returns-clause-read c = chunks_are_read c.args.job.now

pub returns-clause-joined : goal.returns-clause-joined
returns-clause-joined c = pieces_join c.args.job.now c.requires c.printed.ensures.sections

pub returns-clause-owners : goal.returns-clause-owners
returns-clause-owners c = owners_count c.args.job.now
