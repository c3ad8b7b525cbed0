use Rattle.cx_run_chunks.proofs.WriteLaws.{file_among}
use Rattle.cx_run_chunks.proofs.writing.write_one.Goals as goal

pub rewrite-requires-clause-file : goal.rewrite-requires-clause-file
rewrite-requires-clause-file g c =
    file_among (g.D.Disk.file_count c.args.disk.now) c.args.first c.args.count c.args.place
    c.requires.files c.requires.place
