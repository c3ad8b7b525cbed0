use Rattle.cx_run_chunks.proofs.WriteLaws.{file_among}
use Rattle.cx_run_chunks.proofs.files.length_at.Goals as goal

pub length-requires-clause-file : goal.length-requires-clause-file
length-requires-clause-file g c =
    file_among (g.D.Disk.file_count c.args.disk.now) c.args.first c.args.count c.args.place
    c.requires.files c.requires.place
