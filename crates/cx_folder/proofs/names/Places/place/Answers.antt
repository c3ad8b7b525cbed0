use Rattle.std.proofs.Common.{arith, refl}
use Rattle.cx_disk.specs.Disk.{files_in}
use Rattle.cx_folder.proofs.NamesLaws.{high_is}
use Rattle.cx_folder.proofs.names.Places.place.Goals as goal

pub returns : goal.returns
returns c = record {
  place = high_is (files_in c.args.self.now) c.args.file c.total-total.result _
      c.if-file-lt-FIRST_CHUNK.false c.if-file-gt-RECOMBINED.false c.total-total.ensures.all refl;
  within = omega (arith, c.total-total.ensures.each, c.total-total.ensures.all);
  distinct = c.total-total.ensures.distinct;
}
