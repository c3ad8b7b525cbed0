use Rattle.std.proofs.Common.{◌≡◌, ◌∙◌, [], length, refl, arith}
use Rattle.std.specs.Prelude.{slice_index_or}
use Rattle.std.proofs.lemmas.List.{get_or_read}
use Rattle.cx_disk.specs.Disk.{NoLonger}
use Rattle.cx_run_chunks.proofs.WriteLaws.{all_own, own_more, writes_more, writes_none}
use Rattle.cx_run_chunks.proofs.writing.write_files.Goals as goal

pub files-init : goal.files-init
files-init g c = record {
  mounted = c.requires.mounted;
  folders = refl;
  count = refl;
  faults = omega arith;
  writes = λ tells. writes_none c.args.first (length c.args.texts.now)
      (g.D.Disk.view c.args.disk.now);
  own = λ tells j lt. absurd (omega arith);
}

pub files-preserved : goal.files-preserved
files-preserved g c =
    let old = g.D.Disk.view c.files.disk in
    let new = g.D.Disk.view c.write_one.new.disk in
    let is : c.as_slice.result.now ≡ slice_index_or c.args.texts.now c.files.place [] =
    c.as_slice.ensures
    ∙ get_or_read c.args.texts.now c.files.place c.index-texts-place.result c.files-test.true
    c.index-texts-place.is [] in
    record {
      mounted = c.write_one.ensures.kept.mounted;
      folders = c.write_one.ensures.kept.folders ∙ c.files.invariant.folders;
      count = c.write_one.ensures.kept.count ∙ c.files.invariant.count;
      faults = let a = c.files.invariant.faults in let b = c.write_one.ensures.kept.cause.later in
          omega arith;
      writes = λ tells. writes_more (NoLonger (length c.as_slice.result.now)) c.args.first
          (length c.args.texts.now) c.files.place (g.D.Disk.view c.args.disk.now) old new
          c.files-test.true (c.files.invariant.writes tells)
          (c.write_one.ensures.after tells);
      own = λ tells. own_more (NoLonger (length c.as_slice.result.now)) c.args.first
          c.args.texts.now c.files.place c.as_slice.result.now old new is
          (c.files.invariant.own tells) (c.write_one.ensures.after tells)
          (c.in_ok-write_one.ensures.done tells);
    }

pub returns-in_err-write_one-clause-writes : goal.returns-in_err-write_one-clause-writes
returns-in_err-write_one-clause-writes g c = λ tells.
    writes_more (NoLonger (length c.as_slice.result.now)) c.args.first
    (length c.args.texts.now) c.files.place (g.D.Disk.view c.args.disk.now)
    (g.D.Disk.view c.files.disk)
    (g.D.Disk.view c.write_one.new.disk) c.files-test.true (c.files.invariant.writes tells)
    (c.write_one.ensures.after tells)

pub returns-clause-written : goal.returns-clause-written
returns-clause-written g c = λ tells.
    let over = c.files-test.false in
    all_own c.args.first c.args.texts.now (g.D.Disk.view c.files.disk) c.files.place
    (omega arith) (c.files.invariant.own tells)
