use Rattle.std.proofs.Common.{◌≡◌, ◌∙◌, [], arith}
use Rattle.std.specs.Prelude.{slice_index_or}
use Rattle.std.proofs.lemmas.List.{get_or_read}
use Rattle.cx_keep.proofs.Writing.{write_crash, write_leaving, write_earlier, write_own}
use Rattle.cx_keep.proofs.renew.write_outputs.Goals as goal

pub each-preserved : goal.each-preserved
each-preserved g c =
    let first = g.D.Disk.view c.args.disk.now in
    let old = g.D.Disk.view c.each.disk in
    let new = g.D.Disk.view c.write_output.new.disk in
    let is : c.as_slice.result.now ≡ slice_index_or c.args.texts.now c.each.output [] =
    c.as_slice.ensures
    ∙ get_or_read c.args.texts.now c.each.output c.index-texts-output.result c.each-test.true
    c.index-texts-output.is [] in
    record {
      mounted = c.write_output.ensures.kept.mounted;
      folders = c.write_output.ensures.kept.folders ∙ c.each.invariant.folders;
      count = c.write_output.ensures.kept.count ∙ c.each.invariant.count;
      faults = let a = c.each.invariant.faults in
          let b = c.write_output.ensures.kept.cause.later in omega arith;
      crash = λ tells. write_crash c.args.texts.now c.each.output c.as_slice.result.now is first
          old new (c.each.invariant.crash tells) (c.write_output.ensures.after tells);
      moments = λ tells. write_leaving c.args.texts.now c.each.output c.as_slice.result.now is
          first old new (c.each.invariant.crash tells) (c.write_output.ensures.after tells)
          (c.each.invariant.moments tells);
      earlier = λ tells. write_earlier c.args.texts.now c.each.output c.as_slice.result.now is
          first old new (c.each.invariant.crash tells) (c.write_output.ensures.after tells)
          (c.each.invariant.earlier tells);
      renewed = λ tells. write_own c.args.texts.now c.each.output c.as_slice.result.now is first
          old new (c.each.invariant.crash tells) (c.write_output.ensures.after tells)
          (c.each.invariant.renewed tells) (c.in_ok-write_output.ensures.done tells);
    }
