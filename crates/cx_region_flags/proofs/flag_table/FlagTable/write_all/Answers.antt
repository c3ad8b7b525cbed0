use Rattle.std.proofs.Common.{◌+◌, drop}
use Rattle.std.proofs.lemmas.List.{drop_more, drop_all}
use Rattle.cx_plan.specs.Setups.{setup_of}
use Rattle.cx_plan.specs.Regions.{all_written}
use Rattle.cx_region_flags.proofs.TableLaws.{passed-next, passed-all, writes-run}
use Rattle.cx_region_flags.proofs.flag_table.FlagTable.write_all.Goals as goal

pub writes-preserved : goal.writes-preserved
writes-preserved c =
    let all = c.args.writes.now in
    let i = c.writes.write-index in
    passed-next (all_written (setup_of c.args.job.now))
    c.args.self.now c.writes.self c.write.new.self all (drop i all) (drop (i + 1) all) _
    (writes-run (setup_of c.args.job.now)) (drop_more all i _ c.writes-test.true)
    c.write.ensures c.writes.invariant

pub returns : goal.returns
returns c =
    let all = c.args.writes.now in
    let i = c.writes.write-index in
    passed-all (all_written (setup_of c.args.job.now)) c.args.self.now c.writes.self all
    (drop i all) (writes-run (setup_of c.args.job.now)) (drop_all i all c.writes-test.false)
    c.writes.invariant
