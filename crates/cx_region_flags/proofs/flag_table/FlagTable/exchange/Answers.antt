use Rattle.std.proofs.Common.{◌+◌, drop}
use Rattle.std.proofs.lemmas.List.{drop_more, drop_all}
use Rattle.cx_plan.specs.Regions.{exchanged}
use Rattle.cx_region_flags.proofs.TableLaws.{passed-next, passed-all, exchanges-run}
use Rattle.cx_region_flags.proofs.flag_table.FlagTable.exchange.Goals as goal

pub variables-preserved : goal.variables-preserved
variables-preserved c =
    let all = c.args.variables.now in
    let i = c.variables.variable-index in
    passed-next exchanged c.args.self.now c.variables.self c.exchange_one.new.self all (drop i all)
    (drop (i + 1) all) _ exchanges-run (drop_more all i _ c.variables-test.true)
    c.exchange_one.ensures c.variables.invariant

pub returns : goal.returns
returns c =
    let all = c.args.variables.now in
    let i = c.variables.variable-index in
    passed-all exchanged c.args.self.now c.variables.self all (drop i all) exchanges-run
    (drop_all i all c.variables-test.false) c.variables.invariant
