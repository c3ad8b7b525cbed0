use Rattle.std.proofs.Common.{rules, pos, ap, sym, subst, slice_index_or, SFits, w64, to_z-of_z}
use Rattle.std.proofs.lemmas.Result.{on_ok_weaker, on_err_weaker}
use Rattle.cx_rule.specs.Rows.{seen_row, ShowsAlong}
use Rattle.cx_thorn_pde.proofs.RowLaws.{ShowsAround, wave_row, wave_lacks}
use Rattle.cx_thorn_pde.proofs.wave_step.WaveStepRuleRowRule.row.Goals as goal

pub returns-clause-numbers : goal.returns-clause-numbers
returns-clause-numbers c =
    let fits : SFits w64 c.param.result = search rules in
    let before : ShowsAlong (seen_row c.args.row.now) 1 (pos 0) (pos 0)
    c.rows_around-around.result.before =
    subst (λ ns. ShowsAlong (seen_row c.args.row.now) 1 (pos 0) (pos 0) ns)
    (sym c.rows_around-around.ensures.before) c.along.ensures in
    let around : ShowsAround (seen_row c.args.row.now) c.rows_around-around.result =
    record {
      some = c.requires.fits.some;
      dims = c.requires.fits.dims;
      reach = ap (λ rs. slice_index_or rs 0 0) c.requires.fits.reads;
      rows = c.rows_around-around.ensures.rows;
    }
    in
    on_ok_weaker c.next_row.result
    (wave_row (seen_row c.args.row.now) c.param.result c.rows_around-around.result _ _ around
    (ap (λ rs. slice_index_or rs 1 0) c.requires.fits.reads)
    before c.param.ensures c.requires.count)
    (rw (to_z-of_z fits) at c.next_row.ensures.numbers)

pub returns-clause-overflow : goal.returns-clause-overflow
returns-clause-overflow c =
    let fits : SFits w64 c.param.result = search rules in
    let before : ShowsAlong (seen_row c.args.row.now) 1 (pos 0) (pos 0)
    c.rows_around-around.result.before =
    subst (λ ns. ShowsAlong (seen_row c.args.row.now) 1 (pos 0) (pos 0) ns)
    (sym c.rows_around-around.ensures.before) c.along.ensures in
    let around : ShowsAround (seen_row c.args.row.now) c.rows_around-around.result =
    record {
      some = c.requires.fits.some;
      dims = c.requires.fits.dims;
      reach = ap (λ rs. slice_index_or rs 0 0) c.requires.fits.reads;
      rows = c.rows_around-around.ensures.rows;
    }
    in
    on_err_weaker c.next_row.result
    (wave_lacks (seen_row c.args.row.now) c.param.result c.rows_around-around.result _ around
    (ap (λ rs. slice_index_or rs 1 0) c.requires.fits.reads)
    before c.param.ensures c.requires.count)
    (rw (to_z-of_z fits) at c.next_row.ensures.overflow)
