use Rattle.std.proofs.Common.{rules, ap, slice_index_or, SFits, w64, to_z-of_z}
use Rattle.std.proofs.lemmas.Result.{on_ok_weaker, on_err_weaker}
use Rattle.cx_rule.specs.Rows.{seen_row}
use Rattle.cx_thorn_physics.proofs.HeatRows.{ShowsHeat, heat_row, heat_lacks}
use Rattle.cx_thorn_physics.proofs.heat_step.HeatStepRuleRowRule.row.Goals as goal

pub returns-clause-numbers : goal.returns-clause-numbers
returns-clause-numbers c =
    let fits : SFits w64 c.param.result = search rules in
    let around : ShowsHeat (seen_row c.args.row.now) c.rows_around-heat.result
    c.rows_around-mask.result =
    record {
      some = c.requires.fits.some;
      dims = c.requires.fits.dims;
      reach = ap (λ rs. slice_index_or rs 0 0) c.requires.fits.reads;
      mask_reach = ap (λ rs. slice_index_or rs 1 0) c.requires.fits.reads;
      heat = c.rows_around-heat.ensures.rows;
      mask = c.rows_around-mask.ensures.rows;
    }
    in
    on_ok_weaker c.next_row.result
    (heat_row (seen_row c.args.row.now) c.param.result c.rows_around-heat.result
    c.rows_around-mask.result _ _ around c.param.ensures c.requires.count)
    (rw (to_z-of_z fits) at c.next_row.ensures.numbers)

pub returns-clause-overflow : goal.returns-clause-overflow
returns-clause-overflow c =
    let fits : SFits w64 c.param.result = search rules in
    let around : ShowsHeat (seen_row c.args.row.now) c.rows_around-heat.result
    c.rows_around-mask.result =
    record {
      some = c.requires.fits.some;
      dims = c.requires.fits.dims;
      reach = ap (λ rs. slice_index_or rs 0 0) c.requires.fits.reads;
      mask_reach = ap (λ rs. slice_index_or rs 1 0) c.requires.fits.reads;
      heat = c.rows_around-heat.ensures.rows;
      mask = c.rows_around-mask.ensures.rows;
    }
    in
    on_err_weaker c.next_row.result
    (heat_lacks (seen_row c.args.row.now) c.param.result c.rows_around-heat.result
    c.rows_around-mask.result _ around c.param.ensures c.requires.count)
    (rw (to_z-of_z fits) at c.next_row.ensures.overflow)
