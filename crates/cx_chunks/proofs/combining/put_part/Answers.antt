use Rattle.std.proofs.Common.{◌≡◌, ◌∙◌, ◌+◌, ◌-◌, ◌<◌, ◌≤◌, arith, ap}
use Rattle.std.specs.Prelude.{option_copied}
use Rattle.cx_grid.specs.Boxes.{point_count, index_in, point_in}
use Rattle.cx_chunks.specs.Combining.{found_values}
use Rattle.cx_chunks.proofs.JoinLaws.{all_put, rest_kept}
use Rattle.cx_chunks.proofs.RowPlaces.{row_is, row_start, row_room, put_more}
use Rattle.cx_chunks.proofs.combining.put_part.Goals as goal

pub put_run-requires : goal.put_run-requires
put_run-requires c =
    let all = c.args.all.now in
    let own = c.args.own.now in
    let below : c.rows.from < point_count own =
    omega (arith, c.count-end.ensures, c.rows-test.true) in
    let place : c.index_of.result ≡ index_in all (point_in own c.rows.from) =
    c.index_of.ensures.value ∙ ap (index_in all) c.point_at.ensures.value in
    let room = row_room all own (found_values (option_copied c.args.piece)) c.args.level.now.items c.rows.level.items
    c.requires.inside c.rows.from c.rows.invariant.start below in
    let count = c.rows.invariant.put.count in
    let width = c.points_along-width.ensures in
    omega (arith, room, place, count, width)

pub rows-smaller : goal.rows-smaller
rows-smaller c =
    let below : c.rows.from < point_count c.args.own.now =
    omega (arith, c.count-end.ensures, c.rows-test.true) in
    let some = (row_is c.args.own.now c.rows.from c.rows.invariant.start below).some in
    let width = c.points_along-width.ensures in
    let less : c.count-end.result - (c.rows.from + c.points_along-width.result)
    < c.count-end.result - c.rows.from = omega (arith, some, width, c.rows-test.true) in
    less

pub rows-preserved : goal.rows-preserved
rows-preserved c =
    let all = c.args.all.now in
    let own = c.args.own.now in
    let values = found_values (option_copied c.args.piece) in
    let width = c.points_along-width.result in
    let below : c.rows.from < point_count own =
    omega (arith, c.count-end.ensures, c.rows-test.true) in
    let place : c.index_of.result ≡ index_in all (point_in own c.rows.from) =
    c.index_of.ensures.value ∙ ap (index_in all) c.point_at.ensures.value in
    record {
      put = put_more all own values c.args.level.now.items c.rows.level.items
          c.put_run.new.level.items c.requires.inside c.rows.from width
          c.index_of.result c.rows.invariant.start below c.rows.invariant.put
          c.points_along-width.ensures place c.put_run.ensures;
      start = row_start own c.rows.from width c.points_along-width.ensures
          c.rows.invariant.start below;
    }

pub returns-clause-own : goal.returns-clause-own
returns-clause-own c =
    let end : point_count c.args.own.now ≤ c.rows.from =
    omega (arith, c.count-end.ensures, c.rows-test.false) in
    all_put c.args.all.now c.args.own.now (found_values (option_copied c.args.piece)) c.args.level.now.items c.requires.inside
    c.rows.from c.rows.level.items end c.rows.invariant.put

pub returns-clause-others : goal.returns-clause-others
returns-clause-others c =
    rest_kept c.args.all.now c.args.own.now (found_values (option_copied c.args.piece)) c.args.level.now.items
    c.requires.inside c.rows.from c.rows.level.items c.rows.invariant.put
