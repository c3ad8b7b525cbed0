use Rattle.std.proofs.Common.{rules, ◌≡◌, ◌∙◌, ◌<◌, arith, ap, sym, subst}
use Rattle.cx_grid.specs.declared.boxes.Box3.{Box3}
use Rattle.cx_grid.specs.declared.shapes.Shape.{Shape}
use Rattle.cx_grid.specs.Boxes.{IsBox, IsIn, IsSmall, extent, point_count, index_in, point_in}
use Rattle.cx_grid.specs.Grid.{whole}
use Rattle.cx_cut.specs.Cuts.{owned}
use Rattle.cx_chunks.proofs.OwnLaws.{own_is_box, own_small, own_inside}
use Rattle.cx_chunks.specs.Rows.{values_from}
use Rattle.cx_chunks.specs.Cutting.{own_values}
use Rattle.cx_chunks.proofs.RowPlaces.{row_is, row_start}
use Rattle.cx_chunks.proofs.RowTexts.{row_added, rows_are}
use Rattle.cx_chunks.proofs.cutting.push_own_rows.Goals as goal

pub points_along-width-requires : goal.points_along-width-requires
points_along-width-requires c =
    subst (λ (b : Box3). IsBox b) (sym c.part-own.ensures.value)
    (own_is_box c.args.cut.now c.args.part)

pub count-end-requires-clause-ordered : goal.count-end-requires-clause-ordered
count-end-requires-clause-ordered c =
    subst (λ (b : Box3). IsBox b) (sym c.part-own.ensures.value)
    (own_is_box c.args.cut.now c.args.part)

pub count-end-requires-clause-small : goal.count-end-requires-clause-small
count-end-requires-clause-small c =
    subst (λ (b : Box3). IsSmall b) (sym c.part-own.ensures.value)
    (own_small c.args.cut.now c.args.part c.requires.whole)

pub point_at-requires-clause-small : goal.point_at-requires-clause-small
point_at-requires-clause-small c =
    subst (λ (b : Box3). IsSmall b) (sym c.part-own.ensures.value)
    (own_small c.args.cut.now c.args.part c.requires.whole)

pub index_of-at-requires-clause-point : goal.index_of-at-requires-clause-point
index_of-at-requires-clause-point c =
    subst (λ (b : Box3). IsIn b c.point_at.result)
    (sym (c.whole-all.ensures.value ∙ ap (λ (s : Shape). whole s) c.requires.shape))
    (own_inside c.args.cut.now c.args.part c.requires.whole c.requires.part c.point_at.result
    (subst (λ (b : Box3). IsIn b c.point_at.result) c.part-own.ensures.value
    c.point_at.ensures.inside))

pub rows-preserved : goal.rows-preserved
rows-preserved c =
    let all = whole c.args.cut.now.shape in
    let own = owned c.args.cut.now c.args.part in
    let own_is = c.part-own.ensures.value in
    let width : c.points_along-width.result ≡ extent own 0 =
    c.points_along-width.ensures ∙ ap (λ (b : Box3). extent b 0) own_is in
    let end = c.count-end.ensures ∙ ap (λ (b : Box3). point_count b) own_is in
    let below : c.rows.from < point_count own = omega (arith, end, c.rows-test.true) in
    let place : c.index_of-at.result ≡ index_in all (point_in own c.rows.from) =
    c.index_of-at.ensures.value
    ∙ ap (λ (b : Box3). index_in b c.point_at.result)
    (c.whole-all.ensures.value ∙ ap (λ (s : Shape). whole s) c.requires.shape)
    ∙ ap (index_in all) (c.point_at.ensures.value
    ∙ ap (λ (b : Box3). point_in b c.rows.from) own_is) in
    let run : c.deref.result.now
    ≡ values_from c.args.level.now c.index_of-at.result c.points_along-width.result =
    search rules in
    record {
      start = row_start own c.rows.from c.points_along-width.result width c.rows.invariant.start
          below;
      rows = row_added all own c.args.level.now
          (own_inside c.args.cut.now c.args.part c.requires.whole c.requires.part)
          c.rows.from c.rows.invariant.start below c.args.text.now c.rows.text
          c.push_rows.new.text c.deref.result.now c.points_along-width.result
          c.index_of-at.result width place run c.rows.invariant.rows
          c.in_ok-push_rows.ensures;
    }

pub returns : goal.returns
returns c =
    let own_is = c.part-own.ensures.value in
    let end = c.count-end.ensures ∙ ap (λ (b : Box3). point_count b) own_is in
    rows_are c.args.cut.now c.requires.whole c.args.part c.requires.part
    (own_values c.args.cut.now c.args.part c.args.level.now) c.args.text.now c.rows.text
    c.rows.from c.rows.invariant.start (omega (arith, end, c.rows-test.false))
    c.rows.invariant.rows

pub overflow_add-from : goal.overflow_add-from
overflow_add-from c =
    let own = owned c.args.cut.now c.args.part in
    let own_is = c.part-own.ensures.value in
    let width : c.points_along-width.result ≡ extent own 0 =
    c.points_along-width.ensures ∙ ap (λ (b : Box3). extent b 0) own_is in
    let end = c.count-end.ensures ∙ ap (λ (b : Box3). point_count b) own_is in
    let below : c.rows.from < point_count own = omega (arith, end, c.rows-test.true) in
    let within = (row_is own c.rows.from c.rows.invariant.start below).next.within in
    let few = own_small c.args.cut.now c.args.part c.requires.whole in
    omega (arith, within, width, few)
