use Rattle.std.proofs.Common.{rules, ◌≡◌, ◌∙◌, ◌<◌, ◌≤◌, ap, sym, subst}
use Rattle.std.specs.Prelude.{option_copied}
use Rattle.cx_grid.specs.declared.boxes.Box3.{Box3}
use Rattle.cx_grid.specs.declared.shapes.Shape.{Shape}
use Rattle.cx_grid.specs.Boxes.{IsBox, IsIn, IsSmall, point_count}
use Rattle.cx_grid.specs.Grid.{whole}
use Rattle.cx_cut.specs.Cuts.{part_count}
use Rattle.cx_chunks.specs.Combining.{found_values, values_in}
use Rattle.cx_chunks.proofs.OwnLaws.{own_is_box, own_small, own_inside}
use Rattle.cx_chunks.proofs.JoinLaws.{none_are, one_more, all_are}
use Rattle.cx_chunks.proofs.combining.join.Goals as goal

pub parts-init : goal.parts-init
parts-init c =
    let all_is : c.whole-all.result ≡ whole c.args.cut.now.shape =
    c.whole-all.ensures.value ∙ ap (λ (s : Shape). whole s) c.requires.shape in
    none_are c.args.cut.now c.requires.whole
    (values_in c.args.chunks.now c.args.full.now c.args.iteration) c.set_size.new.level.items
    (c.in_ok-set_size.ensures ∙ ap (λ (b : Box3). point_count b) all_is)

pub put_part-requires-clause-ordered : goal.put_part-requires-clause-ordered
put_part-requires-clause-ordered c =
    subst (λ (b : Box3). IsBox b) (sym c.part-own.ensures.value)
    (own_is_box c.args.cut.now c.parts.part)

pub put_part-requires-clause-own : goal.put_part-requires-clause-own
put_part-requires-clause-own c =
    subst (λ (b : Box3). IsSmall b) (sym c.part-own.ensures.value)
    (own_small c.args.cut.now c.parts.part c.requires.whole)

pub put_part-requires-clause-inside : goal.put_part-requires-clause-inside
put_part-requires-clause-inside c =
    let all_is : c.whole-all.result ≡ whole c.args.cut.now.shape =
    c.whole-all.ensures.value ∙ ap (λ (s : Shape). whole s) c.requires.shape in
    let there : c.parts.part < part_count c.args.cut.now = search rules in
    λ p here. subst (λ (b : Box3). IsIn b p) (sym all_is)
    (own_inside c.args.cut.now c.parts.part c.requires.whole there p
    (subst (λ (b : Box3). IsIn b p) c.part-own.ensures.value here))

pub put_part-requires-clause-level : goal.put_part-requires-clause-level
put_part-requires-clause-level c =
    let all_is : c.whole-all.result ≡ whole c.args.cut.now.shape =
    c.whole-all.ensures.value ∙ ap (λ (s : Shape). whole s) c.requires.shape in
    c.parts.invariant.count ∙ ap (λ (b : Box3). point_count b) (sym all_is)

pub parts-preserved : goal.parts-preserved
parts-preserved c =
    let all_is : c.whole-all.result ≡ whole c.args.cut.now.shape =
    c.whole-all.ensures.value ∙ ap (λ (s : Shape). whole s) c.requires.shape in
    let there : c.parts.part < part_count c.args.cut.now = search rules in
    one_more c.args.cut.now c.requires.whole
    (values_in c.args.chunks.now c.args.full.now c.args.iteration) c.parts.part there
    c.whole-all.result c.part-own.result (found_values (option_copied c.piece_in-piece.result))
    c.parts.level.items c.put_part.new.level.items all_is c.part-own.ensures.value
    c.piece_in-piece.ensures c.put_part.ensures.length c.put_part.ensures.own
    c.put_part.ensures.others c.parts.invariant

pub returns : goal.returns
returns c =
    let end : part_count c.args.cut.now ≤ c.parts.part = search rules in
    all_are c.args.cut.now c.requires.whole
    (values_in c.args.chunks.now c.args.full.now c.args.iteration) c.parts.part
    c.parts.level.items end c.parts.invariant
