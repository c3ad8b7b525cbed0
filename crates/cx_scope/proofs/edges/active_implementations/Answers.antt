use Rattle.std.proofs.Common.{ap, ◌∙◌, ◌≤◌, ◌++◌, ◌∷◌, [], length, map, arith, codes}
use Rattle.std.proofs.lemmas.List.{take_all}
use Rattle.cx_bind.specs.declared.thorns.Thorn.{Thorn}
use Rattle.cx_scope.proofs.EdgeLaws.{three_more}
use Rattle.cx_scope.proofs.edges.active_implementations.Goals as goal

pub returns : goal.returns
returns c =
    let all : length c.args.thorns.now ≤ c.thorns.thorn-index = omega arith in
    c.in_ok-push_copy-4.ensures
    ∙ ap (λ names. names ++ codes "IO" ∷ [])
    (c.in_ok-push_copy-3.ensures
    ∙ ap (λ names. names ++ codes "driver" ∷ [])
    (c.in_ok-push_copy-2.ensures
    ∙ ap (λ names. names ++ codes "Cactus" ∷ [])
    (c.thorns.invariant ∙ ap (λ ts. map (λ (t : Thorn). t.interface.implements) ts)
    (take_all c.thorns.thorn-index c.args.thorns.now all))))
    ∙ three_more (map (λ (t : Thorn). t.interface.implements) c.args.thorns.now) (codes "Cactus")
    (codes "driver") (codes "IO")
