use Rattle.std.proofs.Common.{rules, refl, sym, ap, subst, ◌≡◌, ◌<◌, ◌∙◌, length, Some, None, SFits, w64, to_z, of_z}
use Rattle.std.specs.Prelude.{slice_set}
use Rattle.std.proofs.lemmas.Int.{to_z-of_z}
use Rattle.cx_plan.specs.Setups.{setup_of}
use Rattle.cx_core_part.specs.Copies.{copies_at}
use Rattle.cx_core_place.specs.Steps.{IsTested}
use Rattle.cx_core_events.specs.Paces.{Paces, iteration_of, op_of}
use Rattle.cx_core_events.specs.Steps.{moved_on}
use Rattle.cx_core.specs.Cores.{Cores, items_of}
use Rattle.cx_core.specs.Moving.{followed}
use Rattle.cx_core.proofs.GoLaws.{with_pace}
use Rattle.cx_core.proofs.ItemLaws.{its_items, items_moved, part_there}
use Rattle.cx_core.proofs.moving.follow.Goals as goal

pub iteration_of-now-requires : goal.iteration_of-now-requires
iteration_of-now-requires c =
    let scalar = to_z w64 (of_z w64 c.args.scalar) in
    let below = subst (λ (o : Cores). c.args.part < length o.pace.parts) (sym c.core.view_is)
    c.requires.part in
    part_there (setup_of c.args.job.now) c.core.inside.pace c.args.part below (λ v. scalar)
    c.moved.new.self
    (c.in_ok-moved-in-None.ensures.ok (λ v. scalar) (λ v e. refl))

pub renew-requires : goal.renew-requires
renew-requires c =
    let setup = setup_of c.args.job.now in
    let below = subst (λ (o : Cores). c.args.part < length o.pace.parts) (sym c.core.view_is)
    c.requires.part in
    let items = subst (λ (o : Cores). o.items ≡ items_of setup o.pace) (sym c.core.view_is)
    c.requires.items in
    its_items setup c.core.inside.pace c.args.part below c.core.inside.items.items items
    ∙ ap (λ n. Some (copies_at setup n)) (sym c.iteration_of-was.ensures)

pub returns-in_ok-moved-in-None-clause-follows : goal.returns-in_ok-moved-in-None-clause-follows
returns-in_ok-moved-in-None-clause-follows c = λ scalars tested.
    let inside = c.core.inside in
    let setup = setup_of c.args.job.now in
    let fits : SFits w64 c.args.scalar = search rules in
    let here = subst (λ (o : Cores). IsTested (op_of o.pace c.args.part) scalars c.args.scalar)
    (sym c.core.view_is) tested in
    let moved = c.in_ok-moved-in-None.ensures.ok scalars
    (λ v e. here v e ∙ sym (to_z-of_z w64 c.args.scalar fits)) in
    let below = subst (λ (o : Cores). c.args.part < length o.pace.parts) (sym c.core.view_is)
    c.requires.part in
    let items = subst (λ (o : Cores). o.items ≡ items_of setup o.pace) (sym c.core.view_is)
    c.requires.items in
    let renewed =
    c.renew.ensures
    ∙ ap (λ n. slice_set inside.items.items c.args.part (copies_at setup n))
    (c.iteration_of-now.ensures ∙ ap (λ (p : Paces). iteration_of p c.args.part) moved)
    ∙ items_moved setup inside.pace c.args.part below inside.items.items items scalars
    in
    ap (λ (p : Paces). with_pace p inside.patches.items c.renew.new.items.items inside.boards
    inside.gathering inside.met inside.outcome inside.lengths.items inside.section) moved
    ∙ ap (λ xs. with_pace (moved_on setup inside.pace c.args.part scalars)
    inside.patches.items xs inside.boards inside.gathering inside.met inside.outcome
    inside.lengths.items inside.section) renewed
    ∙ ap (λ (o : Cores). followed setup o c.args.part scalars None) c.core.view_is
    ∙ ap (followed setup c.args.core.now c.args.part scalars) (sym c.in-None.is)
