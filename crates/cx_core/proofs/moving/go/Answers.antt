use Rattle.std.proofs.Common.{rules, ◌≡◌, ◌≤◌, ◌<◌, refl, sym, ap, subst, ◌∙◌, length, set, SFits, w64}
use Rattle.std.specs.Prelude.{slice_get, Some}
use Rattle.std.proofs.lemmas.Int.{to_z-of_z}
use Rattle.std.proofs.lemmas.Option.{slice_get_read}
use Rattle.cx_plan.specs.Setups.{setup_of}
use Rattle.cx_rule.specs.States.{scalar_of}
use Rattle.cx_field.specs.Patches.{PatchValue}
use Rattle.cx_cut.specs.Cuts.{Parts, part_count}
use Rattle.cx_flat.specs.declared.op.Op.{Op}
use Rattle.cx_core_place.specs.Steps.{IsReached, IsTested}
use Rattle.cx_core_part.specs.Tests.{CanTest, tested_number}
use Rattle.cx_core_events.specs.declared.standing.Standing.{Standing}
use Rattle.cx_core_events.specs.Paces.{iteration_of, op_of, part_of}
use Rattle.cx_core_part.specs.Copies.{copies_at}
use Rattle.cx_core.specs.Cores.{Cores, items_of}
use Rattle.law_parts.specs.Nets.{costs}
use Rattle.cx_core.specs.Moving.{CanOperate, Operates, holdings}
use Rattle.cx_core.specs.Steps.{RisesWithin, counts}
use Rattle.cx_core.proofs.ItemLaws.{its_items, items_there}
use Rattle.cx_core.proofs.GoLaws.{items_are, there, reached, can_do, can_test_it, follows, on_ok, is_tested, other_err, some_same}
use Rattle.cx_core.proofs.moving.go.Goals as goal

pub tested-scalar-requires : goal.tested-scalar-requires
tested-scalar-requires g c =
    subst (λ (o : Op). CanTest o c.index.result.now)
    (sym (c.op.ensures ∙ ap (λ (o : Cores). op_of o.pace c.args.part) c.core.view_is))
    (can_test_it c.args.job.now _ c.requires.job (c.move_laws.ensures _)
    c.requires.there.beginning c.requires.there.begins g.W.Wire.tells c.requires.there.first
    c.args.core.now _ _ c.args.part c.requires.part c.requires.going c.requires.there.at
    (subst (λ n. n ≤ 512) (c.count.ensures.value
    ∙ ap part_count (c.cut.ensures ∙ ap (λ (o : Cores). o.pace.cut) c.core.view_is))
    c.count.ensures.few) c.index.result.now
    (subst (λ (o : Cores). slice_get o.patches c.args.part ≡ Some c.index.result.now) c.core.view_is
    (slice_get_read c.core.inside.patches.items (length c.core.inside.patches.items)
    c.args.part c.index.result.now refl
    (subst (λ (o : Cores). c.args.part < length o.patches) (sym c.core.view_is)
    (there c.args.job.now _ c.requires.job (c.move_laws.ensures _)
    c.requires.there.beginning c.requires.there.begins g.W.Wire.tells c.requires.there.first
    c.args.core.now _ _ c.args.part c.requires.part c.requires.going c.requires.there.at))
    c.index.ensures)))

pub operate-done-requires-clause-can : goal.operate-done-requires-clause-can
operate-done-requires-clause-can g c =
    subst (λ (x : Parts). CanOperate c.args.job.now x c.args.part c.op-2.result.now
    (holdings c.index_mut.result.now c.core.inside.boards c.core.inside.gathering
    (g.W.Wire.queue c.args.wire.now) c.args.meter.now (g.W.Wire.received c.args.wire.now)
    (g.W.Wire.sum c.args.wire.now))) (sym c.cut-2.ensures)
    (subst (λ (p : Op). CanOperate c.args.job.now c.core.inside.pace.cut c.args.part p
    (holdings c.index_mut.result.now c.core.inside.boards c.core.inside.gathering
    (g.W.Wire.queue c.args.wire.now) c.args.meter.now (g.W.Wire.received c.args.wire.now)
    (g.W.Wire.sum c.args.wire.now))) (sym c.op-2.ensures)
    (subst (λ (o : Cores). CanOperate c.args.job.now o.pace.cut c.args.part
    (op_of o.pace c.args.part)
    (holdings c.index_mut.result.now o.given o.buffers (g.W.Wire.queue c.args.wire.now)
    c.args.meter.now (g.W.Wire.received c.args.wire.now) (g.W.Wire.sum c.args.wire.now)))
    (sym c.core.view_is)
    (can_do c.args.job.now _ c.requires.job (c.move_laws.ensures _)
    c.requires.there.beginning c.requires.there.begins g.W.Wire.tells c.requires.there.first
    c.args.core.now _ _ c.args.part c.requires.part c.requires.going c.requires.there.at
    (subst (λ n. n ≤ 512) (c.count.ensures.value
    ∙ ap part_count (c.cut.ensures ∙ ap (λ (o : Cores). o.pace.cut) c.core.view_is))
    c.count.ensures.few) c.index_mut.result.now
    (subst (λ (o : Cores). slice_get o.patches c.args.part ≡ Some c.index_mut.result.now)
    c.core.view_is
    (slice_get_read c.core.inside.patches.items (length c.core.inside.patches.items)
    c.args.part c.index_mut.result.now refl
    (subst (λ (o : Cores). c.args.part < length o.patches) (sym c.core.view_is)
    (there c.args.job.now _ c.requires.job (c.move_laws.ensures _)
    c.requires.there.beginning c.requires.there.begins g.W.Wire.tells c.requires.there.first
    c.args.core.now _ _ c.args.part c.requires.part c.requires.going c.requires.there.at))
    c.index_mut.ensures.value)))))

pub operate-done-requires-clause-items : goal.operate-done-requires-clause-items
operate-done-requires-clause-items g c =
    let setup = setup_of c.args.job.now in
    let items = subst (λ (o : Cores). o.items ≡ items_of setup o.pace) (sym c.core.view_is)
    (items_are c.args.job.now _ c.requires.job (c.move_laws.ensures _)
    c.requires.there.beginning c.requires.there.begins g.W.Wire.tells c.requires.there.first
    c.args.core.now _ _ c.args.part c.requires.part c.requires.going c.requires.there.at) in
    let below = subst (λ (o : Cores). c.args.part < length o.pace.parts) (sym c.core.view_is)
    c.requires.part in
    some_same c.index-2.result.now (copies_at setup (iteration_of c.core.inside.pace c.args.part))
    (sym (slice_get_read c.core.inside.items.items (length c.core.inside.items.items)
    c.args.part c.index-2.result.now refl
    (items_there setup c.core.inside.pace c.args.part below c.core.inside.items.items items)
    c.index-2.ensures)
    ∙ its_items setup c.core.inside.pace c.args.part below c.core.inside.items.items items)
    ∙ ap (λ (s : Standing). copies_at setup s.place.iteration) (sym c.part.ensures)

pub follow-requires-clause-items : goal.follow-requires-clause-items
follow-requires-clause-items g c =
    subst (λ (o : Cores). o.items ≡ items_of (setup_of c.args.job.now) o.pace) (sym c.core.view_is)
    (items_are c.args.job.now _ c.requires.job (c.move_laws.ensures _)
    c.requires.there.beginning c.requires.there.begins g.W.Wire.tells c.requires.there.first
    c.args.core.now _ _ c.args.part c.requires.part c.requires.going c.requires.there.at)

pub follow-requires-clause-reached : goal.follow-requires-clause-reached
follow-requires-clause-reached g c =
    subst (λ (o : Cores). IsReached (setup_of c.args.job.now) (part_of o.pace c.args.part).place)
    (sym c.core.view_is) (reached c.args.job.now _ c.requires.job (c.move_laws.ensures _)
    c.requires.there.beginning c.requires.there.begins g.W.Wire.tells c.requires.there.first
    c.args.core.now _ _ c.args.part c.requires.part c.requires.going c.requires.there.at)

pub returns-in-Err-clause-cause : goal.returns-in-Err-clause-cause
returns-in-Err-clause-cause g c = let cause = c.in-Err.ensures.cause in
    record { later = cause.later; failed = λ h. cause.failed (other_err c.in-Err.fault _ h) }

pub returns-in-Ok-clause-goes : goal.returns-in-Ok-clause-goes
returns-in-Ok-clause-goes g c = λ b begins first.
    let scalars = scalar_of c.index_mut.result.now.numbers in
    let fits : SFits w64 c.tested-scalar.result = search rules in
    let same : c.index.result.now ≡ c.index_mut.result.now =
    some_same c.index.result.now c.index_mut.result.now
    (sym (slice_get_read c.core.inside.patches.items (length c.core.inside.patches.items)
    c.args.part c.index.result.now refl
    (subst (λ (o : Cores). c.args.part < length o.patches) (sym c.core.view_is)
    (there c.args.job.now _ c.requires.job (c.move_laws.ensures _)
    c.requires.there.beginning c.requires.there.begins g.W.Wire.tells c.requires.there.first
    c.args.core.now _ _ c.args.part c.requires.part c.requires.going c.requires.there.at))
    c.index.ensures)
    ∙ (slice_get_read c.core.inside.patches.items (length c.core.inside.patches.items)
    c.args.part c.index_mut.result.now refl
    (subst (λ (o : Cores). c.args.part < length o.patches) (sym c.core.view_is)
    (there c.args.job.now _ c.requires.job (c.move_laws.ensures _)
    c.requires.there.beginning c.requires.there.begins g.W.Wire.tells c.requires.there.first
    c.args.core.now _ _ c.args.part c.requires.part c.requires.going c.requires.there.at))
    c.index_mut.ensures.value)) in
    let tested = subst (λ (o : Op). IsTested o scalars (tested_number o scalars)) c.op.ensures
    (is_tested c.op.result.now scalars) in
    let number = c.tested-scalar.ensures
    ∙ ap (λ (p : PatchValue). tested_number c.op.result.now (scalar_of p.numbers)) same
    ∙ ap (λ (o : Op). tested_number o scalars) c.op.ensures in
    on_ok c.follow.result (c.follow.ensures.follows scalars
    (λ v e. tested v e ∙ sym number ∙ sym (to_z-of_z w64 c.tested-scalar.result fits)))
    (λ e at. follows c.args.job.now _ c.requires.job (c.move_laws.ensures _)
    b begins g.W.Wire.tells first c.args.core.now _ _ c.args.part c.requires.part
    c.requires.going at
    c.index_mut.result.now c.operate-done.new.patch
    (subst (λ (o : Cores). slice_get o.patches c.args.part ≡ Some c.index_mut.result.now)
    c.core.view_is
    (slice_get_read c.core.inside.patches.items (length c.core.inside.patches.items)
    c.args.part c.index_mut.result.now refl
    (subst (λ (o : Cores). c.args.part < length o.patches) (sym c.core.view_is)
    (there c.args.job.now _ c.requires.job (c.move_laws.ensures _)
    c.requires.there.beginning c.requires.there.begins g.W.Wire.tells c.requires.there.first
    c.args.core.now _ _ c.args.part c.requires.part c.requires.going c.requires.there.at))
    c.index_mut.ensures.value))
    _ c.follow.new.core c.operate-done.new.boards c.operate-done.new.gathering
    (g.W.Wire.queue c.operate-done.new.wire) _
    (ap (λ (o : Cores). record o {
      patches = set o.patches c.args.part c.operate-done.new.patch;
      given = c.operate-done.new.boards;
      buffers = c.operate-done.new.gathering;
    }) c.core.view_is)
    c.in-Ok.met
    (λ q of laws cut frame.
    subst (λ (o : Cores). Operates q c.args.part (part_of o.pace c.args.part).place
    (part_of o.pace c.args.part).count (op_of o.pace c.args.part)
    (holdings c.index_mut.result.now o.given o.buffers (g.W.Wire.queue c.args.wire.now)
    c.args.meter.now (g.W.Wire.received c.args.wire.now) (g.W.Wire.sum c.args.wire.now))
    (holdings c.operate-done.new.patch c.operate-done.new.boards c.operate-done.new.gathering
    (g.W.Wire.queue c.operate-done.new.wire) c.operate-done.new.meter
    (g.W.Wire.received c.operate-done.new.wire) (g.W.Wire.sum c.operate-done.new.wire))
    c.in-Ok.met) c.core.view_is
    (subst (λ (x : Standing).
    Operates q c.args.part x.place x.count (op_of c.core.inside.pace c.args.part)
    (holdings c.index_mut.result.now c.core.inside.boards c.core.inside.gathering
    (g.W.Wire.queue c.args.wire.now) c.args.meter.now (g.W.Wire.received c.args.wire.now)
    (g.W.Wire.sum c.args.wire.now))
    (holdings c.operate-done.new.patch c.operate-done.new.boards c.operate-done.new.gathering
    (g.W.Wire.queue c.operate-done.new.wire) c.operate-done.new.meter
    (g.W.Wire.received c.operate-done.new.wire) (g.W.Wire.sum c.operate-done.new.wire))
    c.in-Ok.met) c.part.ensures
    (subst (λ (p : Op). Operates q c.args.part c.part.result.now.place c.part.result.now.count p
    (holdings c.index_mut.result.now c.core.inside.boards c.core.inside.gathering
    (g.W.Wire.queue c.args.wire.now) c.args.meter.now (g.W.Wire.received c.args.wire.now)
    (g.W.Wire.sum c.args.wire.now))
    (holdings c.operate-done.new.patch c.operate-done.new.boards c.operate-done.new.gathering
    (g.W.Wire.queue c.operate-done.new.wire) c.operate-done.new.meter
    (g.W.Wire.received c.operate-done.new.wire) (g.W.Wire.sum c.operate-done.new.wire))
    c.in-Ok.met) c.op-2.ensures
    (c.in-Ok.ensures.operates q of laws
    (cut ∙ sym (c.cut-2.ensures ∙ ap (λ (o : Cores). o.pace.cut) c.core.view_is)) frame))))
    e)

pub returns-in-Err-clause-rises : goal.returns-in-Err-clause-rises
returns-in-Err-clause-rises g c = λ r of.
    subst (λ (o : Op). RisesWithin (λ i. costs r i c.args.part o)
    (counts c.args.meter.now (g.W.Wire.received c.args.wire.now) (g.W.Wire.sum c.args.wire.now))
    (counts c.operate-done.new.meter (g.W.Wire.received c.operate-done.new.wire)
    (g.W.Wire.sum c.operate-done.new.wire)))
    (c.op-2.ensures ∙ ap (λ (o : Cores). op_of o.pace c.args.part) c.core.view_is)
    (c.in-Err.ensures.rises r of)

pub returns-in-Ok-clause-rises : goal.returns-in-Ok-clause-rises
returns-in-Ok-clause-rises g c = λ r of.
    subst (λ (o : Op). RisesWithin (λ i. costs r i c.args.part o)
    (counts c.args.meter.now (g.W.Wire.received c.args.wire.now) (g.W.Wire.sum c.args.wire.now))
    (counts c.operate-done.new.meter (g.W.Wire.received c.operate-done.new.wire)
    (g.W.Wire.sum c.operate-done.new.wire)))
    (c.op-2.ensures ∙ ap (λ (o : Cores). op_of o.pace c.args.part) c.core.view_is)
    (c.in-Ok.ensures.rises r of)
