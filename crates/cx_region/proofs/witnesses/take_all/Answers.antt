use Rattle.std.proofs.Common.{◌≡◌, refl, sym, ap, subst, ◌∙◌, List, [], ◌∷◌, map, length, arith}
use Rattle.std.proofs.lemmas.Iterator.Adapters.{YieldsList-from_vec}
use Rattle.std.proofs.lemmas.Iterator.Consumers.{YieldsList-turn, YieldsList-end}
use Rattle.std.proofs.lemmas.List.{length_push}
use Rattle.std.proofs.lemmas.Option.{slice_get_read}
use Rattle.std.proofs.lemmas.Result.{err_from_is_err_and}
use Rattle.cx_region.specs.declared.witness.Witness.{Witness}
use Rattle.cx_region.specs.Witnesses.{act_of, IsAmong}
use Rattle.cx_region.proofs.StepLaws.{AllTaken, taken-pushed, goes-taken, goes-stopped}
use Rattle.cx_region.proofs.witnesses.take_all.Goals as goal

map_same : (ways : List Witness) → map (λ way. way) ways ≡ ways
map_same [] = refl
map_same (way ∷ ways) = ap (λ (t : List Witness). way ∷ t) (map_same ways)

pub returns-in_err-take-clause-goes : goal.returns-in_err-take-clause-goes
returns-in_err-take-clause-goes c = λ x there.
    let ways = c.args.ways.items in
    let gives = c.into_iter-way-iterator.ensures.into_iter_gives in
    let e = YieldsList-from_vec {s = c.into_iter-way-iterator.result} ways gives.0
    (gives.1 ∙ c.args.ways.ok.0) in
    let t = YieldsList-turn e c.ways.yielded _ c.ways.yielded_by _ c.next.new.self c.in-Some.way
    c.in-Some.is c.next.ensures.steps in
    let among : IsAmong ways c.in-Some.way = (
      length c.ways.yielded,
      slice_get_read ways (length ways) (length c.ways.yielded) c.in-Some.way refl t.0 t.1,
    ) in
    let told = goes-stopped c.args.job.now (act_of c.args.step)
    ways c.in-Some.way c.in_err-take.field-0.0 c.requires.whole there among
    (c.in_err-take.ensures.takes there) in
    let p = err_from_is_err_and c.from_residual.result c.from_residual.ensures.1 in
    rw (p.1, p.2) told

pub ways-preserved : goal.ways-preserved
ways-preserved c =
    let items = c.in_ok-push.ensures.items in
    let new_length = ap length items in
    record {
      same_length = omega (
        arith,
        new_length,
        length_push c.ways.taken.items c.in_ok-take.field-0,
        length_push c.ways.yielded c.in-Some.way,
        c.ways.invariant.same_length,
      );
      taken = λ there.
          taken-pushed c.args.job.now (act_of c.args.step)
          c.ways.yielded c.ways.taken.items c.push.new.self.items c.in-Some.way
          c.in_ok-take.field-0 items
          (c.ways.invariant.taken there) (c.in_ok-take.ensures.takes there);
    }

pub returns-clause-goes : goal.returns-clause-goes
returns-clause-goes c = λ x there.
    let ways = c.args.ways.items in
    let gives = c.into_iter-way-iterator.ensures.into_iter_gives in
    let e = YieldsList-from_vec {s = c.into_iter-way-iterator.result} ways gives.0
    (gives.1 ∙ c.args.ways.ok.0) in
    let t = YieldsList-end e c.ways.yielded _ c.ways.yielded_by _ c.next.new.self c.in-None.is
    c.next.ensures.steps in
    let same : c.ways.yielded ≡ ways = sym (map_same c.ways.yielded) ∙ t.0 in
    goes-taken c.args.job.now x (act_of c.args.step)
    ways c.ways.taken.items c.requires.whole there c.requires.some
    (subst (λ (ws : List Witness).
    AllTaken c.args.job.now (act_of c.args.step) ws c.ways.taken.items) same
    (c.ways.invariant.taken there))
