use Rattle.std.proofs.Common.{◌∙◌, sym, ap, subst, arith, map, length}
use Rattle.std.proofs.lemmas.Iterator.Adapters.{YieldsList-from_vec}
use Rattle.std.proofs.lemmas.Iterator.Consumers.{YieldsList-turn, YieldsList-end}
use Rattle.std.proofs.lemmas.List.{length_push}
use Rattle.std.proofs.lemmas.Result.{err_from_is_err_and}
use Rattle.cx_job_items.specs.Lookups.{world_in}
use Rattle.cx_job_items.proofs.MatchLaws.{Sofar, sofar_one, sofar_fault, sofar_all}
use Rattle.cx_job_items.proofs.matching.Routines.matched_items.Goals as goal

pub returns : goal.returns
returns c =
    let self = c.args.self.now in
    let gives = c.into_iter-item-iterator.ensures.into_iter_gives in
    let held = c.into_vec-item-items.ensures in
    let e = YieldsList-from_vec {s = c.into_iter-item-iterator.result} c.args.items (gives.0 ∙ held)
    (gives.1 ∙ c.into_vec-item-items.result.ok.0 ∙ ap length held) in
    let t = YieldsList-end e c.items.yielded _ c.items.yielded_by _ c.next.new.self c.in-None.is
    c.next.ensures.steps in
    sofar_all (world_in self) self.values.now (map (λ s. s.now) self.specs.now)
    c.args.run c.args.items (length c.items.yielded) c.items.matched (omega (arith, t.1))
    c.items.invariant

pub items-preserved : goal.items-preserved
items-preserved c =
    let self = c.args.self.now in
    let gives = c.into_iter-item-iterator.ensures.into_iter_gives in
    let held = c.into_vec-item-items.ensures in
    let e = YieldsList-from_vec {s = c.into_iter-item-iterator.result} c.args.items (gives.0 ∙ held)
    (gives.1 ∙ c.into_vec-item-items.result.ok.0 ∙ ap length held) in
    let t = YieldsList-turn e c.items.yielded _ c.items.yielded_by _ c.next.new.self c.in-Some.item
    c.in-Some.is c.next.ensures.steps in
    subst (λ k. Sofar (world_in self) self.values.now (map (λ s. s.now) self.specs.now)
    c.args.run c.args.items k c.push.new.self)
    (sym (length_push c.items.yielded c.in-Some.item))
    (sofar_one (world_in self) self.values.now (map (λ s. s.now) self.specs.now)
    c.args.run c.args.items (length c.items.yielded)
    c.in-Some.item c.in_ok-item_if_run.field-0 c.items.matched c.push.new.self
    c.len-number.result t c.len-number.ensures c.in_ok-item_if_run.ensures c.items.invariant
    c.in_ok-push.ensures.ok)

pub returns-in_err-item_if_run : goal.returns-in_err-item_if_run
returns-in_err-item_if_run c =
    let self = c.args.self.now in
    let gives = c.into_iter-item-iterator.ensures.into_iter_gives in
    let held = c.into_vec-item-items.ensures in
    let e = YieldsList-from_vec {s = c.into_iter-item-iterator.result} c.args.items (gives.0 ∙ held)
    (gives.1 ∙ c.into_vec-item-items.result.ok.0 ∙ ap length held) in
    let t = YieldsList-turn e c.items.yielded _ c.items.yielded_by _ c.next.new.self c.in-Some.item
    c.in-Some.is c.next.ensures.steps in
    let told = sofar_fault (world_in self) self.values.now (map (λ s. s.now) self.specs.now)
    c.args.run c.args.items (length c.items.yielded)
    c.in-Some.item c.items.matched c.len-number.result c.in_err-item_if_run.field-0.0 t
    c.len-number.ensures c.items.invariant c.in_err-item_if_run.ensures in
    let p = err_from_is_err_and c.from_residual.result c.from_residual.ensures.1 in
    rw (p.1, p.2) told
