use Rattle.std.proofs.Common.{◌≡◌, ◌∙◌, ap, subst, ◌+ℤ◌, Option, Some, None, ℤ, rules, w64, SFits}
use Rattle.std.specs.Prelude.{OnOk, OnErr}
use Rattle.std.proofs.lemmas.Int.{to_z-of_z}
use Rattle.cx_rule.specs.Seen.{value_of}
use Rattle.cx_rule.specs.Single.{here, one_number}
use Rattle.cx_thorn_physics.specs.Exact.{in_64_bits}
use Rattle.cx_thorn_physics.specs.Flux.{gains}
use Rattle.cx_thorn_physics.proofs.heat_step.HeatStepRulePointRule.numbers.Goals as goal

pub returns-clause-numbers : goal.returns-clause-numbers
returns-clause-numbers c =
    let w = c.args.w.now.seen in
    let fits : SFits w64 c.param.result = search rules in
    let same = c.next.ensures ∙ ap (λ f. in_64_bits (value_of w 0 here +ℤ gains w f))
    (to_z-of_z w64 c.param.result fits ∙ c.param.ensures) in
    subst (λ (o : Option ℤ). OnOk c.set_if.result (one_number o ≡ Some c.set_if.new.self)) same
    c.set_if.ensures.numbers

pub returns-clause-overflow : goal.returns-clause-overflow
returns-clause-overflow c =
    let w = c.args.w.now.seen in
    let fits : SFits w64 c.param.result = search rules in
    let same = c.next.ensures ∙ ap (λ f. in_64_bits (value_of w 0 here +ℤ gains w f))
    (to_z-of_z w64 c.param.result fits ∙ c.param.ensures) in
    subst (λ (o : Option ℤ). OnErr c.set_if.result (one_number o ≡ None)) same
    c.set_if.ensures.overflow
