use Rattle.std.proofs.Common.{◌≡◌, ◌∙◌, ap, sym, subst, ℕ, ◌+◌, ◌-◌, ◌<◌, List, Option, length, arith, rules}
use Rattle.cx_scope.specs.Chains.{FindsFirsts, FindsNexts}
use Rattle.cx_scope.proofs.LinkLaws.{written, no_firsts, no_nexts}
use Rattle.cx_scope.proofs.groups.link_all.Goals as goal

pub groups-init : goal.groups-init
groups-init c = (
  no_firsts c.args.groups.now c.new-firsts.result c.new-firsts.ensures,
  no_nexts c.args.groups.now c.in_ok-nexts.nexts.items,
  search rules,
  omega arith,
)

pub groups-preserved : goal.groups-preserved
groups-preserved c =
    let before = c.groups.invariant in
    let test = c.groups-test.true in
    let low = before.3 in
    let positive : 0 < c.groups.place = search rules in
    let back : c.groups.place ≡ c.groups.place - 1 + 1 = omega (arith, positive) in
    let firsts = subst (λ (k : ℕ). FindsFirsts c.groups.firsts k c.args.groups.now) back before.0 in
    let nexts = subst (λ (k : ℕ). FindsNexts c.groups.nexts.items k c.args.groups.now)
    back before.1 in
    let nexts_lent =
    subst (λ (ns : List (Option ℕ)). FindsNexts ns (c.groups.place - 1 + 1) c.args.groups.now)
    (sym c.deref_mut.ensures.value) nexts in
    let same : length c.link.new.nexts ≡ length c.groups.nexts.items =
    c.link.ensures.len ∙ ap length c.deref_mut.ensures.value in
    let now = written c.link.new.nexts c.groups.nexts.items c.groups.nexts.len same
    c.groups.nexts.ok.0 in (
      c.in_ok-link.ensures.firsts firsts,
      subst (λ (ns : List (Option ℕ)). FindsNexts ns (c.groups.place - 1) c.args.groups.now)
          (sym now) (c.in_ok-link.ensures.nexts firsts nexts_lent),
      ap length now ∙ same ∙ before.2,
      omega (arith, low),
    )
