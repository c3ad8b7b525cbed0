use Rattle.std.proofs.Common.{◌≡◌, ℕ, zero, suc, ◌≤◌, true, false, nat_eq, sym, ap, subst, ◌∙◌, List, [], ◌∷◌, ◌++◌, length, vec_len, arith}
use Rattle.cx_region.specs.declared.witness.Witness.{Witness}
use Rattle.cx_region.specs.Witnesses.{covers_one, Joins}
use Rattle.cx_region.proofs.JoinLaws.{joins-kept, joins-left}
use Rattle.cx_region.proofs.witnesses.keep_all.Goals as goal

some_of : (n : ℕ) → nat_eq n 0 ≡ false → 1 ≤ n
some_of zero none = absurd (cc)
some_of (suc n) none = omega arith

pub ways-preserved-in-ways : goal.ways-preserved-in-ways
ways-preserved-in-ways c =
    let x = c.args.followed in
    let old = c.args.kept.now.items in
    subst (Joins x old (c.ways.yielded ++ c.in-Some.way ∷ [])) (sym c.in_ok-push.ensures.items)
    (joins-kept x old c.ways.yielded c.ways.kept.items c.in-Some.way c.ways.invariant)

pub ways-preserved : goal.ways-preserved
ways-preserved c =
    let x = c.args.followed in
    let some : 1 ≤ length c.ways.kept.items =
    omega (
      arith,
      c.ways.kept.ok.0,
      some_of (vec_len c.ways.kept) (sym c.is_empty.ensures ∙ c.if-is_empty.false),
    ) in
    let covers : covers_one x c.ways.kept.items c.in-Some.way ≡ true =
    sym (ap (λ (ws : List Witness). covers_one x ws c.in-Some.way) c.deref.ensures.value)
    ∙ sym c.covers_one.ensures ∙ c.if-not-covers_one.false in
    joins-left x c.args.kept.now.items c.ways.yielded c.ways.kept.items c.in-Some.way some covers
    c.ways.invariant
