use Rattle.std.proofs.Common.{sym, subst, ℕ, Option, slice_get, ◌<◌}
use Rattle.cx_text.specs.Lexemes.{same_name}
use Rattle.cx_scope.specs.declared.names.NamedGroup.{NamedGroup}
use Rattle.cx_scope.specs.Tabled.{has_group}
use Rattle.cx_scope.proofs.ChainLaws.{Ahead, ends, meets, goes_on, nearer, left}
use Rattle.cx_scope.proofs.SameLaws.{at_place, has_its_name, same_next}
use Rattle.cx_scope.proofs.sought.group_in.Goals as goal

pub returns-then-is_at : goal.returns-then-is_at
returns-then-is_at c =
    let p = has_group c.args.tables.now c.args.thorn c.args.tier c.args.name.now in
    let n = λ (g : NamedGroup). same_name c.args.name.now.name g.name in
    let at : Option ℕ → Type 0 = λ next. Ahead p n c.args.tables.now.groups next in
    let is = c.is_at.ensures in
    meets p n (has_its_name c.args.tables.now c.args.thorn c.args.tier c.args.name.now)
    c.args.tables.now.groups c.in-Some.place (subst at c.in-Some.is c.same.invariant)
    (at_place p (slice_get c.args.tables.now.groups c.in-Some.place) _ _ is c.if-is_at.true)

pub same-smaller : goal.same-smaller
same-smaller c =
    let p = has_group c.args.tables.now c.args.thorn c.args.tier c.args.name.now in
    let n = λ (g : NamedGroup). same_name c.args.name.now.name g.name in
    let at : Option ℕ → Type 0 = λ next. Ahead p n c.args.tables.now.groups next in
    let nearer_than : Option ℕ
    → Type 0 = λ next. left n c.args.tables.now.groups c.next-next.result
    < left n c.args.tables.now.groups next in
    subst nearer_than (sym c.in-Some.is)
    (nearer p n (has_its_name c.args.tables.now c.args.thorn c.args.tier c.args.name.now)
    c.args.tables.now.groups c.in-Some.place c.next-next.result
    (subst at c.in-Some.is c.same.invariant)
    (λ g got same. same_next c.args.name.now.name g.name _ _ _ same (c.next-next.ensures g got)))

pub same-preserved : goal.same-preserved
same-preserved c =
    let p = has_group c.args.tables.now c.args.thorn c.args.tier c.args.name.now in
    let n = λ (g : NamedGroup). same_name c.args.name.now.name g.name in
    let at : Option ℕ → Type 0 = λ next. Ahead p n c.args.tables.now.groups next in
    let is = c.is_at.ensures in
    goes_on p n (has_its_name c.args.tables.now c.args.thorn c.args.tier c.args.name.now)
    c.args.tables.now.groups c.in-Some.place c.next-next.result
    (subst at c.in-Some.is c.same.invariant)
    (at_place p (slice_get c.args.tables.now.groups c.in-Some.place) _ _ is c.if-is_at.false)
    (λ g got same. same_next c.args.name.now.name g.name _ _ _ same (c.next-next.ensures g got))

pub returns : goal.returns
returns c =
    let p = has_group c.args.tables.now c.args.thorn c.args.tier c.args.name.now in
    let n = λ (g : NamedGroup). same_name c.args.name.now.name g.name in
    let at : Option ℕ → Type 0 = λ next. Ahead p n c.args.tables.now.groups next in
    ends p n (has_its_name c.args.tables.now c.args.thorn c.args.tier c.args.name.now)
    c.args.tables.now.groups (subst at c.in_default.is c.same.invariant)
