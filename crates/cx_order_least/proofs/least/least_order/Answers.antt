-- Each turn places the least number before which none that is left must stand.
use Rattle.std.proofs.Common.{◌≡◌, ◌∙◌, ℕ, Bool, ◌||◌, ◌&&◌, ltb, List, set, sym, ap, subst, true, arith}
use Rattle.cx_order_least.specs.Links.{has, links, is_left, IsBlocked}
use Rattle.cx_order_least.specs.Orders.{pair_before, numbers, IsLeastOrder, IsCycle}
use Rattle.std.proofs.lemmas.Bool.{and_parts}
use Rattle.cx_order_least.proofs.CycleWalks.{cycle-more}
use Rattle.cx_order_least.proofs.Rest.{left-below}
use Rattle.cx_order_least.proofs.Steps.{State, Next, begin, step, fewer-left, finish, stuck, nowhere}
use Rattle.cx_order_least.proofs.least.least_order.Goals as goal

pub placed-init : goal.placed-init
placed-init c =
    let e = c.in_ok-sorting.ensures in
    let s = c.in_ok-sorting.sorting in
    begin (pair_before c.args.pairs.now)
    c.args.count s.graph.before s.graph.after s.marks.items s.candidates s.order.items e.marks
    e.before_length e.after_length e.before e.after e.candidates e.order

pub next_free-requires : goal.next_free-requires
next_free-requires c = λ k there.
    let i = c.placed.invariant in
    let h = left-below c.placed.sorting.marks.items k (i.unmarked k there) in
    let a = i.marks_length in
    let b = i.first_length in omega (arith, h, a, b)

pub placed-preserved : goal.placed-preserved
placed-preserved c =
    let B = pair_before c.args.pairs.now in
    let s = c.placed.sorting in
    let e = c.in-Some.ensures in
    let x = c.in-Some.next in
    let cut = c.next_free.new.candidates in
    let N : List Bool → Type 0 =
    λ marks. Next s.graph.before c.next_free.new.before marks s.candidates cut x in
    let n : N s.marks.items =
    subst N c.deref.ensures.value
    (record {
      same = e.length;
      kept = e.kept;
      fewer = e.fewer;
      found = e.found;
      free = e.free;
      less = e.less;
      above = e.above;
      blocked = e.blocked;
    }) in
    let O : List ℕ → Type 0 =
    λ order. State B c.args.count c.next_free.new.before s.graph.after
    (set s.marks.items x true) c.insert_all.new.candidates order in
    subst O (sym c.in_ok-push.ensures.items)
    (step B c.args.count s.graph.before c.next_free.new.before s.graph.after s.marks.items
    s.candidates cut c.insert_all.new.candidates s.order.items x c.placed.invariant n
    (λ k. c.in_ok-insert_all.ensures k ∙ ap (λ numbers. has cut k || has numbers k) c.row.ensures))

pub placed-smaller : goal.placed-smaller
placed-smaller c =
    let B = pair_before c.args.pairs.now in
    let s = c.placed.sorting in
    let e = c.in-Some.ensures in
    let x = c.in-Some.next in
    let cut = c.next_free.new.candidates in
    let N : List Bool → Type 0 =
    λ marks. Next s.graph.before c.next_free.new.before marks s.candidates cut x in
    let n : N s.marks.items =
    subst N c.deref.ensures.value
    (record {
      same = e.length;
      kept = e.kept;
      fewer = e.fewer;
      found = e.found;
      free = e.free;
      less = e.less;
      above = e.above;
      blocked = e.blocked;
    }) in
    fewer-left B c.args.count s.graph.before c.next_free.new.before s.graph.after s.marks.items
    s.candidates cut c.insert_all.new.candidates s.order.items x c.placed.invariant n
    (λ k. c.in_ok-insert_all.ensures k ∙ ap (λ numbers. has cut k || has numbers k) c.row.ensures)

pub returns-in-None : goal.returns-in-None
returns-in-None c =
    let s = c.placed.sorting in
    let B = pair_before c.args.pairs.now in
    let L : List ℕ → Type 0 = λ order. IsLeastOrder B (numbers c.args.count) order in
    subst L (sym c.new-in-None.ensures)
    (finish B c.args.count s.graph.before s.graph.after s.marks.items s.candidates s.order.items
    c.placed.invariant
    (λ k. ap (λ marks. is_left marks k) (sym c.deref-2.ensures.value) ∙ c.in-None.ensures.none k))

pub cycle_from-requires-clause-blocked : goal.cycle_from-requires-clause-blocked
cycle_from-requires-clause-blocked c =
    let s = c.placed.sorting in
    let B = pair_before c.args.pairs.now in
    let e = c.in_default.ensures in
    let M : List Bool → Type 0 = λ marks. (k : ℕ) → is_left marks k ≡ true
    → IsBlocked marks c.next_free.new.before k in
    let K : List Bool → Type 0 = λ marks. (a b : ℕ) → is_left marks a ≡ true
    → links c.next_free.new.before b a ≡ links s.graph.before b a in
    let A : List Bool → Type 0 = λ marks. (k : ℕ) → has s.candidates k ≡ true
    → IsBlocked marks s.graph.before k in
    subst M (sym c.deref-in-Some-first_left.ensures.value)
    (stuck B c.args.count s.graph.before c.next_free.new.before s.graph.after s.marks.items
    s.candidates s.order.items c.placed.invariant
    (subst K c.deref.ensures.value e.kept)
    (subst A c.deref.ensures.value
    (λ k there. nowhere c.next_free.new.candidates k e.none (e.blocked k there))))

pub returns : goal.returns
returns c =
    let s = c.placed.sorting in
    let B = pair_before c.args.pairs.now in
    let I : List ℕ → Type 0 = λ xs. IsCycle B xs in
    subst I (sym c.new-in-Some-first_left.ensures)
    (cycle-more (λ a b. links c.next_free.new.before b a) B
    (λ a b h. (and_parts (B a b) (ltb a c.args.count && ltb b c.args.count)
    (c.placed.invariant.first_sound a b (c.in_default.ensures.fewer a b h))).0)
    c.in_ok-cycle_from-in-Some-first_left.field-0.items
    c.in_ok-cycle_from-in-Some-first_left.ensures)
