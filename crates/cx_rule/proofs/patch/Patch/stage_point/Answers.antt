use Rattle.std.proofs.Common.{◌≡◌, ◌∙◌, ◌<◌, ◌≤◌, refl, sym, ap, arith, length}
use Rattle.std.proofs.lemmas.Result.{err_from_is_err_and}
use Rattle.cx_rule.specs.Patches.{setup_in, values_in}
use Rattle.cx_rule.specs.Staging.{placed_at}
use Rattle.cx_rule.proofs.BufferLaws.{cell_count, cell_size, longer_each}
use Rattle.cx_rule.proofs.PointLaws.{bare_sees, count_kept, size_kept, both_kept}
use Rattle.cx_rule.proofs.StageLaws.{can_call, staged_sizes}
use Rattle.cx_rule.proofs.patch.Patch.stage_point.Goals as goal

pub show-requires-clause-reads : goal.show-requires-clause-reads
show-requires-clause-reads g c =
    bare_sees _ _ _ c.args.item.now c.args.from (rw (← c.self.view_is) at c.requires).reads

pub apply_in-requires-clause-count : goal.apply_in-requires-clause-count
apply_in-requires-clause-count g c =
    let w = (rw (← c.self.view_is) at c.requires).writes in
    omega (arith, cell_count _ _ _ c.self.invariant, w, c.len-count.ensures)

pub apply_in-requires-clause-fits : goal.apply_in-requires-clause-fits
apply_in-requires-clause-fits g c =
    let q = rw (← c.self.view_is) at c.requires in
    let le : c.len-count.result ≤ length c.self.inside.staged =
    omega (arith, q.writes, c.len-count.ensures) in
    can_call _ c.args.item.now (setup_in c.self.inside.part) (values_in c.self.inside.part)
    c.args.from (placed_at c.args.item.now.kind c.args.p) c.args.iteration _ _ _
    c.local.ensures.patch.part.shape q.routine c.show.ensures.seen c.place-place.ensures.value
    c.place-place.ensures.inside
    (cell_size _ _ _ c.self.invariant c.len-count.result le ∙ c.len-count.ensures)

pub cells_at-requires : goal.cells_at-requires
cells_at-requires g c =
    let w = (rw (← c.self.view_is) at c.requires).writes in
    let n = count_kept c.apply_in.new.all.items c.self.inside.cells.items
    c.in_ok-apply_in.ensures.sizes in
    rw c.deref.ensures.value
    (omega (arith, n, cell_count _ _ _ c.self.invariant, w, c.len-count.ensures))

pub set_each-requires-clause-count : goal.set_each-requires-clause-count
set_each-requires-clause-count g c =
    let w = (rw (← c.self.view_is) at c.requires).writes in
    let e = rw c.deref.ensures.value at c.cells_at.ensures in
    let le : c.len-count.result ≤ length c.self.inside.staged =
    omega (arith, w, c.len-count.ensures) in
    let lt : c.len-count.result < length c.self.inside.cells.items =
    omega (arith, le, cell_count _ _ _ c.self.invariant) in
    let n : length c.cells_at.result.now ≡ c.len-count.result =
    ap length e ∙ size_kept c.apply_in.new.all.items c.self.inside.cells.items c.len-count.result
    c.in_ok-apply_in.ensures.sizes lt
    ∙ cell_size _ _ _ c.self.invariant c.len-count.result le in
    sym n

pub set_each-requires-clause-room : goal.set_each-requires-clause-room
set_each-requires-clause-room g c =
    let b = rw c.local.ensures.value at c.index_of-at.ensures.below in
    longer_each _ _ _ _ c.self.invariant b

pub returns-clause-staged : goal.returns-clause-staged
returns-clause-staged g c =
    let w = (rw (← c.self.view_is) at c.requires).writes in
    let e = rw c.deref.ensures.value at c.cells_at.ensures in
    let le : c.len-count.result ≤ length c.self.inside.staged =
    omega (arith, w, c.len-count.ensures) in
    let lt : c.len-count.result < length c.self.inside.cells.items =
    omega (arith, le, cell_count _ _ _ c.self.invariant) in
    let n : length c.cells_at.result.now ≡ c.len-count.result =
    ap length e ∙ size_kept c.apply_in.new.all.items c.self.inside.cells.items c.len-count.result
    c.in_ok-apply_in.ensures.sizes lt
    ∙ cell_size _ _ _ c.self.invariant c.len-count.result le in
    let r = rw (c.show.ensures.seen, c.place-place.ensures.value, ← e)
    at c.in_ok-apply_in.ensures.numbers in
    rw (← c.self.view_is) (
      c.cells_at.result.now,
      r,
      n ∙ c.len-count.ensures,
      rw (
        c.set_each.ensures,
        c.index_of-at.ensures.value,
        c.local.ensures.value,
        c.show.ensures.room,
      ) refl,
    )

pub returns-in_err-apply_in-clause-staged : goal.returns-in_err-apply_in-clause-staged
returns-in_err-apply_in-clause-staged g c =
    let r = rw (c.show.ensures.seen, c.place-place.ensures.value)
    at c.in_err-apply_in.ensures.overflow in
    let p = err_from_is_err_and c.from_residual.result c.from_residual.ensures.1 in
    rw (← c.self.view_is, p.1) (r, rw c.show.ensures.room refl)

pub invariant_of-self-2 : goal.invariant_of-self-2
invariant_of-self-2 g c =
    rw c.set_each.ensures (both_kept _ _ _ _ _ c.self.invariant (staged_sizes _ _ _)
    c.in_ok-apply_in.ensures.sizes)
