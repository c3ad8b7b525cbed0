use Rattle.std.proofs.Common.{◌∙◌, sym, []}
use Rattle.cx_core_buffers.specs.Boards.{Given}
use Rattle.cx_core_buffers.proofs.BoardLaws.{taken_by, takes, takes_is, takes_dropped, dropped_is, row_some}
use Rattle.cx_core_buffers.proofs.CheckpointLaws.{any_default}
use Rattle.cx_core_buffers.proofs.boards.Boards.take.Goals as goal

pub drop_firsts-requires : goal.drop_firsts-requires
drop_firsts-requires c k d l =
    let old : Given = record {
      given = c.self.inside.given.items;
      taken = c.self.inside.taken.items;
    } in
    let there = rw (← c.self.view_is) at c.requires.to in
    let ready = rw (← c.self.view_is) at c.requires.ready in
    let some = sym (rw (c.deref.ensures.value, c.add_one.ensures) at c.all_some.ensures)
    ∙ c.if-all_some.true in
    let s = row_some (taken_by old c.args.to) (takes_is old c.self.invariant c.args.to there ready)
    k l some in
    rw (any_default c.self.inside.given.items k d [] l) s

pub invariant_of-self : goal.invariant_of-self
invariant_of-self c =
    let old : Given = record {
      given = c.self.inside.given.items;
      taken = c.self.inside.taken.items;
    } in
    let there = rw (← c.self.view_is) at c.requires.to in
    let ready = rw (← c.self.view_is) at c.requires.ready in
    let some = sym (rw (c.deref.ensures.value, c.add_one.ensures) at c.all_some.ensures)
    ∙ c.if-all_some.true in
    rw (c.drop_firsts.ensures, c.less_one.ensures, c.add_one.ensures)
    (dropped_is (taken_by old c.args.to) (takes_is old c.self.invariant c.args.to there ready) some)

pub returns-then-all_some : goal.returns-then-all_some
returns-then-all_some c =
    let old : Given = record {
      given = c.self.inside.given.items;
      taken = c.self.inside.taken.items;
    } in
    let there = rw (← c.self.view_is) at c.requires.to in
    let ready = rw (← c.self.view_is) at c.requires.ready in
    let some = sym (rw (c.deref.ensures.value, c.add_one.ensures) at c.all_some.ensures)
    ∙ c.if-all_some.true in
    rw (← c.self.view_is, c.drop_firsts.ensures, c.less_one.ensures, c.add_one.ensures)
    (takes_dropped old c.self.invariant c.args.to there ready some)

pub returns-else-all_some : goal.returns-else-all_some
returns-else-all_some c =
    let old : Given = record {
      given = c.self.inside.given.items;
      taken = c.self.inside.taken.items;
    } in
    let there = rw (← c.self.view_is) at c.requires.to in
    let ready = rw (← c.self.view_is) at c.requires.ready in
    rw (← c.self.view_is, c.add_one.ensures) (takes old c.self.invariant c.args.to there ready)
