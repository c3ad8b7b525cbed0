use Rattle.std.proofs.Common.{◌∙◌, sym, refl}
use Rattle.std.proofs.lemmas.List.FromFn.{length-map-range_with_len}
use Rattle.cx_rule.proofs.NumberLaws.{var_below, level_below, stored_grid, grid_size, patch_by_sizes, same_sizes}
use Rattle.cx_rule.proofs.RunLaws.{local_wide}
use Rattle.cx_rule.proofs.part.Part.put_level.Goals as goal

pub take_zone-requires-clause-var : goal.take_zone-requires-clause-var
take_zone-requires-clause-var c =
    let g = rw (← c.self.view_is) at c.requires.level in
    var_below _ c.self.invariant c.args.v c.args.level (stored_grid _ c.args.v c.args.level g)

pub take_zone-requires-clause-level : goal.take_zone-requires-clause-level
take_zone-requires-clause-level c =
    let g = rw (← c.self.view_is) at c.requires.level in
    level_below _ c.self.invariant c.args.v c.args.level (stored_grid _ c.args.v c.args.level g)

pub take_zone-requires-clause-wide : goal.take_zone-requires-clause-wide
take_zone-requires-clause-wide c = local_wide _ c.self.invariant

pub take_zone-requires-clause-room : goal.take_zone-requires-clause-room
take_zone-requires-clause-room c =
    let g = rw (← c.self.view_is) at c.requires.level in
    grid_size _ c.args.v c.args.level c.self.invariant g

pub invariant_of-self : goal.invariant_of-self
invariant_of-self c =
    let g = rw (← c.self.view_is) at c.requires.level in
    rw c.take_zone.ensures.levels
    (patch_by_sizes _ _ c.self.invariant
    (same_sizes c.self.inside.numbers.items c.args.v c.args.level _
    (length-map-range_with_len _ 0 _ ∙ sym (grid_size _ c.args.v c.args.level c.self.invariant g))))

pub returns-clause-patch : goal.returns-clause-patch
returns-clause-patch c = rw (← c.self.view_is) c.self.invariant

pub returns-clause-value : goal.returns-clause-value
returns-clause-value c = rw (← c.self.view_is, c.take_zone.ensures.levels) refl
