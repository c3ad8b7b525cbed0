use Rattle.std.proofs.Common.{rules, refl, SFits, w32}
use Rattle.std.proofs.lemmas.Int.{to_z-of_z}
use Rattle.cx_rule.proofs.FaceLaws.{halo_box, halo_small, below_three, high_above, low_under}
use Rattle.cx_rule.proofs.part.Part.halo.Goals as goal

pub difference-requires : goal.difference-requires
difference-requires c =
    let p = c.owned-owned.ensures.patch in
    let r : SFits w32 c.along-low.result = search rules in
    let g : SFits w32 c.along-ghosts.result = search rules in
    rw (
      to_z-of_z w32 _ r,
      to_z-of_z w32 _ g,
      c.along-low.ensures,
      c.along-ghosts.ensures,
      c.owned-owned.ensures.value,
      ← c.self.view_is,
    )
    (low_under _ _ _ c.self.invariant.part c.args.dir
    (below_three _ c.args.dir p.part.shape c.requires))

pub sum-requires : goal.sum-requires
sum-requires c =
    let p = c.owned-owned.ensures.patch in
    let r : SFits w32 c.along-high.result = search rules in
    let g : SFits w32 c.along-ghosts.result = search rules in
    rw (
      to_z-of_z w32 _ r,
      to_z-of_z w32 _ g,
      c.along-high.ensures,
      c.along-ghosts.ensures,
      c.owned-owned.ensures.value,
      ← c.self.view_is,
    )
    (high_above _ _ _ c.self.invariant.part c.args.dir
    (below_three _ c.args.dir p.part.shape c.requires))

pub returns-in-Low-clause-value : goal.returns-in-Low-clause-value
returns-in-Low-clause-value c =
    let r : SFits w32 c.along-low.result = search rules in
    let t : SFits w32 c.difference.result = search rules in
    let g : SFits w32 c.along-ghosts.result = search rules in
    rw (
      c.in-Low.is,
      c.slab.ensures,
      to_z-of_z w32 _ t,
      c.difference.ensures,
      to_z-of_z w32 _ r,
      to_z-of_z w32 _ g,
      c.along-low.ensures,
      c.along-ghosts.ensures,
      c.owned-owned.ensures.value,
      ← c.self.view_is,
    ) refl

pub returns-in-Low-clause-ordered : goal.returns-in-Low-clause-ordered
returns-in-Low-clause-ordered c =
    let p = c.owned-owned.ensures.patch in
    rw (returns-in-Low-clause-value c)
    (halo_box _ _ _ p.part c.args.dir (below_three _ c.args.dir p.part.shape c.requires)
    c.args.side)

pub returns-in-Low-clause-small : goal.returns-in-Low-clause-small
returns-in-Low-clause-small c =
    let p = c.owned-owned.ensures.patch in
    rw (returns-in-Low-clause-value c)
    (halo_small _ _ _ p.part c.args.dir (below_three _ c.args.dir p.part.shape c.requires)
    c.args.side)

pub returns-in-High-clause-value : goal.returns-in-High-clause-value
returns-in-High-clause-value c =
    let r : SFits w32 c.along-high.result = search rules in
    let t : SFits w32 c.sum.result = search rules in
    let g : SFits w32 c.along-ghosts.result = search rules in
    rw (
      c.in-High.is,
      c.slab-in-High.ensures,
      to_z-of_z w32 _ t,
      c.sum.ensures,
      to_z-of_z w32 _ r,
      to_z-of_z w32 _ g,
      c.along-high.ensures,
      c.along-ghosts.ensures,
      c.owned-owned.ensures.value,
      ← c.self.view_is,
    ) refl

pub returns-in-High-clause-ordered : goal.returns-in-High-clause-ordered
returns-in-High-clause-ordered c =
    let p = c.owned-owned.ensures.patch in
    rw (returns-in-High-clause-value c)
    (halo_box _ _ _ p.part c.args.dir (below_three _ c.args.dir p.part.shape c.requires)
    c.args.side)

pub returns-in-High-clause-small : goal.returns-in-High-clause-small
returns-in-High-clause-small c =
    let p = c.owned-owned.ensures.patch in
    rw (returns-in-High-clause-value c)
    (halo_small _ _ _ p.part c.args.dir (below_three _ c.args.dir p.part.shape c.requires)
    c.args.side)
