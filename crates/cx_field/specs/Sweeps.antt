-- A sweep of a part: the definitions of an undivided turn, over the local box and the item's zone.
pub use Rattle.cx_rule.specs.Swept.{swept_zone, swept_by, swept, IsSamePatch, RoseWithin, Sweeps, CanSweep, IsBoundaryWriter}
