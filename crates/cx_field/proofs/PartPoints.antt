-- Points of a part.
pub use Rattle.cx_rule.proofs.PartPoints.{each_passes, names_grid, own_local}
