-- The boxes of a part.
pub use Rattle.cx_rule.proofs.PartLaws.{product, own_gap, local_box, local_small}
