-- Zones and regions.
pub use Rattle.cx_rule.proofs.ZoneLaws.{in_part, zone_same, inner_is, nothing_is}
