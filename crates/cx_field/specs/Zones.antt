-- The points that an item computes in a part.
pub use Rattle.cx_rule.specs.Zones.{in_zone, inner, nothing, first_of, zone_of, item_zone, zone_points}
