-- Numbers put into a list, from a place on.
pub use Rattle.cx_rule.specs.Staging.{put_from}
