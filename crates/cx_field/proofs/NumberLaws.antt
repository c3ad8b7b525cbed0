-- How many numbers a level has.
pub use Rattle.cx_rule.proofs.NumberLaws.{var_count, level_same, grid_size, scalar_size}
