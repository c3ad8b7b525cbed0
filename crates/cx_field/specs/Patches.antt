-- A part's numbers. They stand with what a routine is, below this crate.
pub use Rattle.cx_rule.specs.Patches.{PatchValue, setup_in, IsPart, IsStored, IsGridLevel, IsScalar, number_count, IsPatch, number_at, values_in, beside, numbers_along, with_numbers, with_number, unstaged, zeros, capped, write_count, value_count, new_patch}
