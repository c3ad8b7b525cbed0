-- The faces of a part, and what filling its ghosts leaves.
pub use Rattle.cx_rule.specs.Faces.{face_in, halo_in, AreGrid, box_numbers, variable_at, IsFilled, Filled}
