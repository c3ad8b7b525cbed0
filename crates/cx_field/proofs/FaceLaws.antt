-- Faces and rows of a part.
pub use Rattle.cx_rule.proofs.FaceLaws.{local_near, face_small, row_index, row_inside, row_end, spans}
