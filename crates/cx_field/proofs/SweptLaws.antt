-- Sweeps of parts, for those who sweep them.
pub use Rattle.cx_rule.proofs.SweptLaws.{declared, scalar_reads, cell_swept_of}
