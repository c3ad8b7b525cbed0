pub mod JobLaws
pub mod RunLaws
mod PartLaws
mod QueueLaws
mod UndividedRows
