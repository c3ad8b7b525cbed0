pub mod Signs
pub mod Known
pub mod Evaluation
pub mod Seen
pub mod AtMost
pub mod Exprs
pub mod Parts
pub mod Printed
