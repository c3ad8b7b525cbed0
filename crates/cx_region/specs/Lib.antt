pub mod Checks
pub mod Marks
pub mod OneFlag
pub mod Shapes
pub mod Witnesses
