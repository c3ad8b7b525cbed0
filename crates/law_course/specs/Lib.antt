pub mod Courses
pub mod Beginnings
pub mod Works
pub mod Starts
pub mod Formers
