pub mod Machine
pub mod Agreement
pub mod Orders
pub mod Together
