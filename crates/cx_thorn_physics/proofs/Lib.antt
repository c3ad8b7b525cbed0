pub mod Ranges
pub mod Cells
pub mod FlowLaws
pub mod GasRows
pub mod HeatRows
