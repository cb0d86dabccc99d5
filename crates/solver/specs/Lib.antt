pub mod Rules
pub mod Solve
pub mod Work
pub mod Grouped
