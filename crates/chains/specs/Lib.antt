pub mod Lent
pub mod Grouped
