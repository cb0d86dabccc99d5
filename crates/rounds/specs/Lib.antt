pub mod Border
pub mod Renamed
pub mod Search
pub mod Grouped
