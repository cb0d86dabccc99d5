pub mod Run
pub mod Hunting
pub mod Log
pub mod First
pub mod Grouped
