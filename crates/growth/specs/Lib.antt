pub mod Stamp
pub mod Net
pub mod Queue
pub mod Grouped
pub mod Steps
