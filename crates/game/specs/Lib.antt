pub mod Limits
pub mod Rows
pub mod Game
pub mod Published
pub mod Accepted
pub mod Tidy
pub mod Ranged
