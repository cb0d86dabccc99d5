pub mod Sets
pub mod Arena
pub mod Play
pub mod Win
pub mod Passes
pub mod Plan
