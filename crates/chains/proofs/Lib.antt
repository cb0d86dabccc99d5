pub mod Counts
pub mod Chains
pub mod Filling
pub mod Same
pub mod Parting
