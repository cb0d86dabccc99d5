pub mod Blocks
pub mod Round
pub mod Hunt
pub mod Parts
