pub mod Blocks
pub mod Hunt
pub mod Border
pub mod Split
pub mod Sound
pub mod Refine
