pub mod Present
pub mod Bordering
pub mod Copies
pub mod Splitting
