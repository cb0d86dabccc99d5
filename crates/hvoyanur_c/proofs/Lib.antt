pub mod Short
pub mod Unpacked
