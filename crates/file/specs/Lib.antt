pub mod Number
pub mod Fault
pub mod Layout
pub mod Refusals
pub mod Sound
