pub mod Playing
pub mod Ending
