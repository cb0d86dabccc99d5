pub mod Rounds
pub mod Runs
pub mod Settled
pub mod Undone
pub mod First
pub mod Deciding
