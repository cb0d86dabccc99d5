pub mod Winners
pub mod Meaning
pub mod Trades
pub mod Demand1
pub mod Demand2
pub mod Demand3
pub mod Files
pub mod Calls
