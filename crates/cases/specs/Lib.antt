pub mod Files
pub mod Numbered
pub mod Table
pub mod Bound
pub mod Exchanges
