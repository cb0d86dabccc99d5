pub mod Exchange
pub mod Bytes
