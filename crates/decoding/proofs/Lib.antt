pub mod GameRows
pub mod Mapped
pub mod Accepted
