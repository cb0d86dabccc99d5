pub mod Numbers
pub mod Laws
pub mod Sound
pub mod Mixed
pub mod Told
