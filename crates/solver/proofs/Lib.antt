pub mod Marks
pub mod Advice
pub mod Rules
pub mod Plans
pub mod HandingBack
pub mod Rowed
