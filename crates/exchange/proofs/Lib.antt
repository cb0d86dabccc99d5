pub mod Fields
pub mod Games
pub mod ExchangedFiles
pub mod Written
pub mod Ends
