pub mod Places
pub mod FieldsRead
pub mod FileOfGame
pub mod GameOfFile
pub mod FileAccepted
pub mod FileBytes
