pub mod PreyStates
pub mod FirstMoves
pub mod Searching
pub mod RowSets
