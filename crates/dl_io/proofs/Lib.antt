pub mod Got
pub mod Pieces
pub mod Answered
pub mod Different
pub mod Gathered
pub mod Lent
pub mod PrintLemmas
pub mod Handed
