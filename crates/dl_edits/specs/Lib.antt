pub mod Sets
pub mod Names
pub mod Edits
pub mod Signatures
pub mod Decided
