pub mod Finite
pub mod Meaning
pub mod Inclusions
pub mod Structures
pub mod Values
pub mod Parts
