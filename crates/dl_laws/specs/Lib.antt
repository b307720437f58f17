pub mod Scratch
pub mod Examples
