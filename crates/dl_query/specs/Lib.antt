pub mod Symbols
pub mod Grammar
pub mod Steps
pub mod Reading
pub mod Queries
pub mod Parts
