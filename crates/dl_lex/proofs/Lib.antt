pub mod Standing
pub mod Runs
pub mod Tokens
pub mod Quoted
pub mod Ends
pub mod Ranges
pub mod Unique
pub mod Spelled
