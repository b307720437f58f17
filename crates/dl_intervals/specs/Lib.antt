pub mod Intervals
pub mod Growing
