pub mod Indexed
pub mod Weight
pub mod Filled
pub mod Growing
