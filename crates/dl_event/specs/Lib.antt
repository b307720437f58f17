pub mod Answers
pub mod Auxiliaries
