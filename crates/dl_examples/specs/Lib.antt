pub mod Examples
pub mod Folds
pub mod Numbers
