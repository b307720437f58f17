pub mod OverNames
pub mod Known
pub mod Parts
pub mod Unifiers
pub mod Disjuncts
pub mod Rewriting
pub mod Steps
pub mod Shape
