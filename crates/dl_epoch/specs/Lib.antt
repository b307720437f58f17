pub mod Known
pub mod Frozen
pub mod Translating
pub mod Covering
pub mod Predicates
