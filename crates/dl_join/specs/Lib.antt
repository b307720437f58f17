pub mod Disjuncts
pub mod Tuples
pub mod Needs
pub mod Searching
pub mod Probing
pub mod Gathering
pub mod Leaves
pub mod Direct
