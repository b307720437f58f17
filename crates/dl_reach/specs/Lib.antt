pub mod Chain
pub mod Digraph
pub mod Matrix
pub mod Rows
pub mod Search
pub mod Closures
