pub mod Predicates
pub mod Rows
pub mod Hierarchy
pub mod Below
pub mod Nodes
pub mod Ways
pub mod Graphs
pub mod Picking
