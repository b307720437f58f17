pub mod Lists
pub mod Tallies
pub mod Runs
pub mod Picking
pub mod Sweeping
pub mod Reclaiming
pub mod Moving
pub mod Naming
