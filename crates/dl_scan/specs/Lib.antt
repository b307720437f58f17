pub mod Pairs
pub mod Scans
pub mod Reading
pub mod Sieves
