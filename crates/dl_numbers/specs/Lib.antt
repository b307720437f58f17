pub mod Rule
pub mod DepthFirst
pub mod Numbers
pub mod Runs
pub mod Places
pub mod Beside
