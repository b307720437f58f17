pub mod NameList
pub mod Frozen
pub mod Arrange
pub mod Iris
pub mod Hints
