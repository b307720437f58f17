pub mod Lists
pub mod Rows
pub mod Laws
pub mod Shards
pub mod Searching
pub mod Merging
