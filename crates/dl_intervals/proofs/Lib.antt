pub mod Lists
pub mod Laws
pub mod Growth
pub mod Search
