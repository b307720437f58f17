pub mod Characters
pub mod Keywords
pub mod Grammar
pub mod Reading
pub mod Scanning
