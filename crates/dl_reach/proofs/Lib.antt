pub mod BitPairs
pub mod Chains
pub mod Closing
pub mod Listing
pub mod Marking
pub mod Matrices
pub mod Searching
pub mod SortedEdges
