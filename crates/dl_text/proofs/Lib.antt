pub mod TextLemmas
pub mod ConstructLemmas
pub mod LineLemmas
