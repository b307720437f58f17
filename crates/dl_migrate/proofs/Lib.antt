pub mod ListLemmas
mod PlaceLemmas
mod PickLemmas
mod PickedLemmas
mod TallyLemmas
pub mod SweepLemmas
mod CoverLemmas
pub mod NameLemmas
pub mod MoveLemmas
mod MovedLemmas
