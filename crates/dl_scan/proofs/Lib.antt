pub mod FactLemmas
pub mod BelowLemmas
pub mod SieveLemmas
pub mod ReadLemmas
pub mod EpochLemmas
