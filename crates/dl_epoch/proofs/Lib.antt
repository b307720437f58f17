pub mod KnownLemmas
pub mod FewLemmas
pub mod EpochLemmas
pub mod NumberingLemmas
pub mod IntervalLemmas
pub mod FrozenLemmas
pub mod CoveringLemmas
pub mod PredicateLemmas
