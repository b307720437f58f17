pub mod NameListLemmas
pub mod FrozenLemmas
pub mod SameFrozenLemmas
pub mod SetLemmas
pub mod SearchLemmas
mod FrontLemmas
pub mod ArrangeLemmas
pub mod RankLemmas
