pub mod DenialLemmas
pub mod ExcludedLemmas
pub mod FormedLemmas
