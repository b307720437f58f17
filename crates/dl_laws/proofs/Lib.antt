pub mod OpenLemmas
pub mod InUseLemmas
pub mod ScratchLemmas
pub mod ExampleLemmas
