pub mod CountLemmas
pub mod OrderedLemmas
pub mod RowLemmas
pub mod MergeLemmas
pub mod SearchLemmas
pub mod FindLemmas
pub mod StepLemmas
pub mod ScanLemmas
