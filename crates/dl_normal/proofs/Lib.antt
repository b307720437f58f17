pub mod RowLemmas
pub mod FormLemmas
pub mod OperandLemmas
pub mod WeightLemmas
pub mod FilledLemmas
