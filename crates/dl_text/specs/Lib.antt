pub mod NameText
pub mod AxiomText
pub mod FactText
pub mod QueryText
pub mod AnswerText
pub mod Pieces
