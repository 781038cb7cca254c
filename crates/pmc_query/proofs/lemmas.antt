pub mod PrintedLineLemmas
pub mod AnswerLemmas
pub mod QueryWordLemmas
