pub mod AnsweredSets
pub mod QueryWords
