pub mod JoinedWordLemmas
pub mod LineReadingLemmas
pub mod OptionTableLemmas
