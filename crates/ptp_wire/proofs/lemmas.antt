pub mod FieldLemmas
pub mod MessageLengthLemmas
