pub mod WindowNumberLemmas
pub mod ActingLemmas
pub mod RoundLemmas
pub mod CrossingLemmas
