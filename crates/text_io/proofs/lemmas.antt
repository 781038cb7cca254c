pub mod MemoryReadLemmas
pub mod NumeralLemmas
pub mod WordLemmas
