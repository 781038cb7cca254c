pub mod PartLemmas
pub mod QuotientLemmas
pub mod WordSizeLemmas
pub mod CounteractionLemmas
pub mod ServoViewLemmas
pub mod SteererViewLemmas
