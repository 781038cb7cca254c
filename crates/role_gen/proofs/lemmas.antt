pub mod OrderLemmas
pub mod SlavePortLemmas
