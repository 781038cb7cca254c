pub mod PortCodeLemmas
pub mod PassWinnersLemmas
pub mod DeciderLemmas
