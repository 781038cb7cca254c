pub mod TimerFloorLemmas
pub mod PortFloorLemmas
pub mod EntryFloorLemmas
pub mod NextFloorLemmas
pub mod WindowLemmas
pub mod WindowOrderLemmas
pub mod WindowExampleLemmas
