pub mod DueTimerLemmas
pub mod LeastTimerLemmas
