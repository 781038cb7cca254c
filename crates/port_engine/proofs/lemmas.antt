pub mod FrameLengthLemmas
pub mod EngineStateLemmas
pub mod TimeFlagLemmas
pub mod TimingMessageLemmas
pub mod SendingTimerLemmas
