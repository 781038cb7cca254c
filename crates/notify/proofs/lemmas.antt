pub mod RingLemmas
pub mod RingCallLemmas
