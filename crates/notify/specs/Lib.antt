pub mod RingView
pub mod RingCalls
