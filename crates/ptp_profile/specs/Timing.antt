pub mod Servo
pub mod OffsetAndDelay
pub mod TimingExamples
