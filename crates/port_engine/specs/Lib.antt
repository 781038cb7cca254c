pub mod BlankFrames
pub mod PortIntervals
pub mod EngineView
