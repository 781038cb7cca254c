pub mod RunErrors
pub mod OptionWindows
pub mod ActingState
pub mod LeastDue
