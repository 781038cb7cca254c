pub mod PortStates
pub mod PortTimers
pub mod Port
pub mod PortMessages
pub mod PrintedNames
