pub mod Representation
pub mod PortYield
pub mod DecisionScratch
pub mod ClockYield
pub mod OpenPorts
pub mod DecisionCost
