pub mod Phases
pub mod Run
pub mod Scenario
