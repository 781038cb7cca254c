pub mod PortIdentity
pub mod Comparison
pub mod ForeignMasters
pub mod StateDecision
pub mod MasterData
pub mod BestLaws
pub mod BestExamples
