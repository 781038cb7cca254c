pub mod ActorTurns
pub mod ActorLoop
pub mod ActorSteps
pub mod ReplayError
