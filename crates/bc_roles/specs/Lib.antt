pub mod Stamps
pub mod RolesView
pub mod RolesInvariant
pub mod OrderRules
pub mod NextGeneration
