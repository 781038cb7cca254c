pub mod Best
pub mod Wire
pub mod Timing
pub mod Port
pub mod Roles
