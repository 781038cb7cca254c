pub mod Floor
pub mod Header
pub mod Least
pub mod Room
