pub mod ServoView
pub mod SteererView
