pub mod Windows
pub mod WindowExamples
