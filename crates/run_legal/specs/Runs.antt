pub mod Courses
pub mod RightEntries
pub mod LegalRuns
pub mod WorldInvariant
pub mod LegalExamples
pub mod NamedChanges
