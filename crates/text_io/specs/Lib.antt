pub mod SourceAndSink
pub mod MemEnds
pub mod TextLines
pub mod Numerals
