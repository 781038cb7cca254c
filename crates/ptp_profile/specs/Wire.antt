pub mod MessageFormat
pub mod MessageRanges
pub mod WireExamples
