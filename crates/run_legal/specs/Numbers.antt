pub mod Marks
pub mod LogNumbers
pub mod Knowledge
pub mod GrownLogs
