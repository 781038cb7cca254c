pub mod MadeNumbers
pub mod MadeRecords
pub mod MadeScenario
pub mod MadeText
