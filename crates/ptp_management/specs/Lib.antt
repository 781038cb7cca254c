pub mod ManagementMessages
pub mod ManagementFields
pub mod ManagementQueries
