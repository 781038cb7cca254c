pub mod LentMessages
