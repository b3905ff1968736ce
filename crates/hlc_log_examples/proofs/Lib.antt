mod AuditedHistories
pub mod EventCount
pub mod Settings
