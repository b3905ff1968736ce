pub mod LabelsKept
pub mod LinesKept
pub mod NamesKept
pub mod OpenedLogs
pub mod OrderFaults
pub mod PartsOpened
pub mod RowsTold
