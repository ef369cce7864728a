pub mod RowsWithPages
pub mod PagesViews
pub mod JoinedRecords
pub mod FaultCount
pub mod ChangedEntries
pub mod FittingTags
pub mod EnteringPages
