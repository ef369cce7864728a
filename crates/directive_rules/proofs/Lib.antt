pub mod RangesLemmas
pub mod SharedPages
pub mod SummaryLemmas
pub mod HeaderWalk
pub mod FirstMisfitLemmas
pub mod NewPages
