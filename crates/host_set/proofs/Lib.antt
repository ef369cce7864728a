pub mod Changed
pub mod Ranges
pub mod Covered
pub mod PlanLemmas
pub mod ValueLemmas
pub mod RuleLemmas
