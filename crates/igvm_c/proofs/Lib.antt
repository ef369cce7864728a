pub mod HeaderLemmas
pub mod WalkLaws
pub mod PageLaws
pub mod RuleLaws
