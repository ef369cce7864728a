pub mod RuleTexts
