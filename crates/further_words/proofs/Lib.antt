mod TestLemmas
mod CommandLemmas
mod ChoiceWords
mod NumberWords
mod SevChoiceWords
mod FurtherLemmas
