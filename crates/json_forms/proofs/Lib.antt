pub mod FormLemmas
pub mod PlainTexts
pub mod TextLemmas
