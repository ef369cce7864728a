mod NumberLemmas
mod WordsLemmas
