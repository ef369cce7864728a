pub mod FurtherWords
pub mod WordsOfFurther
pub mod FurtherView
