pub mod Bind
pub mod Forms
pub mod Plain
pub mod Texts
