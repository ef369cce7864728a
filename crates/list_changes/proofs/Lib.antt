pub mod Bits
pub mod Kept
pub mod Walks
pub mod Numbered
