pub mod PagesOf
pub mod Regions
pub mod Sharing
pub mod Bytes
pub mod Walks
pub mod Values
pub mod Copies
pub mod Fields
