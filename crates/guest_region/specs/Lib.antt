pub mod ByteSlices
pub mod Ownership
pub mod Lease
pub mod LendsPart
pub mod PagesOf
pub mod RegionInvariant
