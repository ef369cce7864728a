pub mod AreaBytes
pub mod AreaHistory
pub mod Slots
pub mod Calls
pub use Rattle.igvm_image.specs.Data
pub use Rattle.igvm_headers.specs.Numbers
