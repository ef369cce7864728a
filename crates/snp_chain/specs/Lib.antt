pub mod Chain
pub use Rattle.igvm_headers.specs.Endian
pub use Rattle.igvm_headers.specs.Pages
pub use Rattle.sha2.specs.Sha512
pub mod Tagged
