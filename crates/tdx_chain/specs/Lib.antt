pub mod Stream
pub mod Held
pub use Rattle.igvm_headers.specs.Endian
pub use Rattle.igvm_headers.specs.Numbers
pub use Rattle.igvm_headers.specs.Pages
pub use Rattle.sha2.specs.Sha512
pub use Rattle.sha2.specs.Hashers
