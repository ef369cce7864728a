pub mod SevBytes
pub use Rattle.igvm_measure.specs.Measured
pub use Rattle.igvm_image.specs.Headers
pub use Rattle.igvm_image.specs.Data
pub use Rattle.platform_masks.specs.Masks
pub use Rattle.sha2.specs.Sha256
pub use Rattle.sha2.specs.Hashers
