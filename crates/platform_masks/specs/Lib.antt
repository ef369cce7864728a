pub mod Masks
pub mod Platforms
pub mod PlatformsLaws
pub use Rattle.igvm_headers.specs.PlatformKinds
