pub mod SevPlaced
pub mod SevLoading
pub mod SevAsLaunch
pub use Rattle.image_loader.specs.Loads
pub use Rattle.image_loader.specs.PlacedPages
pub use Rattle.sev_chain.specs.SevBytes
pub use Rattle.sev_platform.specs.SevMachine
pub use Rattle.directive_rules.specs.FirstMisfit
