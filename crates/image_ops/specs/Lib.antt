pub mod Stripped
pub mod Sealed
pub mod SealRefusals
pub use Rattle.list_changes.specs.Changes
pub use Rattle.list_changes.specs.ListPlatforms
pub use Rattle.launch_likeness.specs.LaunchedAlike
pub use Rattle.igvm_measure.specs.WantedDigest
