pub mod Fields
pub use Rattle.igvm_headers.specs.FaultCounts
pub use Rattle.igvm_outside.specs.Outputs
