pub mod PagesFile
pub mod Added
pub use Rattle.launch_platform.specs.Machine
pub use Rattle.igvm_outside.specs.ShelfCalls
