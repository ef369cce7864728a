pub mod Changes
pub mod ListPlatforms
pub use Rattle.component_list.specs.FirstFault
pub use Rattle.component_list.specs.Lists
