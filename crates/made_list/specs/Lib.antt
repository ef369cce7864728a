pub mod MadeList
pub mod MadeImage
pub use Rattle.component_list.specs.Lists
pub use Rattle.image_builder.specs.Layout
pub use Rattle.igvm_image.specs.Headers
pub use Rattle.platform_masks.specs.Platforms
pub use Rattle.directive_rules.specs.FirstMisfit
pub use Rattle.igvm_measure.specs.WantedDigest
