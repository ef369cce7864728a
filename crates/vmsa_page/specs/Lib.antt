pub mod Fields
pub mod Vmsas
pub mod VmsaViews
pub mod Pages
pub mod Overlays
pub mod Texts
pub mod Tokens
pub mod Sources
pub use Rattle.json_forms.specs.Forms
pub use Rattle.json_forms.specs.Texts as JsonTexts
