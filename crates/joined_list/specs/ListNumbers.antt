-- What is gathered of one list before it is joined with another.
use Rattle.std.specs.Prelude.{◌≡◌, List}
use Rattle.igvm_image.specs.HeaderRules.{named_pages}
use Rattle.component_list.specs.FirstFault.{headers_in}
use Rattle.component_list.specs.declared.component.Component.{Component}
use Rattle.list_changes.specs.ListPlatforms.{masks_in}
use Rattle.joined_list.specs.NewNumbers.{areas_in}
use Rattle.joined_list.specs.declared.numbers.Numbers.{Numbers}

-- the masks of its platforms and the indices of its areas, in its order, and how many pages it names
pub record AreNumbersOf (parts : List Component) (numbers : Numbers) : Type 0 where
  pub masks : numbers.masks.items ≡ masks_in parts
  pub areas : numbers.areas.items ≡ areas_in parts
  pub pages : numbers.pages ≡ named_pages (headers_in parts)
