-- The numbers of a component are those of its types: a definition's variables range over all numbers.
use Rattle.std.specs.Prelude.{◌≡◌}
use Rattle.igvm_headers.specs.HeaderFacts.{data_offset}
use Rattle.igvm_headers.specs.SpellingConditions.{NumbersFit, AreBytes, ListsAreBytes}
use Rattle.component_list.specs.declared.component.Component.{Component}
use Rattle.component_list.specs.declared.component.Content.{Content}
use Rattle.component_list.specs.declared.component.Content.TheVariants.{Nothing, Zero, Bytes}

-- data are bytes
abbrev pub HoldsBytes : Content → Type 0
HoldsBytes Nothing = Unit {0}
HoldsBytes Zero = Unit {0}
HoldsBytes (Bytes bytes) = AreBytes bytes

-- a component as its type has it, with its file offset 0
pub record IsComponent (c : Component) : Type 0 where
  pub numbers : NumbersFit c.header
  pub lists : ListsAreBytes c.header
  pub tail : AreBytes c.tail
  pub content : HoldsBytes c.content
  pub offset : data_offset c.header ≡ 0
