-- What the first fault of a list is, in words: the first component that breaks a rule behind those before it has it,
-- and else the lack of a platform.
use Rattle.std.specs.Prelude.{◌≡◌, ◌<◌, ◌⊎◌, ℕ, List, [], length, map, take, Option, Some, None, option_and_then}
use Rattle.std.specs.List.{slice_get}
use Rattle.igvm_headers.specs.declared.header.Header.{Header}
use Rattle.igvm_headers.specs.declared.fault.ReadWhat.{ReadWhat}
use Rattle.igvm_headers.specs.declared.fault.ReadWhat.TheVariants.{NoPlatform}
use Rattle.igvm_image.specs.HeaderRules.{seen_of}
use Rattle.platform_masks.specs.Platforms.{platforms_of}
use Rattle.component_list.specs.declared.component.Component.{Component}
use Rattle.component_list.specs.declared.list_fault.ListFault.{ListFault}
use Rattle.component_list.specs.Lists.{component_fault, fault_in}

-- the headers of these components
abbrev pub headers_in : List Component → List Header
headers_in parts = map (λ c. c.header) parts

-- the rule that the component at a place breaks behind those before it, where one stands there and breaks one
abbrev pub broken_at : List Component → ℕ → Option ReadWhat
broken_at parts place = option_and_then (component_fault (seen_of (headers_in (take place parts)))) (slice_get parts place)

-- no component before a place breaks a rule
abbrev pub AreKept : List Component → ℕ → Type 0
AreKept parts place = (k : ℕ) → k < place → broken_at parts k ≡ None

-- the components before one break no rule, and it breaks this one
pub record ComponentFails (parts : List Component) (fault : ListFault) : Type 0 where
  pub before : AreKept parts fault.place
  pub breaks : broken_at parts fault.place ≡ Some fault.what

-- no component breaks a rule, and none is a platform
pub record LacksPlatform (parts : List Component) (fault : ListFault) : Type 0 where
  pub kept : AreKept parts (length parts)
  pub none : platforms_of (headers_in parts) ≡ []
  pub same : fault ≡ fault_in (length parts) NoPlatform

abbrev pub IsFirstFault : List Component → ListFault → Type 0
IsFirstFault parts fault = ComponentFails parts fault ⊎ LacksPlatform parts fault

-- no component breaks a rule, and one is a platform
pub record KeepsRules (parts : List Component) : Type 0 where
  pub kept : AreKept parts (length parts)
  pub platform : 0 < length (platforms_of (headers_in parts))
