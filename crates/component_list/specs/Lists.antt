-- Component lists: the first rule that one breaks, and where.
use Rattle.std.specs.Prelude.{◌≡◌, ℕ, ◌<◌, ◌^◌, List, [], ◌∷◌, ◌++◌, length, ◌==◌, if◌then◌else◌, true, Option, Some, None}
use Rattle.std.specs.List.{AllByRecursion}
use Rattle.igvm_headers.specs.Fixed.{is_version}
use Rattle.igvm_headers.specs.declared.header.Header.{Header}
use Rattle.igvm_headers.specs.declared.fault.ReadWhat.{ReadWhat}
use Rattle.igvm_headers.specs.declared.fault.ReadWhat.TheVariants.{UnknownType, Length, DataType, NoPlatform}
use Rattle.platform_masks.specs.Platforms.{platforms_of}
use Rattle.igvm_image.specs.HeaderRules.{Seen, seen_of, rule_fault}
use Rattle.component_list.specs.declared.component.Component.{Component}
use Rattle.component_list.specs.declared.list_fault.ListFault.{ListFault}
use Rattle.component_list.specs.Components.{is_unknown, carried_kind, breaks_length, breaks_data_type}
use Rattle.component_list.specs.Ranges.{IsComponent}

-- The first rule that a component breaks behind these headers. The rules on headers are the reader's; with file
-- offset 0 the one on data outside the file is kept whatever its size.
unfoldable pub component_fault : Seen → Component → Option ReadWhat
component_fault seen c =
    if is_unknown c.header then Some (UnknownType (carried_kind c.header)) else
    if breaks_length c then Some Length else
    if breaks_data_type c.header then Some DataType else
    rule_fault 0 seen c.header

-- a rule that the component at a place breaks
abbrev pub fault_in : ℕ → ReadWhat → ListFault
fault_in place what = record { place = place; what = what }

-- behind the last component there is a platform
abbrev pub end_fault : List Header → Option ListFault
end_fault before = if length (platforms_of before) == 0 then Some (fault_in (length before) NoPlatform) else None

-- a fault stands at its component's place, and else those behind it are judged
abbrev pub unless_broken : ℕ → Option ReadWhat → Option ListFault → Option ListFault
unless_broken place None others = others
unless_broken place (Some what) others = Some (fault_in place what)

-- the first fault of these components behind these headers
unfoldable pub fault_behind : List Header → List Component → Option ListFault
fault_behind before [] = end_fault before
fault_behind before (c ∷ cs) =
    unless_broken (length before) (component_fault (seen_of before) c) (fault_behind (before ++ c.header ∷ []) cs)

-- the first fault of a list, or nothing
abbrev pub list_fault : List Component → Option ListFault
list_fault parts = fault_behind [] parts

-- a list as contracts see it: the version of its format, and its components in order
pub record ImageParts : Type 0 where
  pub version : ℕ
  pub parts : List Component

-- the components of a list as its type has them
pub record AreComponents (parts : List Component) : Type 0 where
  pub few : length parts < 2 ^ 32
  pub each : AllByRecursion IsComponent parts

-- components that break no rule
pub record IsValid (parts : List Component) : Type 0 where
  pub kept : list_fault parts ≡ None
  pub fits : AreComponents parts

-- a list of a version that is known, whose components break no rule
pub record IsList (list : ImageParts) : Type 0 where
  pub known : is_version list.version ≡ true
  pub valid : IsValid list.parts
