-- A list stripped to one platform.
use Rattle.std.specs.Prelude.{ℕ, List, map, filter, is_none, ◌||◌, Bool}
use Rattle.igvm_headers.specs.HeaderFacts.{mask_of}
use Rattle.igvm_headers.specs.declared.header.Header.{Header}
use Rattle.platform_masks.specs.Masks.{shares_bit}
use Rattle.component_list.specs.declared.component.Component.{Component}
use Rattle.component_list.specs.Lists.{ImageParts}
use Rattle.list_changes.specs.Changes.{with_header, with_mask}

-- a header without a mask stays, and each other that shares a bit with this mask
abbrev pub stays : ℕ → Header → Bool
stays mask header = is_none (mask_of header) || shares_bit (mask_of header) mask

-- with this mask, where it has one
abbrev pub masked : ℕ → Component → Component
masked mask c = with_header (with_mask mask c.header) c

-- what stays for the platform of this mask, with its mask alone, in order
unfoldable pub stripped_parts : ℕ → List Component → List Component
stripped_parts mask parts = map (masked mask) (filter (λ c. stays mask c.header) parts)

-- the same of a list, whose version stays
abbrev pub stripped : ℕ → ImageParts → ImageParts
stripped mask list = record { version = list.version; parts = stripped_parts mask list.parts }
