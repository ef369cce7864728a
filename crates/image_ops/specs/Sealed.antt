-- A list sealed for a platform: its ID blocks that count for the platform want one launch digest.
use Rattle.std.specs.Prelude.{◌≡◌, ℕ, List, map, if◌then◌else◌, ◌&&◌, Bool, Option, Some, None}
use Rattle.std.specs.List.{list_any}
use Rattle.igvm_headers.specs.declared.header.Header.{Header}
use Rattle.platform_masks.specs.Masks.{applies}
use Rattle.directive_rules.specs.DirectiveFacts.{is_id_block}
use Rattle.component_list.specs.declared.component.Component.{Component}
use Rattle.component_list.specs.Lists.{ImageParts}
use Rattle.list_changes.specs.Changes.{with_digest, with_header}

-- an ID block that counts for the platform of a mask wants this digest; every other header stays as it is
abbrev pub sealed_header : ℕ → List ℕ → Header → Header
sealed_header mask digest header = if applies header mask then with_digest digest header else header

abbrev pub sealed_part : ℕ → List ℕ → Component → Component
sealed_part mask digest c = with_header (sealed_header mask digest c.header) c

unfoldable pub sealed_parts : ℕ → List ℕ → List Component → List Component
sealed_parts mask digest parts = map (sealed_part mask digest) parts

-- the same of a list, whose version stays
abbrev pub sealed : ℕ → List ℕ → ImageParts → ImageParts
sealed mask digest list = record { version = list.version; parts = sealed_parts mask digest list.parts }

-- the second list is the first, sealed with a digest, where there is one
abbrev pub IsSealed : ℕ → Option (List ℕ) → ImageParts → ImageParts → Type 0
IsSealed mask None list new = ⊥
IsSealed mask (Some digest) list new = new ≡ sealed mask digest list

-- an ID block counts for the platform of a mask
abbrev pub has_id_block : ℕ → List Component → Bool
has_id_block mask parts = list_any (λ c. is_id_block c.header && applies c.header mask) parts
