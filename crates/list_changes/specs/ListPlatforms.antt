-- The platforms of a list, and their masks.
use Rattle.std.specs.Prelude.{ℕ, List, map}
use Rattle.platform_masks.specs.declared.platform.Platform.{Platform}
use Rattle.platform_masks.specs.Platforms.{platforms_of}
use Rattle.component_list.specs.declared.component.Component.{Component}
use Rattle.component_list.specs.FirstFault.{headers_in}

-- numbered from 0 in their order
abbrev pub platforms_in : List Component → List Platform
platforms_in parts = platforms_of (headers_in parts)

-- the masks of these platforms
abbrev pub masks_in : List Component → List ℕ
masks_in parts = map (λ p. p.mask) (platforms_in parts)

-- a platform under another number and mask
abbrev pub renumbered : ℕ → ℕ → Platform → Platform
renumbered number mask p = record p { number = number; mask = mask }
