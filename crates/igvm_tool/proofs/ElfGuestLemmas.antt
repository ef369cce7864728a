-- The components of an image are fewer than its bytes, so few that a list has them.
use Rattle.std.proofs.Common.{ℕ, ◌+◌, ◌<◌, ◌≤◌, ◌^◌, refl, List, [], ◌∷◌, length, arith, length-append}
use Rattle.std.specs.Prelude.{sum_by}
use Rattle.std.proofs.lemmas.List.FromFn.{length-map-range_with_len}
use Rattle.std.proofs.lemmas.List.Sums.{sum_by-cons}
use Rattle.igvm_headers.specs.Spelling.{header_content}
use Rattle.igvm_headers.proofs.Spelled.{spelled_room}
use Rattle.component_list.specs.declared.component.Component.{Component}
use Rattle.component_list.specs.Lists.{ImageParts}
use Rattle.elf_pages.specs.Pages.{pages_of}
use Rattle.elf_list.specs.ElfParts.{elf_page, elf_parts, with_elf_pages}
use Rattle.image_builder.specs.Layout.{spelled_size, section_size, layout_size}
use Rattle.image_builder.proofs.Saturated.{section_within}

takes_a_byte : (c : Component) → 1 ≤ spelled_size c
takes_a_byte c = omega (arith, spelled_room c.header c.tail (length (header_content c.header c.tail)) refl)

fewer : (parts : List Component) → length parts ≤ sum_by spelled_size parts
fewer [] = omega arith
fewer (c ∷ parts) = omega (arith, takes_a_byte c, fewer parts, sum_by-cons spelled_size c parts)

few_components : (list : ImageParts) → layout_size list ≤ 536870912 → length list.parts < 2 ^ 32
unfolding section_size
few_components list within = omega (arith, fewer list.parts, section_within list)

-- the components and the pages of an ELF file, in an image of at most 536,870,912 bytes
pub few_with_pages : (list : ImageParts) (file : List ℕ) (mask : ℕ) → layout_size (with_elf_pages list file mask) ≤ 536870912 → length list.parts + length (pages_of file) < 2 ^ 32
few_with_pages list file mask within =
    omega (
      arith,
      few_components (with_elf_pages list file mask) within,
      length-append list.parts (elf_parts file mask),
      length-map-range_with_len (elf_page file mask) 0 (length (pages_of file)),
    )
