-- The pages of an ELF file as components, and a list with them behind its last one.
use Rattle.std.specs.Prelude.{ℕ, ◌+◌, List, [], ◌++◌, length, map, if◌then◌else◌, false}
use Rattle.std.specs.List.{range_with_len}
use Rattle.igvm_headers.specs.declared.header.Header.TheVariants.{Page}
use Rattle.igvm_headers.specs.declared.page_kind.PageKind.TheVariants.{Normal}
use Rattle.igvm_image.specs.HeaderRules.{named_pages}
use Rattle.elf_pages.specs.GuestBytes.{elf_byte}
use Rattle.elf_pages.specs.Pages.{is_filled, page_address, pages_of}
use Rattle.elf_pages.specs.Segments.{segments_of}
use Rattle.component_list.specs.declared.component.Component.{Component}
use Rattle.component_list.specs.declared.component.Content.{Content}
use Rattle.component_list.specs.declared.component.Content.TheVariants.{Zero, Bytes}
use Rattle.component_list.specs.FirstFault.{headers_in}
use Rattle.component_list.specs.Lists.{ImageParts}

-- ---- the pages

-- the 4,096 bytes of page k of a file
unfoldable pub page_bytes : List ℕ → ℕ → List ℕ
page_bytes file k = map (λ i. elf_byte file (page_address file k + i)) (range_with_len 0 4096)

-- its bytes where some segment has one in the file, and else zeros
abbrev pub page_content : List ℕ → ℕ → Content
page_content file k =
    if is_filled (segments_of file) (page_address file k) then Bytes (page_bytes file k) else Zero

-- page k of a file under a mask: normal, measured, and of 4,096 bytes
unfoldable pub elf_page : List ℕ → ℕ → ℕ → Component
elf_page file mask k = record {
  header = Page (page_address file k) mask 0 false false Normal;
  tail = [];
  content = page_content file k;
}

-- all pages of a file under a mask, in the order of their addresses
abbrev pub elf_parts : List ℕ → ℕ → List Component
elf_parts file mask = map (elf_page file mask) (range_with_len 0 (length (pages_of file)))

-- ---- a list with them

-- the list with the pages of a file behind its last component
abbrev pub with_elf_pages : ImageParts → List ℕ → ℕ → ImageParts
with_elf_pages list file mask = record { version = list.version; parts = list.parts ++ elf_parts file mask }

-- how many pages of 4,096 bytes the headers of these components name together
abbrev pub pages_named : List Component → ℕ
pages_named parts = named_pages (headers_in parts)
