-- The bytes of a page of a file: how many they are, and that they are bytes where the file has bytes.
use Rattle.std.proofs.Common.{◌≡◌, ℕ, ◌+◌, List, length, Bool, true, false, refl}
use Rattle.std.proofs.lemmas.Bool.{eq-eqb}
use Rattle.std.proofs.lemmas.List.FromFn.{length-map-range_with_len}
use Rattle.elf_pages.specs.GuestBytes.{elf_byte}
use Rattle.elf_pages.specs.Pages.{is_filled, page_address}
use Rattle.elf_pages.specs.Segments.{segments_of}
use Rattle.component_list.specs.declared.component.Content.TheVariants.{Zero, Bytes}
use Rattle.component_list.specs.Components.{fills}
use Rattle.elf_list.specs.ElfParts.{page_bytes, page_content}
use Rattle.std.specs.Prelude.{if◌then◌else◌}

pub length-page_bytes : (file : List ℕ) (k : ℕ) → length (page_bytes file k) ≡ 4096
unfolding page_bytes
length-page_bytes file k = length-map-range_with_len (λ (i : ℕ). elf_byte file (page_address file k + i)) 0 4096

-- its data have the size of a page
pub page_is_full : (file : List ℕ) (k : ℕ) → fills 4096 (page_content file k) ≡ true
page_is_full file k = cases (is_filled (segments_of file) (page_address file k))
  where
    cases : (b : Bool) → fills 4096 (if b then Bytes (page_bytes file k) else Zero) ≡ true
    cases true = eq-eqb (length (page_bytes file k)) 4096 (length-page_bytes file k)
    cases false = refl
