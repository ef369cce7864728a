-- An ELF file in guest memory.
use Rattle.std.specs.Prelude.{◌≡◌, ℕ, ◌+◌, ◌<◌, List, length, true, Some, None}
use Rattle.igvm_headers.specs.declared.options.Options.{Options}
use Rattle.platform_masks.specs.declared.platform.Platform.{Platform}
use Rattle.platform_masks.specs.Masks.{shares_bit}
use Rattle.host_set.specs.declared.range.PlanRange.{PlanRange}
use Rattle.host_set.specs.Hosts.{HostValues}
use Rattle.directive_rules.specs.FirstMisfit.{first_misfit}
use Rattle.image_loader.specs.Loads.{Load, load_of}
use Rattle.elf_pages.specs.GuestBytes.{elf_byte}
use Rattle.elf_pages.specs.Pages.{page_address, pages_of}
use Rattle.elf_list.specs.GuestMemory.{IsGuestByte}

-- A load places the pages of an ELF file: at each of their addresses the file's byte, and no other.
pub record PlacesElf (load : Load) (file : List ℕ) : Type 0 where
  pub placed : (k i : ℕ) → k < length (pages_of file) → i < 4096
      → IsGuestByte load (page_address file k + i) (elf_byte file (page_address file k + i))
  pub alone : (k i byte : ℕ) → k < length (pages_of file) → i < 4096 → IsGuestByte load (page_address file k + i) byte
      → byte ≡ elf_byte file (page_address file k + i)

-- each load of an image does, on a platform that a mask names and a host that the image fits, whatever the options
abbrev pub AlwaysPlacesElf : List ℕ → ℕ → List ℕ → Type 0
AlwaysPlacesElf image mask file =
    (platform : Platform) (options : Options) (host : HostValues) (plan : List PlanRange)
    → shares_bit (Some mask) platform.mask ≡ true → first_misfit image platform plan host ≡ None
    → PlacesElf (load_of image platform options host) file
