-- What an accepted file's headers keep that place pages.
use Rattle.std.specs.Prelude.{◌≡◌, ◌<◌, ◌+◌, ◌%◌, ◌^◌, ◌≤◌, ℕ, List, unwrap_or, slice_index}
use Rattle.igvm_headers.specs.Pages.{page_bytes}
use Rattle.igvm_headers.specs.declared.header.Header.{Header}
use Rattle.igvm_headers.specs.declared.header.Header.TheVariants.{Page, Insert}
use Rattle.igvm_image.specs.declared.area_table.AreaEntry.{AreaEntry}
use Rattle.igvm_image.specs.Areas.{area_size}

-- A page's address is a multiple of its size; an inserted area begins at a page and ends within the
-- address space.
abbrev pub PagesFit : List AreaEntry → Header → Type 0
PagesFit areas (Page gpa mask offset large unmeasured kind) = gpa % page_bytes large ≡ 0
PagesFit areas (Insert gpa mask area) =
    (gpa % 4096 ≡ 0) × (gpa + unwrap_or (area_size areas area) 0 ≤ 2 ^ 64)
PagesFit areas _ = Unit {0}

-- a list of bytes
abbrev pub AreBytes : List ℕ → Type 0
AreBytes bytes = (k : ℕ) → slice_index bytes k < 2 ^ 8
