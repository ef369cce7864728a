-- The pages that a header places in the guest, as C gets them.
use Rattle.std.specs.Prelude.{ℕ, ◌-◌, ◌*◌, min, List, ◌==◌, Result, Ok, Err, cond}
use Rattle.igvm_headers.specs.Fixed.{fixed_fields}
use Rattle.igvm_headers.specs.Numbers.{slice}
use Rattle.igvm_headers.specs.Pages.{padded_page, small_pages}
use Rattle.igvm_headers.specs.declared.header.Header.{Header}
use Rattle.igvm_headers.specs.declared.header.Header.TheVariants.{Page, Insert, Context}
use Rattle.igvm_image.specs.Areas.{areas_of, placed_pages}
use Rattle.igvm_image.specs.Headers.{headers_of}
use Rattle.igvm_c.specs.declared.pages.PagesFields.{PagesFields}
use Rattle.igvm_c.specs.declared.refusal.Refusal.{Refusal}
use Rattle.igvm_c.specs.declared.refusal.Refusal.TheVariants.{NoPages}
use Rattle.igvm_c.specs.Files.{file_refusal}
use Rattle.igvm_c.specs.Headers.{header_at}
use Rattle.igvm_c.specs.Refusals.{and_then, unless}

-- How many of so many bytes at a file offset the file has, up to its total size: none at 0, which stands for zeros.
unfoldable pub stored_size : List ℕ → ℕ → ℕ → ℕ
stored_size file at size = cond (at == 0) 0 (min size ((fixed_fields file).total - at))

-- pages in a row from an address on, whose bytes stand at a file offset
abbrev pub stored_run : List ℕ → ℕ → ℕ → ℕ → PagesFields
stored_run file gpa count at =
    record { gpa = gpa; count = count; data_at = at; data_size = stored_size file at (4096 * count) }

-- pages in a row whose bytes the file doesn't have
abbrev pub empty_run : ℕ → ℕ → PagesFields
empty_run gpa count = record { gpa = gpa; count = count; data_at = 0; data_size = 0 }

-- The pages that a header places: those of a page header and of a context with their bytes, those of an insert with none,
-- since they are its parameter area's.
abbrev pub pages_of : List ℕ → Header → Result PagesFields Refusal
pages_of file (Page gpa mask offset large unmeasured kind) = Ok (stored_run file gpa (small_pages large) offset)
pages_of file (Context gpa mask offset vp) = Ok (stored_run file gpa 1 offset)
pages_of file (Insert gpa mask area) =
    Ok (empty_run gpa (placed_pages (areas_of (headers_of file)) (Insert gpa mask area)))
pages_of file _ = Err NoPages

-- the pages of the header at a file offset
abbrev pub pages_in : List ℕ → ℕ → Result PagesFields Refusal
pages_in file at = unless (file_refusal file) (and_then (header_at file at) (λ found. pages_of file found.header))

-- page k of pages in a row: what the file has of it, followed by zeros
abbrev pub page_in : List ℕ → PagesFields → ℕ → List ℕ
page_in file run k = padded_page (slice (slice file run.data_at run.data_size) (4096 * k) 4096)
