-- What the first misfit is, and what it is to repeat a page, by the places of headers and pages.
use Rattle.std.specs.Prelude.{◌≡◌, ℕ, ◌+◌, ◌*◌, ◌<◌, ◌++◌, List, take, Option, Some, None}
use Rattle.std.specs.List.{slice_get}
use Rattle.igvm_headers.specs.HeaderFacts.{gpa_of}
use Rattle.igvm_headers.specs.declared.header.Header.{Header}
use Rattle.igvm_image.specs.Areas.{placed_pages}
use Rattle.igvm_image.specs.Headers.{PlacedHeader}
use Rattle.igvm_image.specs.declared.area_table.AreaEntry.{AreaEntry}
use Rattle.directive_rules.specs.FirstMisfit.{headers_in}
use Rattle.directive_rules.specs.MisfitRows.{Setting, row}
use Rattle.directive_rules.specs.declared.misfit.Why.{Why}
use Rattle.directive_rules.specs.declared.misfit.Misfit.{Misfit}

-- why a header doesn't fit that stands at a place of `placed`, after `before` and those before it there
abbrev pub row_at : Setting → List PlacedHeader → List PlacedHeader → ℕ → PlacedHeader → Option Why
row_at s before placed place p = row s (headers_in (before ++ take place placed)) p.header

-- all of them fit
abbrev pub NoneFails : Setting → List PlacedHeader → List PlacedHeader → Type 0
NoneFails s before placed =
    (place : ℕ) (p : PlacedHeader) → slice_get placed place ≡ Some p → row_at s before placed place p ≡ None

-- one of them doesn't fit, for this cause, and all before it do
pub record IsFirst (s : Setting) (before placed : List PlacedHeader) (m : Misfit) : Type 0 where
  pub place : ℕ
  pub header : PlacedHeader
  pub stands : slice_get placed place ≡ Some header
  pub number : m.index ≡ header.index
  pub why : row_at s before placed place header ≡ Some m.why
  pub least : (earlier : ℕ) (p : PlacedHeader) → earlier < place → slice_get placed earlier ≡ Some p
      → row_at s before placed earlier p ≡ None

-- page i of one header and page j of the other have one address
pub record IsOnePage (areas : List AreaEntry) (a b : Header) (i j : ℕ) : Type 0 where
  pub first : i < placed_pages areas a
  pub second : j < placed_pages areas b
  pub same : gpa_of a + 4096 * i ≡ gpa_of b + 4096 * j

-- one of the headers before it has a page of this one
pub record IsRepeated (areas : List AreaEntry) (before : List Header) (header : Header) : Type 0 where
  pub place : ℕ
  pub earlier : Header
  pub stands : slice_get before place ≡ Some earlier
  pub i : ℕ
  pub j : ℕ
  pub page : IsOnePage areas header earlier i j
