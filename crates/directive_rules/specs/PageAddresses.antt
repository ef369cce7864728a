-- The guest physical addresses of the pages that headers place.
use Rattle.std.specs.Prelude.{ℕ, ◌+◌, ◌*◌, ◌==◌, List, map, Bool}
use Rattle.std.specs.List.{list_any, range_with_len}
use Rattle.igvm_headers.specs.HeaderFacts.{gpa_of}
use Rattle.igvm_headers.specs.declared.header.Header.{Header}
use Rattle.igvm_image.specs.Areas.{placed_pages}
use Rattle.igvm_image.specs.declared.area_table.AreaEntry.{AreaEntry}

-- the addresses of `count` pages in a row, from `gpa` on
unfoldable pub page_row : ℕ → ℕ → List ℕ
page_row gpa count = map (λ k. gpa + 4096 * k) (range_with_len 0 count)

-- the addresses of a header's pages
abbrev pub addresses : List AreaEntry → Header → List ℕ
addresses areas header = page_row (gpa_of header) (placed_pages areas header)

-- two lists have a number in common
unfoldable pub have_common : List ℕ → List ℕ → Bool
have_common xs ys = list_any (λ x. list_any (λ y. x == y) ys) xs

-- a page of one header has the address of a page of the other
abbrev pub share_page : List AreaEntry → Header → Header → Bool
share_page areas header other = have_common (addresses areas header) (addresses areas other)
