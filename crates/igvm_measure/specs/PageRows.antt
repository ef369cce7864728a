-- The row of pages that a header gives: pages at addresses in a row that enter a measurement in one way.
use Rattle.std.specs.Prelude.{ℕ, List, Option, Some, None, Bool, true, false}
use Rattle.igvm_headers.specs.HeaderFacts.{gpa_of}
use Rattle.igvm_headers.specs.declared.header.Header.{Header}
use Rattle.igvm_headers.specs.declared.header.Header.TheVariants.{Context}
use Rattle.igvm_headers.specs.declared.options.Options.{Options}
use Rattle.igvm_headers.specs.declared.tag.Tag.{Tag}
use Rattle.igvm_headers.specs.declared.platform_kind.PlatformKind.{PlatformKind}
use Rattle.igvm_headers.specs.declared.platform_kind.PlatformKind.TheVariants.{SevSnp}
use Rattle.directive_rules.specs.Tags.{tag_of}
use Rattle.snp_chain.specs.declared.page.SnpPage.{SnpPage}
use Rattle.snp_chain.specs.declared.page.SnpPage.TheVariants as snp
use Rattle.snp_chain.specs.Tagged.{page_type_of}
use Rattle.igvm_image.specs.declared.area_table.AreaEntry.{AreaEntry}
use Rattle.igvm_image.specs.Areas.{placed_pages}
use Rattle.igvm_measure.specs.declared.page_row.PageRow.{PageRow}
use Rattle.igvm_measure.specs.Measured.{has_bytes, is_measured}

-- a row, by its fields
abbrev pub page_row : Option SnpPage → Bool → ℕ → ℕ → PageRow
page_row kind with_bytes gpa count =
    record { kind = kind; with_bytes = with_bytes; gpa = gpa; count = count }

-- `count` pages with a tag on SEV-SNP, and none where there is no tag
abbrev pub tagged_row : Option Tag → ℕ → ℕ → PageRow
tagged_row None gpa count = page_row None false gpa 0
tagged_row (Some tag) gpa count = page_row (Some (page_type_of tag)) (has_bytes tag) gpa count

-- the row of a header on SEV-SNP, where these areas are declared
abbrev pub snp_row : Options → List AreaEntry → Header → PageRow
snp_row options areas (Context gpa mask offset vp) = page_row (Some snp.Vmsa) true gpa 1
snp_row options areas header =
    tagged_row (tag_of header SevSnp options) (gpa_of header) (placed_pages areas header)

-- the row of a header on TDX
abbrev pub tdx_row : List AreaEntry → Header → PageRow
tdx_row areas header = page_row None (is_measured header) (gpa_of header) (placed_pages areas header)

-- the row of a header on a platform of this kind
abbrev pub row_of : PlatformKind → Options → List AreaEntry → Header → PageRow
row_of SevSnp options areas header = snp_row options areas header
row_of _ options areas header = tdx_row areas header
