-- The pages that are left of a header.
use Rattle.std.specs.Prelude.{◌≡◌, ℕ, ◌+◌, ◌-◌, ◌*◌, ◌%◌, ◌<◌, ◌≤◌, ◌^◌, List, [], map, Option, Some, None, true}
use Rattle.std.specs.List.{range_with_len}
use Rattle.igvm_headers.specs.HeaderFacts.{data_pages}
use Rattle.igvm_headers.specs.declared.options.Options.{Options}
use Rattle.igvm_headers.specs.declared.platform_kind.PlatformKind.{PlatformKind}
use Rattle.igvm_headers.specs.declared.platform_kind.PlatformKind.TheVariants.{SevSnp}
use Rattle.igvm_image.specs.declared.area_table.AreaEntry.{AreaEntry}
use Rattle.igvm_image.specs.Data.{Data, data_page}
use Rattle.igvm_image.specs.Headers.{PlacedHeader}
use Rattle.igvm_measure.specs.declared.page_row.PageRow.{PageRow}
use Rattle.igvm_measure.specs.declared.run.Run.{Run}
use Rattle.igvm_measure.specs.declared.run.MeasuredPage.{MeasuredPage}
use Rattle.igvm_measure.specs.Measured.{Measured, bytes_if, on_snp, on_tdx, snp_header_measured, tdx_header_measured}

-- a page, without where it lies in memory
abbrev pub page_view : MeasuredPage → Measured
page_view p = record { kind = p.kind; gpa = p.gpa; bytes = p.bytes }

-- page k of a row
abbrev pub row_page : PageRow → Data → ℕ → Measured
row_page row content k = record {
  kind = row.kind;
  gpa = row.gpa + 4096 * k;
  bytes = bytes_if row.with_bytes (data_page content k);
}

-- the pages of a row from one on
abbrev pub pages_from : ℕ → PageRow → Data → List Measured
pages_from next row content = map (row_page row content) (range_with_len next (row.count - next))

-- the pages that are left of a run
abbrev pub run_left : Run → List Measured
run_left r = pages_from r.next r.row r.content

-- A run's pages have addresses of 64 bits, which are multiples of 4,096 where there are no page types, and its data have
-- the pages whose bytes are measured.
pub record IsRun (r : Run) : Type 0 where
  pub within : r.next ≤ r.row.count
  pub fits : r.row.gpa + 4096 * r.row.count < 2 ^ 64 + 4096
  pub aligned : r.row.kind ≡ None → r.row.gpa % 4096 ≡ 0
  pub pages : r.row.with_bytes ≡ true → r.row.count ≤ r.content.pages

-- what a header gives on a platform of this kind
abbrev pub header_measured : PlatformKind → Options → List AreaEntry → PlacedHeader → List Measured
header_measured SevSnp options areas placed = map on_snp (snp_header_measured options areas placed)
header_measured _ options areas placed = map on_tdx (tdx_header_measured areas placed)

-- a header's data have the pages that its record says
abbrev pub HasItsPages : PlacedHeader → Type 0
HasItsPages p = p.content.pages ≡ data_pages p.header

-- the pages that are left of a run, if there is one
abbrev pub option_left : Option Run → List Measured
option_left None = []
option_left (Some r) = run_left r

-- a run, if there is one, keeps its rules
abbrev pub IsRunIfAny : Option Run → Type 0
IsRunIfAny None = Unit {0}
IsRunIfAny (Some r) = IsRun r
