-- The run of a header has the pages that the header gives.
use Rattle.std.proofs.Common.{◌≡◌, ℕ, ◌+◌, ◌-◌, ◌*◌, ◌%◌, ◌<◌, ◌≤◌, ◌^◌, List, [], ◌∷◌, ◌++◌, map, refl, sym, ap, ◌∙◌, add-zero, append-nil, arith, Bool, true, false, Option, Some, None}
use Rattle.std.specs.Prelude.{unwrap_or, ◌/◌}
use Rattle.std.specs.List.{range_with_len}
use Rattle.std.proofs.lemmas.Simd.{map-map}
use Rattle.igvm_headers.specs.HeaderFacts.{data_pages, gpa_of}
use Rattle.igvm_headers.specs.Pages.{page_bytes, small_pages}
use Rattle.igvm_headers.specs.SpellingConditions.{NumbersFit}
use Rattle.igvm_headers.specs.declared.header.Header.{Header}
use Rattle.igvm_headers.specs.declared.header.Header.TheVariants.{Page, Insert, Context}
use Rattle.igvm_headers.specs.declared.options.Options.{Options}
use Rattle.igvm_headers.specs.declared.tag.Tag.{Tag}
use Rattle.igvm_headers.specs.declared.tag.Tag.TheVariants as tag
use Rattle.igvm_headers.specs.declared.platform_kind.PlatformKind.{PlatformKind}
use Rattle.igvm_headers.specs.declared.platform_kind.PlatformKind.TheVariants.{Native, VsmIsolation, SevSnp, Tdx, Sev, SevEs}
use Rattle.directive_rules.specs.Tags.{tag_of}
use Rattle.snp_chain.specs.declared.page.SnpPage.TheVariants as snp
use Rattle.igvm_image.specs.declared.area_table.AreaEntry.{AreaEntry}
use Rattle.igvm_image.specs.Areas.{area_size, placed_pages}
use Rattle.igvm_image.specs.Data.{Data, data_page}
use Rattle.igvm_image.specs.PagesFit.{PagesFit}
use Rattle.igvm_image.specs.Headers.{PlacedHeader}
use Rattle.igvm_measure.specs.Measured.{Measured, is_measured, on_snp, on_tdx, snp_page, snp_pages, snp_contexts, snp_header_measured, tdx_page, tdx_header_measured}
use Rattle.igvm_measure.specs.PageRows.{tagged_row, snp_row, tdx_row, row_of}
use Rattle.igvm_measure.specs.Runs.{row_page, pages_from, header_measured}

all_numbers : (f : ℕ → Measured) (count : ℕ) → map f (range_with_len 0 (count - 0)) ≡ map f (range_with_len 0 count)
all_numbers f count = let same : count - 0 ≡ count = omega arith in ap (λ (n : ℕ). map f (range_with_len 0 n)) same

tagged_pages : (found : Option Tag) (gpa count : ℕ) (content : Data) → pages_from 0 (tagged_row found gpa count) content ≡ map on_snp (snp_pages found gpa count content)
tagged_pages None gpa count content = refl
tagged_pages (Some tag) gpa count content =
    all_numbers (row_page (tagged_row (Some tag) gpa count) content) count ∙ sym (map-map on_snp (snp_page tag gpa content) (range_with_len 0 count))

-- a header that is no context
no_context : (found : Option Tag) (gpa count : ℕ) (content : Data) → pages_from 0 (tagged_row found gpa count) content ≡ map on_snp (snp_pages found gpa count content ++ [])
no_context found gpa count content = tagged_pages found gpa count content ∙ ap (map on_snp) (sym (append-nil (snp_pages found gpa count content)))

snp_run : (options : Options) (areas : List AreaEntry) (header : Header) (content : Data)
    → pages_from 0 (snp_row options areas header) content
    ≡ map on_snp (snp_pages (tag_of header SevSnp options) (gpa_of header) (placed_pages areas header) content ++ snp_contexts header content)
snp_run options areas (Context gpa mask offset vp) content = ap (λ (g : ℕ). record { kind = Some snp.Vmsa; gpa = g; bytes = Some (data_page content 0) } ∷ []) (add-zero gpa)
snp_run options areas (Page gpa mask offset large unmeasured kind) content = no_context (tag_of (Page gpa mask offset large unmeasured kind) SevSnp options) gpa (small_pages large) content
snp_run options areas (Insert gpa mask area) content = no_context (Some tag.Unmeasured) gpa (placed_pages areas (Insert gpa mask area)) content
snp_run options areas header content = refl

tdx_run : (areas : List AreaEntry) (p : PlacedHeader) → pages_from 0 (tdx_row areas p.header) p.content ≡ map on_tdx (tdx_header_measured areas p)
unfolding tdx_header_measured
tdx_run areas p =
    let numbers = range_with_len 0 (placed_pages areas p.header) in
    all_numbers (row_page (tdx_row areas p.header) p.content) (placed_pages areas p.header)
    ∙ sym (map-map on_tdx (tdx_page (is_measured p.header) (gpa_of p.header) p.content) numbers)

pub header_run : (kind : PlatformKind) (options : Options) (areas : List AreaEntry) (p : PlacedHeader) → pages_from 0 (row_of kind options areas p.header) p.content ≡ header_measured kind options areas p
unfolding snp_header_measured
header_run SevSnp options areas p = snp_run options areas p.header p.content
header_run Native options areas p = tdx_run areas p
header_run VsmIsolation options areas p = tdx_run areas p
header_run Tdx options areas p = tdx_run areas p
header_run Sev options areas p = tdx_run areas p
header_run SevEs options areas p = tdx_run areas p

-- ---- the addresses of a row

large_fits : (large : Bool) (gpa : ℕ) → gpa % page_bytes large ≡ 0 → gpa < 2 ^ 64 → gpa + 4096 * small_pages large < 2 ^ 64 + 4096
large_fits true gpa aligned fits = omega arith
large_fits false gpa aligned fits = omega arith

insert_fits : (size gpa : ℕ) → gpa + size ≤ 2 ^ 64 → gpa + 4096 * (size / 4096) < 2 ^ 64 + 4096
insert_fits size gpa fits = omega arith

count_fits : (areas : List AreaEntry) (header : Header) → PagesFit areas header → NumbersFit header → gpa_of header + 4096 * placed_pages areas header < 2 ^ 64 + 4096
count_fits areas (Page gpa mask offset large unmeasured kind) fit numbers = large_fits large gpa fit numbers.0
count_fits areas (Insert gpa mask area) fit numbers = insert_fits (unwrap_or (area_size areas area) 0) gpa fit.1
count_fits areas header fit numbers = omega arith

gpa_fits : (header : Header) → NumbersFit header → gpa_of header < 2 ^ 64
gpa_fits (Page gpa mask offset large unmeasured kind) numbers = numbers.0
gpa_fits (Insert gpa mask area) numbers = numbers.0
gpa_fits header numbers = omega arith

tagged_fits : (found : Option Tag) (gpa count : ℕ) → gpa < 2 ^ 64 → gpa + 4096 * count < 2 ^ 64 + 4096 → (tagged_row found gpa count).gpa + 4096 * (tagged_row found gpa count).count < 2 ^ 64 + 4096
tagged_fits None gpa count small fits = omega arith
tagged_fits (Some tag) gpa count small fits = fits

snp_row_fits : (options : Options) (areas : List AreaEntry) (header : Header) → PagesFit areas header → NumbersFit header → (snp_row options areas header).gpa + 4096 * (snp_row options areas header).count < 2 ^ 64 + 4096
snp_row_fits options areas (Context gpa mask offset vp) fit numbers = omega (arith, numbers.0)
snp_row_fits options areas header fit numbers =
    tagged_fits (tag_of header SevSnp options) (gpa_of header) (placed_pages areas header) (gpa_fits header numbers) (count_fits areas header fit numbers)

pub row_fits : (kind : PlatformKind) (options : Options) (areas : List AreaEntry) (header : Header) → PagesFit areas header → NumbersFit header → (row_of kind options areas header).gpa + 4096 * (row_of kind options areas header).count < 2 ^ 64 + 4096
row_fits SevSnp options areas header fit numbers = snp_row_fits options areas header fit numbers
row_fits _ options areas header fit numbers = count_fits areas header fit numbers

page_aligned : (large : Bool) (gpa : ℕ) → gpa % page_bytes large ≡ 0 → gpa % 4096 ≡ 0
page_aligned true gpa aligned = omega arith
page_aligned false gpa aligned = aligned

gpa_aligned : (areas : List AreaEntry) (header : Header) → PagesFit areas header → gpa_of header % 4096 ≡ 0
gpa_aligned areas (Page gpa mask offset large unmeasured kind) fit = page_aligned large gpa fit
gpa_aligned areas (Insert gpa mask area) fit = fit.0
gpa_aligned areas header fit = refl

tagged_aligned : (found : Option Tag) (gpa count : ℕ) → gpa % 4096 ≡ 0 → (tagged_row found gpa count).gpa % 4096 ≡ 0
tagged_aligned None gpa count aligned = aligned
tagged_aligned (Some tag) gpa count aligned = aligned

snp_row_aligned : (options : Options) (areas : List AreaEntry) (header : Header) → PagesFit areas header → (snp_row options areas header).kind ≡ None → (snp_row options areas header).gpa % 4096 ≡ 0
snp_row_aligned options areas (Context gpa mask offset vp) fit none = cc
snp_row_aligned options areas header fit none = tagged_aligned (tag_of header SevSnp options) (gpa_of header) (placed_pages areas header) (gpa_aligned areas header fit)

pub row_aligned : (kind : PlatformKind) (options : Options) (areas : List AreaEntry) (header : Header) → PagesFit areas header → (row_of kind options areas header).kind ≡ None → (row_of kind options areas header).gpa % 4096 ≡ 0
row_aligned SevSnp options areas header fit none = snp_row_aligned options areas header fit none
row_aligned _ options areas header fit none = gpa_aligned areas header fit

-- ---- the data of a row

tagged_data : (found : Option Tag) (gpa count pages : ℕ) → count ≤ pages → (tagged_row found gpa count).count ≤ pages
tagged_data None gpa count pages within = omega arith
tagged_data (Some tag) gpa count pages within = within

snp_row_data : (options : Options) (areas : List AreaEntry) (header : Header) (pages : ℕ) → pages ≡ data_pages header → (snp_row options areas header).with_bytes ≡ true → (snp_row options areas header).count ≤ pages
snp_row_data options areas (Context gpa mask offset vp) pages same measured = omega arith
snp_row_data options areas (Page gpa mask offset large unmeasured kind) pages same measured =
    tagged_data (tag_of (Page gpa mask offset large unmeasured kind) SevSnp options) gpa (small_pages large) pages (omega arith)
snp_row_data options areas header pages same measured = cc

tdx_row_data : (areas : List AreaEntry) (header : Header) (pages : ℕ) → pages ≡ data_pages header → (tdx_row areas header).with_bytes ≡ true → (tdx_row areas header).count ≤ pages
tdx_row_data areas (Page gpa mask offset large unmeasured kind) pages same measured = omega arith
tdx_row_data areas header pages same measured = cc

pub row_data : (kind : PlatformKind) (options : Options) (areas : List AreaEntry) (header : Header) (pages : ℕ) → pages ≡ data_pages header → (row_of kind options areas header).with_bytes ≡ true → (row_of kind options areas header).count ≤ pages
row_data SevSnp options areas header pages same measured = snp_row_data options areas header pages same measured
row_data _ options areas header pages same measured = tdx_row_data areas header pages same measured
