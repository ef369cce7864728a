-- The pages that a file's headers give have addresses that fit their field, and page-sized bytes.
use Rattle.std.proofs.Common.{◌≡◌, ℕ, zero, suc, ◌+◌, ◌-◌, ◌*◌, ◌/◌, ◌%◌, ◌<◌, ◌≤◌, ◌^◌, List, [], ◌∷◌, ◌++◌, length, drop, map, replicate, length-append, arith, Bool, true, false, cond, Option, Some, None}
use Rattle.std.specs.Prelude.{IfSome, filter, if◌then◌else◌, ◌==◌, unwrap_or}
use Rattle.std.specs.List.{AllByRecursion, flat_map, range_with_len}
use Rattle.std.proofs.lemmas.List.{length-take, length-replicate}
use Rattle.igvm_headers.specs.Pages.{padded_page, body_page, page_bytes, small_pages}
use Rattle.igvm_headers.specs.Numbers.{slice}
use Rattle.igvm_headers.specs.SpellingConditions.{NumbersFit}
use Rattle.igvm_headers.specs.declared.header.Header.{Header}
use Rattle.igvm_headers.specs.declared.header.Header.TheVariants.{Page, Insert, Context}
use Rattle.igvm_headers.specs.declared.options.Options.{Options}
use Rattle.igvm_headers.specs.declared.tag.Tag.{Tag}
use Rattle.igvm_headers.specs.declared.platform_kind.PlatformKind.TheVariants.{SevSnp}
use Rattle.platform_masks.specs.Masks.{applies}
use Rattle.directive_rules.specs.Tags.{tag_of}
use Rattle.igvm_image.specs.declared.area_table.AreaEntry.{AreaEntry}
use Rattle.igvm_image.specs.Areas.{areas_of, area_size, placed_pages}
use Rattle.igvm_image.specs.Data.{Data, data_page}
use Rattle.igvm_image.specs.PagesFit.{PagesFit}
use Rattle.igvm_image.specs.Headers.{PlacedHeader, placed_headers, headers_of}
use Rattle.igvm_headers.specs.HeaderFacts.{gpa_of}
use Rattle.igvm_measure.specs.Measured.{counted, is_measured, snp_page, snp_pages, snp_contexts, snp_header_measured, bytes_if, tdx_page, tdx_header_measured, snp_measured, tdx_measured}
use Rattle.igvm_measure.proofs.ChainBinding.{FitsAddress}
use Rattle.igvm_measure.proofs.StreamBinding.{FitsStream}

-- ---- each of a list

all_append : {X : Type 0} (P : X → Type 0) (xs ys : List X) → AllByRecursion P xs → AllByRecursion P ys → AllByRecursion P (xs ++ ys)
all_append P [] ys all others = others
all_append P (x ∷ xs) ys all others = (all.0, all_append P xs ys all.1 others)

all_range : {X : Type 0} (P : X → Type 0) (f : ℕ → X) (a n : ℕ) → ((k : ℕ) → k < a + n → P (f k)) → AllByRecursion P (map f (range_with_len a n))
all_range P f a zero each = tt
all_range P f a (suc n) each = (each a (omega arith), all_range P f (a + 1) n (λ k within. each k (omega arith)))

all_counted : {R : Type 0} (P : R → Type 0) (Q : PlacedHeader → Type 0) (given : PlacedHeader → List R) (mask : ℕ) (placed : List PlacedHeader)
    → ((p : PlacedHeader) → Q p → AllByRecursion P (given p)) → AllByRecursion Q placed → AllByRecursion P (counted given mask placed)
all_counted P Q given mask [] each all = tt
all_counted P Q given mask (p ∷ ps) each all = cases (applies p.header mask) (all_counted P Q given mask ps each all.1)
  where
    cases : (b : Bool) → AllByRecursion P (counted given mask ps)
        → AllByRecursion P (flat_map given (cond b (p ∷ filter (λ q. applies q.header mask) ps) (filter (λ q. applies q.header mask) ps)))
    cases true others = all_append P (given p) _ (each p all.0) others
    cases false others = others

-- ---- a header that keeps the rules and whose numbers fit

pub record HeaderFits (areas : List AreaEntry) (p : PlacedHeader) : Type 0 where
  pub pages : PagesFit areas p.header
  pub numbers : NumbersFit p.header

pub headers_both : (areas : List AreaEntry) (placed : List PlacedHeader) → AllByRecursion (λ p. PagesFit areas p.header) placed → AllByRecursion (λ p. NumbersFit p.header) placed
    → AllByRecursion (HeaderFits areas) placed
headers_both areas [] fit numbers = tt
headers_both areas (p ∷ ps) fit numbers = (record { pages = fit.0; numbers = numbers.0 }, headers_both areas ps fit.1 numbers.1)

large_fits : (large : Bool) (gpa k : ℕ) → gpa % page_bytes large ≡ 0 → gpa < 2 ^ 64 → k < small_pages large → gpa + 4096 * k < 2 ^ 64
large_fits true gpa k aligned fits within = omega arith
large_fits false gpa k aligned fits within = omega arith

insert_fits : (size gpa k : ℕ) → gpa + size ≤ 2 ^ 64 → k < size / 4096 → gpa + 4096 * k < 2 ^ 64
insert_fits size gpa k fits within = omega arith

page_fits : (areas : List AreaEntry) (header : Header) (k : ℕ) → PagesFit areas header → NumbersFit header → k < placed_pages areas header → gpa_of header + 4096 * k < 2 ^ 64
page_fits areas (Page gpa mask offset large unmeasured kind) k fit numbers within = large_fits large gpa k fit numbers.0 within
page_fits areas (Insert gpa mask area) k fit numbers within = insert_fits (unwrap_or (area_size areas area) 0) gpa k fit.1 within
page_fits areas _ k fit numbers within = absurd (omega arith)

contexts_fit : (header : Header) (content : Data) → NumbersFit header → AllByRecursion FitsAddress (snp_contexts header content)
contexts_fit (Context gpa mask offset vp) content numbers = (numbers.0, tt)
contexts_fit _ content numbers = tt

pages_fit : (found : Option Tag) (gpa pages : ℕ) (content : Data) → ((k : ℕ) → k < 0 + pages → gpa + 4096 * k < 2 ^ 64) → AllByRecursion FitsAddress (snp_pages found gpa pages content)
pages_fit None gpa pages content each = tt
pages_fit (Some tag) gpa pages content each = all_range FitsAddress (snp_page tag gpa content) 0 pages each

snp_header_fits : (options : Options) (areas : List AreaEntry) (p : PlacedHeader) → HeaderFits areas p → AllByRecursion FitsAddress (snp_header_measured options areas p)
unfolding snp_header_measured
snp_header_fits options areas p fits =
    let each : (k : ℕ) → k < 0 + placed_pages areas p.header → gpa_of p.header + 4096 * k < 2 ^ 64 = λ k within. page_fits areas p.header k fits.pages fits.numbers (omega arith) in
    all_append FitsAddress (snp_pages (tag_of p.header SevSnp options) (gpa_of p.header) (placed_pages areas p.header) p.content) (snp_contexts p.header p.content)
    (pages_fit (tag_of p.header SevSnp options) (gpa_of p.header) (placed_pages areas p.header) p.content each)
    (contexts_fit p.header p.content fits.numbers)

pub snp_fits : (options : Options) (file : List ℕ) (mask : ℕ) → AllByRecursion (HeaderFits (areas_of (headers_of file))) (placed_headers file) → AllByRecursion FitsAddress (snp_measured options file mask)
snp_fits options file mask all =
    let areas = areas_of (headers_of file) in
    all_counted FitsAddress (HeaderFits areas) (snp_header_measured options areas) mask (placed_headers file) (snp_header_fits options areas) all

-- ---- bytes

length-padded : (bytes : List ℕ) → length bytes ≤ 4096 → length (padded_page bytes) ≡ 4096
unfolding padded_page
length-padded bytes within = omega (arith, length-append bytes (replicate (4096 - length bytes) 0), length-replicate {A = ℕ} (4096 - length bytes) 0)

length-page : (content : Data) (k : ℕ) → length (data_page content k) ≡ 4096
unfolding body_page
length-page content k = cases (content.offset == 0)
  where
    cases : (b : Bool) → length {A = ℕ} (if b then replicate 4096 0 else padded_page (slice content.body (content.offset + 4096 * k) 4096)) ≡ 4096
    cases true = length-replicate {A = ℕ} 4096 0
    cases false = length-padded (slice content.body (content.offset + 4096 * k) 4096) (omega (arith, length-take 4096 (drop (content.offset + 4096 * k) content.body)))

bytes_fit : (measured : Bool) (content : Data) (k : ℕ) → IfSome (bytes_if measured (data_page content k)) (λ page. length page ≡ 4096)
bytes_fit true content k = length-page content k
bytes_fit false content k = tt

tdx_header_fits : (areas : List AreaEntry) (p : PlacedHeader) → HeaderFits areas p → AllByRecursion FitsStream (tdx_header_measured areas p)
unfolding tdx_header_measured
tdx_header_fits areas p fits =
    all_range FitsStream (tdx_page (is_measured p.header) (gpa_of p.header) p.content) 0 (placed_pages areas p.header)
    (λ k within. record {
      address = page_fits areas p.header k fits.pages fits.numbers (omega arith);
      size = bytes_fit (is_measured p.header) p.content k;
    })

pub tdx_fits : (file : List ℕ) (mask : ℕ) → AllByRecursion (HeaderFits (areas_of (headers_of file))) (placed_headers file) → AllByRecursion FitsStream (tdx_measured file mask)
tdx_fits file mask all =
    let areas = areas_of (headers_of file) in
    all_counted FitsStream (HeaderFits areas) (tdx_header_measured areas) mask (placed_headers file) (tdx_header_fits areas) all
