-- What a launch digest stands for: the pages that are measured, in order, with their bytes and without any hash.
use Rattle.std.specs.Prelude.{ℕ, ◌+◌, ◌*◌, List, [], ◌∷◌, ◌++◌, map, filter, Option, Some, None, Bool, true, false}
use Rattle.std.specs.List.{flat_map, range_with_len}
use Rattle.igvm_headers.specs.HeaderFacts.{gpa_of}
use Rattle.igvm_headers.specs.declared.header.Header.{Header}
use Rattle.igvm_headers.specs.declared.header.Header.TheVariants.{Context}
use Rattle.igvm_headers.specs.declared.options.Options.{Options}
use Rattle.igvm_headers.specs.declared.tag.Tag.{Tag}
use Rattle.igvm_headers.specs.declared.tag.Tag.TheVariants as tag
use Rattle.igvm_headers.specs.declared.platform_kind.PlatformKind.{PlatformKind}
use Rattle.igvm_headers.specs.declared.platform_kind.PlatformKind.TheVariants.{SevSnp, Tdx}
use Rattle.platform_masks.specs.declared.platform.Platform.{Platform}
use Rattle.platform_masks.specs.Masks.{applies}
use Rattle.directive_rules.specs.Tags.{tag_of}
use Rattle.snp_chain.specs.declared.page.SnpPage.{SnpPage}
use Rattle.snp_chain.specs.declared.page.SnpPage.TheVariants as snp
use Rattle.snp_chain.specs.Tagged.{page_type_of}
use Rattle.igvm_image.specs.declared.area_table.AreaEntry.{AreaEntry}
use Rattle.igvm_image.specs.Areas.{areas_of, placed_pages}
use Rattle.igvm_image.specs.Data.{Data, data_page}
use Rattle.igvm_image.specs.PagesFit.{AreBytes}
use Rattle.igvm_image.specs.Headers.{PlacedHeader, IsAccepted, placed_headers, headers_of}

-- what the headers that count for a platform's mask give, in file order
abbrev pub counted : {M : Type 0} → (PlacedHeader → List M) → ℕ → List PlacedHeader → List M
counted given mask placed = flat_map given (filter (λ p. applies p.header mask) placed)

-- the bytes of a page, where they are measured
abbrev pub bytes_if : Bool → List ℕ → Option (List ℕ)
bytes_if true page = Some page
bytes_if false page = None

-- the bytes of a page with this tag are measured
abbrev pub has_bytes : Tag → Bool
has_bytes tag.Normal = true
has_bytes _ = false

-- ---- SEV-SNP

-- a page: its page type, its guest physical address, and its bytes where they are measured
pub record SnpMeasured : Type 0 where
  pub kind : SnpPage
  pub gpa : ℕ
  pub bytes : Option (List ℕ)

-- page k of a header, by its tag
abbrev pub snp_page : Tag → ℕ → Data → ℕ → SnpMeasured
snp_page tag gpa content k = record {
  kind = page_type_of tag;
  gpa = gpa + 4096 * k;
  bytes = bytes_if (has_bytes tag) (data_page content k);
}

-- the pages of a header in rising order of their addresses, and none where they have no tag
abbrev pub snp_pages : Option Tag → ℕ → ℕ → Data → List SnpMeasured
snp_pages None gpa count content = []
snp_pages (Some tag) gpa count content = map (snp_page tag gpa content) (range_with_len 0 count)

-- a context's page, and none for other headers
abbrev pub snp_contexts : Header → Data → List SnpMeasured
snp_contexts (Context gpa mask offset vp) content =
    record { kind = snp.Vmsa; gpa = gpa; bytes = Some (data_page content 0) } ∷ []
snp_contexts _ content = []

-- what a header gives, where these areas are declared
unfoldable pub snp_header_measured : Options → List AreaEntry → PlacedHeader → List SnpMeasured
snp_header_measured options areas placed =
    snp_pages (tag_of placed.header SevSnp options) (gpa_of placed.header)
    (placed_pages areas placed.header) placed.content
    ++ snp_contexts placed.header placed.content

-- what the headers of a file give that count for a platform's mask
abbrev pub snp_measured : Options → List ℕ → ℕ → List SnpMeasured
snp_measured options file mask =
    counted (snp_header_measured options (areas_of (headers_of file))) mask (placed_headers file)

-- ---- TDX

-- a page: its guest physical address, and its bytes where they are measured
pub record TdxMeasured : Type 0 where
  pub gpa : ℕ
  pub bytes : Option (List ℕ)

-- the bytes of a page are measured where it has a tag whose bytes are
abbrev pub tag_has_bytes : Option Tag → Bool
tag_has_bytes None = false
tag_has_bytes (Some tag) = has_bytes tag

-- The bytes of the pages that a header places are measured. No option has a say.
abbrev pub is_measured : Header → Bool
is_measured header = tag_has_bytes (tag_of header Tdx (record { native_zero = false }))

-- page k of a header
abbrev pub tdx_page : Bool → ℕ → Data → ℕ → TdxMeasured
tdx_page measured gpa content k = record {
  gpa = gpa + 4096 * k;
  bytes = bytes_if measured (data_page content k);
}

-- what a header gives, where these areas are declared: none where it places no pages
unfoldable pub tdx_header_measured : List AreaEntry → PlacedHeader → List TdxMeasured
tdx_header_measured areas placed =
    map (tdx_page (is_measured placed.header) (gpa_of placed.header) placed.content)
    (range_with_len 0 (placed_pages areas placed.header))

-- what the headers of a file give that count for a platform's mask
abbrev pub tdx_measured : List ℕ → ℕ → List TdxMeasured
tdx_measured file mask =
    counted (tdx_header_measured (areas_of (headers_of file))) mask (placed_headers file)

-- ---- either

-- a page of either platform: on TDX there are no page types
pub record Measured : Type 0 where
  pub kind : Option SnpPage
  pub gpa : ℕ
  pub bytes : Option (List ℕ)

-- a page on SEV-SNP
abbrev pub on_snp : SnpMeasured → Measured
on_snp m = record { kind = Some m.kind; gpa = m.gpa; bytes = m.bytes }

-- a page on TDX
abbrev pub on_tdx : TdxMeasured → Measured
on_tdx m = record { kind = None; gpa = m.gpa; bytes = m.bytes }

-- the pages of a file that are measured for a platform of this kind, under its mask
abbrev pub measured_by : PlatformKind → Options → List ℕ → ℕ → List Measured
measured_by SevSnp options file mask = map on_snp (snp_measured options file mask)
measured_by Tdx options file mask = map on_tdx (tdx_measured file mask)
measured_by _ options file mask = []

-- what the launch digest of a file for a platform stands for
abbrev pub measured : List ℕ → Platform → Options → List Measured
measured file platform options = measured_by platform.kind options file platform.mask

-- an accepted file, of bytes
pub record IsFile (file : List ℕ) : Type 0 where
  pub bytes : AreBytes file
  pub accepted : IsAccepted file
