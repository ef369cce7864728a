-- The pages and contexts that an image places in a guest.
use Rattle.std.specs.Prelude.{ℕ, ◌+◌, ◌*◌, List, [], ◌∷◌, ◌++◌, map, Option, Some, None, Bool, true, false}
use Rattle.std.specs.List.{flat_map, range_with_len}
use Rattle.igvm_headers.specs.HeaderFacts.{gpa_of}
use Rattle.igvm_headers.specs.Pages.{padded_page}
use Rattle.igvm_headers.specs.declared.header.Header.{Header}
use Rattle.igvm_headers.specs.declared.header.Header.TheVariants.{Page, Insert, Context}
use Rattle.igvm_headers.specs.declared.page_kind.PageKind.{PageKind}
use Rattle.igvm_headers.specs.declared.page_kind.PageKind.TheVariants.{Normal, Secrets, Cpuid, CpuidXf}
use Rattle.igvm_headers.specs.declared.platform_kind.PlatformKind.{PlatformKind}
use Rattle.igvm_headers.specs.declared.platform_kind.PlatformKind.TheVariants.{SevSnp, Tdx}
use Rattle.igvm_headers.specs.declared.tag.Tag.{Tag}
use Rattle.igvm_headers.specs.declared.tag.Tag.TheVariants as tag
use Rattle.directive_rules.specs.Tags.{tag_of}
use Rattle.host_set.specs.Hosts.{HostValues}
use Rattle.igvm_image.specs.Areas.{placed_pages}
use Rattle.igvm_image.specs.Data.{Data, data_page}
use Rattle.igvm_image.specs.Headers.{PlacedHeader}
use Rattle.launch_platform.specs.Machine as machine
use Rattle.launch_platform.specs.Commands.{context_of}
use Rattle.image_loader.specs.FilledAreas.{filled_page}
use Rattle.image_loader.specs.Loads.{Load, areas_in, directives}

-- A page that is placed: its guest physical address, its bytes, the tag by which it is added to the launch, if it is,
-- and whether its bytes are measured by `extend`.
pub record PlacedPage : Type 0 where
  pub gpa : ℕ
  pub page : List ℕ
  pub tag : Option Tag
  pub extended : Bool

-- the page of these four
abbrev pub page_with : ℕ → List ℕ → Option Tag → Bool → PlacedPage
page_with gpa page tag extended = record { gpa = gpa; page = page; tag = tag; extended = extended }

-- it as an entry of a machine
abbrev pub entry_of : PlacedPage → machine.Entry
entry_of q = record { gpa = q.gpa; page = q.page; tag = q.tag; extended = q.extended }

-- The tag by which a page is added. SEV-SNP and TDX are told of each page; other platforms only of those whose bytes are
-- measured, and a page that is just placed is in the guest, too.
abbrev pub added_by : PlatformKind → Tag → Option Tag
added_by SevSnp tag = Some tag
added_by Tdx tag = Some tag
added_by _ tag.Normal = Some tag.Normal
added_by _ tag = None

-- TDX measures the bytes of normal pages by `extend`
abbrev pub is_extended : PlatformKind → Tag → Bool
is_extended Tdx tag.Normal = true
is_extended _ _ = false

-- ---- the bytes

-- page k of a page header's data, or what the host has for a page of this kind, with zeros behind it
abbrev pub kind_page : HostValues → PageKind → Data → ℕ → List ℕ
kind_page host Normal content k = data_page content k
kind_page host Secrets content k = padded_page host.secrets
kind_page host Cpuid content k = padded_page host.cpuid
kind_page host CpuidXf content k = padded_page host.cpuid

-- the bytes of page k of a header, where `area_page` gives those of areas
abbrev pub page_bytes : HostValues → (ℕ → ℕ → List ℕ) → Header → Data → ℕ → List ℕ
page_bytes host area_page (Page gpa mask offset large unmeasured kind) content k = kind_page host kind content k
page_bytes host area_page (Insert gpa mask area) content k = area_page area k
page_bytes host area_page _ content k = []

-- ---- the pages

-- page k of a header that has a tag
abbrev pub page_at : Load → (ℕ → ℕ → List ℕ) → PlacedHeader → Tag → ℕ → PlacedPage
page_at load area_page p tag k =
    page_with (gpa_of p.header + 4096 * k) (page_bytes load.host area_page p.header p.content k)
    (added_by load.platform.kind tag) (is_extended load.platform.kind tag)

-- so many pages in rising order, where the header has a tag
abbrev pub tagged_pages : Load → (ℕ → ℕ → List ℕ) → PlacedHeader → Option Tag → ℕ → List PlacedPage
tagged_pages load area_page p None count = []
tagged_pages load area_page p (Some tag) count = map (page_at load area_page p tag) (range_with_len 0 count)

-- the pages of a header
unfoldable pub header_pages : Load → (ℕ → ℕ → List ℕ) → PlacedHeader → List PlacedPage
header_pages load area_page p =
    tagged_pages load area_page p (tag_of p.header load.platform.kind load.options) (placed_pages (areas_in load) p.header)

-- the pages of headers that follow those before them
abbrev pub pages_behind : Load → List PlacedHeader → List PlacedHeader → List PlacedPage
pages_behind load before [] = []
pages_behind load before (p ∷ ps) =
    header_pages load (filled_page load.host before) p ++ pages_behind load (before ++ p ∷ []) ps

-- the pages that the image places, in the order of their headers and addresses
abbrev pub placed : Load → List PlacedPage
placed load = pages_behind load [] (directives load)

-- ---- the contexts

-- the context of a header, where it is one
abbrev pub context_in : Header → Data → List machine.Context
context_in (Context gpa mask offset vp) content = context_of vp gpa (data_page content 0) ∷ []
context_in _ content = []

-- the context of a header, with its page
unfoldable pub header_contexts : PlacedHeader → List machine.Context
header_contexts p = context_in p.header p.content

-- the contexts that the image adds, in the order of their headers
abbrev pub contexts : Load → List machine.Context
contexts load = flat_map header_contexts (directives load)
