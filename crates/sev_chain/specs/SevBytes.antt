-- The launch digest of a file for a SEV or SEV-ES platform: one hash over the bytes that are put into the guest as
-- measured, without addresses and types (AMD SEV API, LAUNCH_UPDATE_DATA, LAUNCH_UPDATE_VMSA and LAUNCH_MEASURE).
use Rattle.std.specs.Prelude.{◌≡◌, ◌≢◌, ◌⊎◌, ℕ, List, [], Option, Some, None, Bool, false}
use Rattle.std.specs.List.{flat_map, range_with_len}
use Rattle.sha2.specs.Sha256.{sha256}
use Rattle.igvm_headers.specs.declared.header.Header.{Header}
use Rattle.igvm_headers.specs.declared.header.Header.TheVariants.{Page, Context}
use Rattle.igvm_headers.specs.declared.page_kind.PageKind.{PageKind}
use Rattle.igvm_headers.specs.declared.page_kind.PageKind.TheVariants.{Normal}
use Rattle.igvm_headers.specs.declared.platform_kind.PlatformKind.{PlatformKind}
use Rattle.igvm_headers.specs.declared.platform_kind.PlatformKind.TheVariants.{Sev, SevEs}
use Rattle.platform_masks.specs.declared.platform.Platform.{Platform}
use Rattle.igvm_image.specs.Data.{Data, data_page}
use Rattle.igvm_image.specs.Headers.{PlacedHeader, placed_headers}
use Rattle.igvm_measure.specs.Measured.{counted}

-- the bytes of all pages of a header's data, in rising order
abbrev pub all_pages : Data → List ℕ
all_pages content = flat_map (data_page content) (range_with_len 0 content.pages)

-- what a page gives: the bytes of a normal one without the unmeasured flag
abbrev pub hashed_pages : Bool → PageKind → Data → List ℕ
hashed_pages false Normal content = all_pages content
hashed_pages _ _ content = []

-- what a context gives: the state of a virtual processor, which enters on SEV-ES alone
abbrev pub hashed_context : PlatformKind → Data → List ℕ
hashed_context SevEs content = data_page content 0
hashed_context _ content = []

-- what a header gives on platforms of a kind, by its data
abbrev pub hashed_in : PlatformKind → Header → Data → List ℕ
hashed_in platform (Page gpa mask offset large unmeasured kind) content = hashed_pages unmeasured kind content
hashed_in platform (Context gpa mask offset vp) content = hashed_context platform content
hashed_in _ _ content = []

-- the bytes that a header gives on platforms of a kind
unfoldable pub header_bytes : PlatformKind → PlacedHeader → List ℕ
header_bytes kind placed = hashed_in kind placed.header placed.content

-- the bytes of a file that are hashed for a platform: those of the headers that count for it, in file order
abbrev pub sev_bytes : List ℕ → Platform → List ℕ
sev_bytes file platform = counted (header_bytes platform.kind) platform.mask (placed_headers file)

-- the SHA-256 of these
unfoldable pub sev_digest : List ℕ → Platform → List ℕ
sev_digest file platform = sha256 (sev_bytes file platform)

-- the kinds of platform that have this digest
abbrev pub HasSevDigest : PlatformKind → Type 0
HasSevDigest kind = (kind ≡ Sev) ⊎ (kind ≡ SevEs)

-- the launch digest of a file for a platform, if it is of this kind
abbrev pub sev_digest_by : PlatformKind → List ℕ → Platform → Option (List ℕ)
sev_digest_by Sev file platform = Some (sev_digest file platform)
sev_digest_by SevEs file platform = Some (sev_digest file platform)
sev_digest_by _ file platform = None

-- the launch digest of a file for a platform, where its kind has this one
abbrev pub sev_digest_of : List ℕ → Platform → Option (List ℕ)
sev_digest_of file platform = sev_digest_by platform.kind file platform

-- a header is not the context of a virtual processor
abbrev pub IsNoContext : PlacedHeader → Type 0
IsNoContext placed = (gpa mask offset vp : ℕ) → placed.header ≢ Context gpa mask offset vp
