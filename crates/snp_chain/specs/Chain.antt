-- The launch digest of an SEV-SNP guest: one hash step a page (SEV-SNP Firmware ABI, SNP_LAUNCH_UPDATE, PAGE_INFO).
use Rattle.std.specs.Prelude.{◌≡◌, ℕ, List, [], ◌∷◌, ◌++◌, fold, replicate}
use Rattle.igvm_headers.specs.Endian.{little_bytes}
use Rattle.sha2.specs.Sha512.{sha384}
use Rattle.snp_chain.specs.declared.page.SnpPage.{SnpPage}
use Rattle.snp_chain.specs.declared.page.SnpPage.TheVariants.{Normal, Vmsa, Zero, Unmeasured, Secrets, Cpuid}

-- PAGE_TYPE of a page
abbrev pub page_type : SnpPage → ℕ
page_type Normal = 1
page_type Vmsa = 2
page_type Zero = 3
page_type Unmeasured = 4
page_type Secrets = 5
page_type Cpuid = 6

-- what is measured of a page: its kind, its guest physical address, and 48 bytes that stand for what it holds
pub record PageRecord : Type 0 where
  pub kind : SnpPage
  pub gpa : ℕ
  pub contents : List ℕ

abbrev pub page_of : SnpPage → ℕ → List ℕ → PageRecord
page_of kind gpa contents = record { kind = kind; gpa = gpa; contents = contents }

-- PAGE_INFO, 112 bytes: the digest before (48), the contents (48), the length 0x70 (2), the page type, IMI_PAGE, a
-- reserved byte, the permissions of VMPL1 to VMPL3, and the address (8). No page is an IMI page, and no VMPL below 0
-- may use one.
abbrev pub page_info : List ℕ → PageRecord → List ℕ
page_info digest page =
    digest ++ page.contents ++ (0x70 ∷ 0 ∷ page_type page.kind ∷ 0 ∷ 0 ∷ 0 ∷ 0 ∷ 0 ∷ []) ++ little_bytes 8 page.gpa

-- the digest after one more page
abbrev pub digest_after : List ℕ → PageRecord → List ℕ
digest_after digest page = sha384 (page_info digest page)

-- the digest of these pages, one after the other from 48 zeros on
unfoldable pub snp : List PageRecord → List ℕ
snp pages = fold digest_after (replicate 48 0) pages

-- a chain's digest is that of these pages
abbrev pub Holds : List ℕ → List PageRecord → Type 0
Holds chain pages = chain ≡ snp pages
