-- What a launch machine is seen as (SEV-SNP Firmware ABI, guest context; Intel TDX Module Base Architecture
-- Specification, TD build and measurement).
use Rattle.std.specs.Prelude.{ℕ, ◌≡◌, ◌==◌, ◌⊎◌, List, [], ◌∷◌, Bool, Option, None}
use Rattle.std.specs.List.{list_any}
use Rattle.igvm_headers.specs.declared.platform_kind.PlatformKind.{PlatformKind}
use Rattle.igvm_headers.specs.declared.platform_kind.PlatformKind.TheVariants.{SevSnp, Tdx}
use Rattle.igvm_headers.specs.declared.tag.Tag.{Tag}
use Rattle.snp_chain.specs.Chain.{PageRecord, snp}
use Rattle.tdx_chain.specs.Stream.{tdx}
use Rattle.launch_platform.specs.declared.phase.Phase.{Phase}
use Rattle.launch_platform.specs.declared.phase.Phase.TheVariants.{Loading, Done, Refused}

-- A page that was placed: its address, its bytes, its tag where it was added, and whether its bytes were measured by
-- `extend`.
pub record Entry : Type 0 where
  pub gpa : ℕ
  pub page : List ℕ
  pub tag : Option Tag
  pub extended : Bool

-- the state of a virtual processor: its index, and the address and bytes of its save area
pub record Context : Type 0 where
  pub vp : ℕ
  pub gpa : ℕ
  pub page : List ℕ

-- A machine apart from its spares and from what it measured: entries and contexts in the order of their commands. It
-- has a digest once the launch has ended.
pub record State : Type 0 where
  pub kind : PlatformKind
  pub phase : Phase
  pub entries : List Entry
  pub contexts : List Context
  pub digest : Option (List ℕ)

-- how many more pages and contexts there is room for
pub record Spares : Type 0 where
  pub pages : ℕ
  pub contexts : ℕ

-- what is measured at a time: a page's record on SEV-SNP, a row of bytes on all others
pub data LaunchRecord : Type 0 where
  Info : (page : PageRecord) → LaunchRecord
  Bytes : (bytes : List ℕ) → LaunchRecord

-- the page records among them
abbrev pub infos : List LaunchRecord → List PageRecord
infos [] = []
infos (Info page ∷ records) = page ∷ infos records
infos (Bytes bytes ∷ records) = infos records

-- the rows of bytes among them
abbrev pub streams : List LaunchRecord → List (List ℕ)
streams [] = []
streams (Info page ∷ records) = streams records
streams (Bytes bytes ∷ records) = bytes ∷ streams records

-- the digest of these records on a platform of a kind that has one
abbrev pub launch_digest : PlatformKind → List LaunchRecord → List ℕ
launch_digest SevSnp records = snp (infos records)
launch_digest Tdx records = tdx (streams records)
launch_digest _ records = []

-- a kind of platform that has a launch digest
abbrev pub HasDigest : PlatformKind → Type 0
HasDigest kind = (kind ≡ SevSnp) ⊎ (kind ≡ Tdx)

-- the launch has ended, with the digest that was wanted or with another
abbrev pub HasEnded : Phase → Type 0
HasEnded phase = (phase ≡ Done) ⊎ (phase ≡ Refused)

-- a launch on a platform of a kind that has begun, with nothing in it
abbrev pub started : PlatformKind → State
started kind = record { kind = kind; phase = Loading; entries = []; contexts = []; digest = None }

-- some entry has this address
abbrev pub is_placed : ℕ → List Entry → Bool
is_placed gpa entries = list_any (λ entry. entry.gpa == gpa) entries

-- some context is that of this virtual processor
abbrev pub has_context : ℕ → List Context → Bool
has_context vp contexts = list_any (λ context. context.vp == vp) contexts
