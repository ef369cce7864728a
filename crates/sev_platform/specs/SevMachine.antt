-- What a SEV machine is seen as (AMD SEV API, guest states, LAUNCH_START).
use Rattle.std.specs.Prelude.{ℕ, ◌==◌, List, [], Bool, Option, None}
use Rattle.std.specs.List.{list_any}
use Rattle.igvm_headers.specs.declared.platform_kind.PlatformKind.{PlatformKind}
use Rattle.launch_platform.specs.Machine.{Context}
use Rattle.launch_platform.specs.declared.phase.Phase.{Phase}
use Rattle.launch_platform.specs.declared.phase.Phase.TheVariants.{Loading}

-- a page that was placed: its address, its bytes, and whether these are measured
pub record SevPage : Type 0 where
  pub gpa : ℕ
  pub page : List ℕ
  pub measured : Bool

-- A machine apart from its spares and from what it measured: entries and contexts in the order of their commands. It
-- has a digest once the launch has ended.
pub record SevState : Type 0 where
  pub kind : PlatformKind
  pub phase : Phase
  pub entries : List SevPage
  pub contexts : List Context
  pub digest : Option (List ℕ)

-- a launch on a platform of a kind that has begun, with nothing in it
abbrev pub sev_started : PlatformKind → SevState
sev_started kind = record { kind = kind; phase = Loading; entries = []; contexts = []; digest = None }

-- some entry has this address
abbrev pub has_page : ℕ → List SevPage → Bool
has_page gpa entries = list_any (λ entry. entry.gpa == gpa) entries
