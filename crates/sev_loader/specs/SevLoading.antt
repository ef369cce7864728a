-- What a load of a SEV or SEV-ES guest leaves, by what it answers.
use Rattle.std.specs.Prelude.{ℕ, ◌≡◌, ◌⊎◌, List, [], ◌∷◌, ◌++◌, take, slice_get, false, Option, None, Some}
use Rattle.directive_rules.specs.declared.misfit.Misfit.{Misfit}
use Rattle.launch_platform.specs.declared.phase.Phase.TheVariants.{Loading, Done}
use Rattle.image_loader.specs.Loads.{Load}
use Rattle.image_loader.specs.PlacedPages.{contexts}
use Rattle.sev_chain.specs.SevBytes.{HasSevDigest, sev_digest_of}
use Rattle.sev_platform.specs.declared.sev_launch.SevLaunch as launches
use Rattle.sev_platform.specs.SevMachine.{SevPage, SevState}
use Rattle.sev_loader.specs.SevPlaced.{sev_placed}
use Rattle.sev_loader.specs.declared.answers.SevAnswer.{SevAnswer}
use Rattle.sev_loader.specs.declared.answers.SevAnswer.TheVariants.{Loaded, DoesNotFit}
use Rattle.sev_loader.specs.declared.answers.SevRefusal.{SevRefusal}
use Rattle.sev_loader.specs.declared.answers.SevRefusal.TheVariants.{NoDigest, Launch, Memory}

-- A machine holds the image: its launch is done, it has exactly the pages and contexts that the image places, in order,
-- and the digest that is computed from the file alone.
pub record HoldsSevImage (load : Load) (s : SevState) : Type 0 where
  pub kind : s.kind ≡ load.platform.kind
  pub phase : s.phase ≡ Done
  pub entries : s.entries ≡ sev_placed load
  pub contexts : s.contexts ≡ contexts load
  pub digest : s.digest ≡ sev_digest_of load.file load.platform

-- How a load ends by its answer, where `first` is the first misfit: the machine holds the image, and has the digest that
-- is answered, where there is none; else that one is named, of a kind that has such a digest, and the machine is
-- untouched.
abbrev pub SevEndsBy : {M : Type 0} → launches.Ghosts M → Load → Option Misfit → M → M → SevAnswer → Type 0
SevEndsBy g load first old new (Loaded digest) =
    (first ≡ None) × HoldsSevImage load (g.state new) × ((g.state new).digest ≡ Some digest)
SevEndsBy g load first old new (DoesNotFit misfit) =
    HasSevDigest load.platform.kind × (first ≡ Some misfit) × (new ≡ old)

-- these are the first of those pages, of which the last may not be measured yet
abbrev pub AreFirst : List SevPage → List SevPage → Type 0
AreFirst es all =
    (n : ℕ) × ((es ≡ take n all)
    ⊎ ((last : SevPage) × (slice_get all n ≡ Some last) × (es ≡ take n all ++ record last { measured = false } ∷ [])))

-- A load was stopped on its way: the launch has begun, and some of the first pages and contexts are in the machine, each
-- page as the image has it, but that the last may not be measured yet.
pub record IsCutShort (load : Load) (s : SevState) : Type 0 where
  pub kind : s.kind ≡ load.platform.kind
  pub phase : s.phase ≡ Loading
  pub entries : AreFirst s.entries (sev_placed load)
  pub contexts : (n : ℕ) × (s.contexts ≡ take n (contexts load))
  pub digest : s.digest ≡ None

-- a load that was stopped has left the machine as it was, or cut the load short
abbrev pub IsSevStopped : Load → SevState → SevState → Type 0
IsSevStopped load old new = (new ≡ old) ⊎ IsCutShort load new

-- Why there is no answer, and what stands then: the platform's kind has no such digest, which is judged first, and the
-- machine is untouched; a fault of the machine, of an image that fits; want of memory, and the machine is as before.
abbrev pub IsSevRefusal : {M : Type 0} → launches.Ghosts M → Load → Option Misfit → M → M → SevRefusal → Type 0
IsSevRefusal g load first old new (NoDigest of) =
    (of ≡ load.platform.kind) × (¬ HasSevDigest load.platform.kind) × (new ≡ old)
IsSevRefusal g load first old new Launch =
    HasSevDigest load.platform.kind × (first ≡ None) × IsSevStopped load (g.state old) (g.state new)
IsSevRefusal g load first old new Memory = HasSevDigest load.platform.kind × (g.state new ≡ g.state old)
