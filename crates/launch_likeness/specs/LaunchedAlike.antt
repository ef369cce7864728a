-- When platforms of two images are launched alike.
use Rattle.std.specs.Prelude.{◌≡◌, ◌↔◌, ℕ, List, None, Some}
use Rattle.std.specs.List.{slice_get}
use Rattle.igvm_headers.specs.declared.options.Options.{Options}
use Rattle.platform_masks.specs.declared.platform.Platform.{Platform}
use Rattle.platform_masks.specs.Platforms.{platforms_of}
use Rattle.host_set.specs.declared.range.PlanRange.{PlanRange}
use Rattle.host_set.specs.Hosts.{HostValues}
use Rattle.igvm_image.specs.Headers.{headers_of}
use Rattle.directive_rules.specs.FirstMisfit.{first_misfit}
use Rattle.igvm_measure.specs.Digests.{digest_of}
use Rattle.igvm_measure.specs.WantedDigest.{bad_digest}
use Rattle.sev_chain.specs.SevBytes.{sev_digest_of}
use Rattle.component_list.specs.Lists.{ImageParts}
use Rattle.image_builder.specs.Layout.{layout}
use Rattle.image_loader.specs.Loads.{load_of}
use Rattle.image_loader.specs.PlacedPages.{contexts, placed}
use Rattle.list_changes.specs.ListPlatforms.{renumbered}

-- They are of one kind. By all options they have one launch digest, that of their kind, and whatever values a host has,
-- the same pages are placed, added and measured, in one order, and the same contexts.
pub record AreLaunchedAlike (file : List ℕ) (p : Platform) (other : List ℕ) (q : Platform) : Type 0 where
  pub kind : q.kind ≡ p.kind
  pub digest : (options : Options) → digest_of other q options ≡ digest_of file p options
  pub sev_digest : sev_digest_of other q ≡ sev_digest_of file p
  pub placed : (options : Options) (host : HostValues)
      → placed (load_of other q options host) ≡ placed (load_of file p options host)
  pub contexts : (options : Options) (host : HostValues)
      → contexts (load_of other q options host) ≡ contexts (load_of file p options host)

-- their headers fit the same hosts, whatever memory and values these have
abbrev pub FitAlike : List ℕ → Platform → List ℕ → Platform → Type 0
FitAlike file p other q =
    (plan : List PlanRange) (host : HostValues)
    → ((first_misfit other q plan host ≡ None) ↔ (first_misfit file p plan host ≡ None))

-- an ID block of one wants another launch digest exactly where one of the other does, by all options
abbrev pub WantAlike : List ℕ → Platform → List ℕ → Platform → Type 0
WantAlike file p other q =
    (options : Options) → ((bad_digest other q options ≡ None) ↔ (bad_digest file p options ≡ None))

-- The image of a list has a platform of a file under this number and mask, and launches it alike.
pub record KeepsLaunch (file : List ℕ) (p : Platform) (list : ImageParts) (number mask : ℕ) : Type 0 where
  pub place : slice_get (platforms_of (headers_of (layout list))) number ≡ Some (renumbered number mask p)
  pub launch : AreLaunchedAlike file p (layout list) (renumbered number mask p)
