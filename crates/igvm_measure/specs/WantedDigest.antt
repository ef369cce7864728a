-- The launch digest that an ID block of a file wants, and why a file doesn't load, this digest among the causes.
use Rattle.std.specs.Prelude.{◌≡◌, ◌≢◌, ℕ, List, [], ◌∷◌, if◌then◌else◌, bytes_eq, Option, Some, None}
use Rattle.std.specs.List.{filter_map}
use Rattle.std.specs.Option.{option_or}
use Rattle.igvm_headers.specs.declared.options.Options.{Options}
use Rattle.platform_masks.specs.declared.platform.Platform.{Platform}
use Rattle.host_set.specs.declared.range.PlanRange.{PlanRange}
use Rattle.host_set.specs.Hosts.{HostValues}
use Rattle.igvm_image.specs.Headers.{placed_headers}
use Rattle.directive_rules.specs.FirstMisfit.{headers_for, first_misfit}
use Rattle.directive_rules.specs.LoadCounts.{wanted_of}
use Rattle.directive_rules.specs.declared.misfit.IdWanted.{IdWanted}
use Rattle.directive_rules.specs.declared.misfit.Misfit.{Misfit}
use Rattle.directive_rules.specs.declared.misfit.Why.TheVariants.{BadDigest}
use Rattle.igvm_measure.specs.Digests.{digest_of}

-- the first of these
abbrev pub first_wanted : List IdWanted → Option IdWanted
first_wanted [] = None
first_wanted (id ∷ ids) = Some id

-- the ID block that counts for a platform of a file, and the digest that it wants: the first, where there are more
abbrev pub wanted_id : List ℕ → Platform → Option IdWanted
wanted_id file platform = first_wanted (filter_map wanted_of (headers_for platform.mask (placed_headers file)))

-- an ID block wants another digest than this one
abbrev pub bad_digest_by : Option IdWanted → Option (List ℕ) → Option Misfit
bad_digest_by (Some id) (Some digest) =
    if bytes_eq id.wanted digest then None
    else Some (record { index = id.index; why = BadDigest id.wanted digest })
bad_digest_by _ _ = None

-- the ID block of a file wants another launch digest than the file's
abbrev pub bad_digest : List ℕ → Platform → Options → Option Misfit
bad_digest file platform options = bad_digest_by (wanted_id file platform) (digest_of file platform options)

-- the first misfit of a file: that of its headers, or else the digest that its ID block wants
abbrev pub load_misfit : List ℕ → Platform → List PlanRange → HostValues → Options → Option Misfit
load_misfit file platform plan host options =
    option_or (first_misfit file platform plan host) (bad_digest file platform options)

-- the ID block wants a digest, the file has another, and this misfit says so
pub record IsBadDigest (file : List ℕ) (platform : Platform) (options : Options) (misfit : Misfit) : Type 0 where
  pub id : IdWanted
  pub digest : List ℕ
  pub wanted : wanted_id file platform ≡ Some id
  pub found : digest_of file platform options ≡ Some digest
  pub other : id.wanted ≢ digest
  pub index : misfit.index ≡ id.index
  pub why : misfit.why ≡ BadDigest id.wanted digest
