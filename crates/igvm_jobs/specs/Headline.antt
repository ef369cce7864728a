-- What `load` and `measure` give of one image: the theorem that the program is for.
use Rattle.std.specs.Prelude.{◌≡◌, ℕ, ◌≤◌, ◌↔◌, List, length, Some, None, Ok}
use Rattle.std.specs.FinMap as map
use Rattle.platform_masks.specs.declared.platform.Platform.{Platform}
use Rattle.host_set.specs.declared.range.PlanRange.{PlanRange}
use Rattle.host_set.specs.Hosts.{HostValues}
use Rattle.host_set.specs.Descriptions.{host_of}
use Rattle.igvm_image.specs.FileFault.{fault_of}
use Rattle.directive_rules.specs.declared.misfit.Misfit.{Misfit}
use Rattle.igvm_measure.specs.WantedDigest.{load_misfit}
use Rattle.launch_platform.specs.Machine.{HasDigest}
use Rattle.image_loader.specs.Loads.{load_of}
use Rattle.image_loader.specs.PlacedPages.{placed, contexts}
use Rattle.igvm_outside.specs.Files.{Files}
use Rattle.igvm_words.specs.Words.{Measure, Load, LoadWords}
use Rattle.igvm_jobs.specs.declared.status.Status.TheVariants as is
use Rattle.igvm_jobs.specs.Texts.{digest_text, load_text, misfit_text}
use Rattle.igvm_jobs.specs.Outcome.{Outcome, done}
use Rattle.igvm_jobs.specs.ImageFiles.{file_limit}
use Rattle.igvm_jobs.specs.MeasureJob.{wanted_platform}
use Rattle.igvm_jobs.specs.LoadJob.{host_limit}
use Rattle.igvm_jobs.specs.Jobs.{outcome_of}

-- An image that is accepted is there under FILE, and has the platform that is asked for, whose kind has a digest; and
-- under HOST is the description of a host.
pub record IsAsked (files : Files) (words : LoadWords) (bytes : List ℕ) (platform : Platform) (plan : List PlanRange)
    (host : HostValues) : Type 0 where
  pub file : map.get files words.file ≡ Some bytes
  pub within : length bytes ≤ file_limit
  pub accepted : fault_of bytes ≡ None
  pub wanted : wanted_platform bytes words.wanted ≡ Some platform
  pub kind : HasDigest platform.kind
  pub text : List ℕ
  pub description : map.get files words.host ≡ Some text
  pub short : length text ≤ host_limit
  pub described : host_of text ≡ Ok (plan, host)

-- what the load gives
abbrev pub load_outcome : Files → LoadWords → Outcome
load_outcome files words = outcome_of (Load words) files

-- what a measurement gives of the same image, for the same platform and by the same options
abbrev pub measure_outcome : Files → LoadWords → Outcome
measure_outcome files words =
    outcome_of (Measure (record { file = words.file; wanted = words.wanted; options = words.options })) files

-- The load is done exactly where the image has no misfit on this host, and otherwise names the first. Where it is done,
-- it puts the digest that the measurement puts, which knows no host.
pub record Agree (files : Files) (words : LoadWords) (bytes : List ℕ) (platform : Platform) (plan : List PlanRange)
    (host : HostValues) : Type 0 where
  pub exact : ((load_outcome files words).status ≡ is.Done) ↔ (load_misfit bytes platform plan host words.options ≡ None)
  pub named : (misfit : Misfit) → load_misfit bytes platform plan host words.options ≡ Some misfit
      → ((load_outcome files words).status ≡ is.NotFit) × ((load_outcome files words).out ≡ misfit_text misfit)
  pub digest : List ℕ
  pub measured : measure_outcome files words ≡ done (digest_text digest)
  pub told : (load_outcome files words).status ≡ is.Done
      → (load_outcome files words).out
      ≡ load_text (length (placed (load_of bytes platform words.options host)))
      (length (contexts (load_of bytes platform words.options host))) digest
