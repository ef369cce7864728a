-- What an image is that is known to fit, and why one isn't.
use Rattle.std.specs.Prelude.{ℕ, ◌≡◌, ◌≤◌, List, [], length, sum_by, Option, Some, None}
use Rattle.std.specs.List.{filter_map}
use Rattle.std.specs.Option.{option_to_list}
use Rattle.igvm_headers.specs.declared.platform_kind.PlatformKind.{PlatformKind}
use Rattle.host_set.specs.declared.range.PlanRange.{PlanRange}
use Rattle.igvm_image.specs.RulesInWords.{declared_bytes}
use Rattle.directive_rules.specs.FirstMisfit.{first_misfit, headers_in}
use Rattle.directive_rules.specs.LoadCounts.{wanted_of}
use Rattle.directive_rules.specs.declared.misfit.IdWanted.{IdWanted}
use Rattle.directive_rules.specs.declared.misfit.Misfit as misfit
use Rattle.launch_platform.specs.Machine.{HasDigest}
use Rattle.param_areas.specs.AreaBytes.{Space}
use Rattle.image_loader.specs.Loads.{Load, directives}
use Rattle.image_loader.specs.PlacedPages.{placed, contexts}
use Rattle.image_loader.specs.declared.answers.PrepareRefusal.{PrepareRefusal}
use Rattle.image_loader.specs.declared.answers.PrepareRefusal.TheVariants.{NoDigest, Misfit, Memory}

-- its headers fit a host with these values, and with some memory plan
pub record FitsAPlan (load : Load) : Type 0 where
  pub plan : List PlanRange
  pub fits : first_misfit load.file load.platform plan load.host ≡ None

-- An image that fits, with room for its pages and contexts, its ID block, and room for its areas, none of which
-- is declared yet.
pub record IsReady (load : Load) (space : Space) (room added : ℕ) (id : Option IdWanted) : Type 0 where
  pub fits : FitsAPlan load
  pub undeclared : space.areas ≡ []
  pub total : space.total ≡ sum_by declared_bytes (headers_in (directives load))
  pub pages : length (placed load) ≤ room
  pub contexts : length (contexts load) ≤ added
  pub few_pages : room ≤ 524288
  pub few_contexts : added ≤ 65536
  pub ids : option_to_list id ≡ filter_map wanted_of (directives load)

-- A refusal to prepare: the platform's kind has no digest, and this is judged first; else it is this misfit, or want of
-- memory.
abbrev pub IsRefusedBy : PlatformKind → Option misfit.Misfit → PrepareRefusal → Type 0
IsRefusedBy kind first (NoDigest of) = (of ≡ kind) × (¬ HasDigest kind)
IsRefusedBy kind first (Misfit m) = HasDigest kind × (first ≡ Some m)
IsRefusedBy kind first Memory = HasDigest kind
