-- The first header of an image that doesn't fit a host, and why.
use Rattle.std.specs.Prelude.{ℕ, List, [], ◌∷◌, ◌++◌, map, filter, Option, Some, None}
use Rattle.igvm_headers.specs.declared.header.Header.{Header}
use Rattle.platform_masks.specs.Masks.{applies}
use Rattle.platform_masks.specs.declared.platform.Platform.{Platform}
use Rattle.host_set.specs.declared.range.PlanRange.{PlanRange}
use Rattle.host_set.specs.Hosts.{HostValues}
use Rattle.igvm_image.specs.Areas.{areas_of}
use Rattle.igvm_image.specs.Headers.{PlacedHeader, placed_headers, headers_of}
use Rattle.directive_rules.specs.MisfitRows.{Setting, setting, row}
use Rattle.directive_rules.specs.declared.misfit.Why.{Why}
use Rattle.directive_rules.specs.declared.misfit.Misfit.{Misfit}

-- the headers without their places
abbrev pub headers_in : List PlacedHeader → List Header
headers_in placed = map (λ p. p.header) placed

-- the misfit of the header of a number, or else that of the headers after it
abbrev pub misfit_or : ℕ → Option Why → Option Misfit → Option Misfit
misfit_or index (Some why) later = Some (record { index = index; why = why })
misfit_or index None later = later

-- the first misfit of the second list's headers, after those of the first; all count for the platform
unfoldable pub misfit_after : Setting → List PlacedHeader → List PlacedHeader → Option Misfit
misfit_after s before [] = None
misfit_after s before (p ∷ ps) =
    misfit_or p.index (row s (headers_in before) p.header) (misfit_after s (before ++ p ∷ []) ps)

-- those headers that count for a platform's mask, in file order
abbrev pub headers_for : ℕ → List PlacedHeader → List PlacedHeader
headers_for mask placed = filter (λ p. applies p.header mask) placed

-- what a file is judged by, for one of its platforms
abbrev pub setting_of : List ℕ → Platform → List PlanRange → HostValues → Setting
setting_of file platform plan host = setting platform.kind plan host (areas_of (headers_of file))

-- the first misfit of a file; whether a digest is the one wanted is not judged here
abbrev pub first_misfit : List ℕ → Platform → List PlanRange → HostValues → Option Misfit
first_misfit file platform plan host =
    misfit_after (setting_of file platform plan host) [] (headers_for platform.mask (placed_headers file))
