-- The pages that headers place, without the file in which they stand.
use Rattle.std.proofs.Common.{ℕ, List, [], ◌∷◌, ◌++◌}
use Rattle.igvm_headers.specs.declared.options.Options.{Options}
use Rattle.igvm_headers.specs.declared.platform_kind.PlatformKind.{PlatformKind}
use Rattle.host_set.specs.Hosts.{HostValues}
use Rattle.directive_rules.specs.Tags.{tag_of}
use Rattle.igvm_image.specs.Areas.{placed_pages}
use Rattle.igvm_image.specs.Headers.{PlacedHeader}
use Rattle.igvm_image.specs.declared.area_table.AreaEntry.{AreaEntry}
use Rattle.image_loader.specs.FilledAreas.{filled_page}
use Rattle.image_loader.specs.Loads.{Load, load_of}
use Rattle.image_loader.specs.PlacedPages.{PlacedPage, tagged_pages}

-- a load of no file, for a platform of a kind
abbrev pub bare : PlatformKind → Options → HostValues → Load
bare kind options host =
    load_of [] (record { number = 0; mask = 0; kind = kind; highest_vtl = 0; version = 0; shared_gpa = 0 }) options host

-- the pages of a header, where these areas are declared and `area_page` gives the pages of areas
unfoldable pub header_pages_by : PlatformKind → Options → HostValues → List AreaEntry → (ℕ → ℕ → List ℕ) → PlacedHeader → List PlacedPage
header_pages_by kind options host areas area_page p =
    tagged_pages (bare kind options host) area_page p (tag_of p.header kind options) (placed_pages areas p.header)

-- the pages of headers that follow those before them
unfoldable pub pages_by : PlatformKind → Options → HostValues → List AreaEntry → List PlacedHeader → List PlacedHeader → List PlacedPage
pages_by kind options host areas before [] = []
pages_by kind options host areas before (p ∷ ps) =
    header_pages_by kind options host areas (filled_page host before) p
    ++ pages_by kind options host areas (before ++ p ∷ []) ps
