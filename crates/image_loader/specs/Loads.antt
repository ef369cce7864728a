-- What is loaded.
use Rattle.std.specs.Prelude.{ℕ, List}
use Rattle.igvm_headers.specs.declared.options.Options.{Options}
use Rattle.platform_masks.specs.declared.platform.Platform.{Platform}
use Rattle.host_set.specs.Hosts.{HostValues}
use Rattle.igvm_image.specs.declared.area_table.AreaEntry.{AreaEntry}
use Rattle.igvm_image.specs.Areas.{areas_of}
use Rattle.igvm_image.specs.Headers.{PlacedHeader, placed_headers, headers_of}
use Rattle.directive_rules.specs.FirstMisfit.{headers_for}

-- a file, for one of its platforms, by some options, with the values of a host
pub record Load : Type 0 where
  pub file : List ℕ
  pub platform : Platform
  pub options : Options
  pub host : HostValues

-- the load of these four
abbrev pub load_of : List ℕ → Platform → Options → HostValues → Load
load_of file platform options host =
    record { file = file; platform = platform; options = options; host = host }

-- the parameter areas that the file declares
abbrev pub areas_in : Load → List AreaEntry
areas_in load = areas_of (headers_of load.file)

-- the file's headers that count for the platform, in file order
abbrev pub directives : Load → List PlacedHeader
directives load = headers_for load.platform.mask (placed_headers load.file)
