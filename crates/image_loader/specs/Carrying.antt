-- A machine on its way through the headers of an image.
use Rattle.std.specs.Prelude.{ℕ, ◌≡◌, ◌≤◌, List, ◌++◌, length, take, drop, sum_by, None}
use Rattle.igvm_image.specs.Headers.{PlacedHeader, placed_headers}
use Rattle.igvm_image.specs.RulesInWords.{declared_bytes}
use Rattle.host_set.specs.declared.range.PlanRange.{PlanRange}
use Rattle.directive_rules.specs.FirstMisfit.{headers_for, headers_in, misfit_after, setting_of}
use Rattle.image_loader.specs.declared.carrier.Carrier as carriers
use Rattle.launch_platform.specs.declared.phase.Phase.TheVariants.{Loading}
use Rattle.launch_platform.specs.Machine.{LaunchRecord}
use Rattle.launch_platform.specs.Commands.{Command}
use Rattle.param_areas.specs.AreaBytes.{Space}
use Rattle.image_loader.specs.Loads.{Load, directives}
use Rattle.image_loader.specs.PlacedPages.{PlacedPage, pages_behind, header_contexts}
use Rattle.image_loader.specs.LoadCommands.{Did, commands_behind, pages_commands, commands, state_after, records_by}
use Rattle.image_loader.specs.Fitting.{AreFresh, AreasAreBehind, MachineIsBehind}
use Rattle.std.specs.List.{flat_map}

-- a machine has carried out these commands
pub record Ran {C M : Type 0} (g : carriers.Ghosts C M) (cs : List Command) (old new : M) : Type 0 where
  pub state : g.state new ≡ state_after cs (g.state old)
  pub held : (records : List LaunchRecord) → g.holds old records → g.holds new (records ++ records_by cs (g.state old))
  pub counted : g.faults new ≡ g.faults old

-- The first k of these pages are in a machine, and the others are new to it.
pub record Placing {C M : Type 0} (g : carriers.Ghosts C M) (qs : List PlacedPage) (k : ℕ) (old new : M) : Type 0 where
  pub did : Did g (pages_commands (length (g.state old).entries) (take k qs)) k 0 old new
  pub fresh : AreFresh (g.state new).entries (drop k qs)

-- The headers that were gone through, and how a machine and the areas are behind them: some commands are carried out,
-- those that are left complete the load's, all headers that are left fit, and there is room for what they place.
pub record Carries {C M : Type 0} (g : carriers.Ghosts C M) (load : Load) (left : List PlacedHeader) (space : Space)
    (old now : M) : Type 0 where
  pub done : List PlacedHeader
  pub whole : done ++ left ≡ placed_headers load.file
  pub plan : List PlanRange
  pub fits : misfit_after (setting_of load.file load.platform plan load.host)
      (headers_for load.platform.mask done) (headers_for load.platform.mask left) ≡ None
  pub areas : AreasAreBehind load (headers_for load.platform.mask done) space
  pub machine : MachineIsBehind load (headers_for load.platform.mask done) (g.state now)
  pub room : space.total ≡ sum_by declared_bytes (headers_in (directives load))
  pub before : List Command
  pub used_pages : ℕ
  pub used_contexts : ℕ
  pub did : Did g before used_pages used_contexts old now
  pub split : before ++ commands_behind load (length (g.state now).entries) (headers_for load.platform.mask done)
      (headers_for load.platform.mask left) ≡ commands load
  pub loading : (g.state now).phase ≡ Loading
  pub kind : (g.state now).kind ≡ load.platform.kind
  pub pages : length (pages_behind load (headers_for load.platform.mask done) (headers_for load.platform.mask left))
      ≤ (g.spares now).pages
  pub contexts : length (flat_map header_contexts (headers_for load.platform.mask left)) ≤ (g.spares now).contexts
