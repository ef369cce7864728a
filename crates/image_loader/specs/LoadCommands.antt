-- The commands that load an image, and what some of them leave.
use Rattle.std.specs.Prelude.{ℕ, suc, ◌≡◌, ◌+◌, ◌≤◌, List, [], ◌∷◌, ◌++◌, length, map, take, Option, Some, None, Bool, true, false}
use Rattle.igvm_headers.specs.FaultCounts.{Rose}
use Rattle.igvm_headers.specs.declared.tag.Tag.{Tag}
use Rattle.igvm_image.specs.Headers.{PlacedHeader}
use Rattle.launch_platform.specs.declared.launch.Launch as launches
use Rattle.image_loader.specs.declared.carrier.Carrier as carriers
use Rattle.launch_platform.specs.Machine.{State, Entry, Context, LaunchRecord, started}
use Rattle.launch_platform.specs.Commands.{Command, Place, Add, Extend, AddContext, after_command, records_of}
use Rattle.image_loader.specs.FilledAreas.{filled_page}
use Rattle.image_loader.specs.Loads.{Load, directives}
use Rattle.image_loader.specs.PlacedPages.{PlacedPage, header_pages, header_contexts}

-- ---- the commands, between the start of the launch and its end

-- a page that is part of the launch is added by its tag, as entry number `slot`
abbrev pub add_command : Option Tag → ℕ → List Command
add_command None slot = []
add_command (Some tag) slot = Add slot tag ∷ []

-- a page whose bytes are measured is extended, as entry number `slot`
abbrev pub extend_command : Bool → ℕ → List Command
extend_command true slot = Extend slot ∷ []
extend_command false slot = []

-- the commands for a page that is entry number `slot`
abbrev pub page_commands : ℕ → PlacedPage → List Command
page_commands slot q = Place q.gpa q.page ∷ add_command q.tag slot ++ extend_command q.extended slot

-- the commands for these pages, of which the first is entry number `slot`
abbrev pub pages_commands : ℕ → List PlacedPage → List Command
pages_commands slot [] = []
pages_commands slot (q ∷ qs) = page_commands slot q ++ pages_commands (suc slot) qs

-- the commands for these contexts
abbrev pub context_commands : List Context → List Command
context_commands contexts = map (λ c. AddContext c.vp c.gpa c.page) contexts

-- the commands for a header, behind `slot` entries
abbrev pub header_commands : Load → (ℕ → ℕ → List ℕ) → ℕ → PlacedHeader → List Command
header_commands load area_page slot p =
    pages_commands slot (header_pages load area_page p) ++ context_commands (header_contexts p)

-- the commands for headers that follow those before them, behind `slot` entries
abbrev pub commands_behind : Load → ℕ → List PlacedHeader → List PlacedHeader → List Command
commands_behind load slot before [] = []
commands_behind load slot before (p ∷ ps) =
    header_commands load (filled_page load.host before) slot p
    ++ commands_behind load (slot + length (header_pages load (filled_page load.host before) p)) (before ++ p ∷ []) ps

-- the commands that load the image
abbrev pub commands : Load → List Command
commands load = commands_behind load 0 [] (directives load)

-- ---- what commands leave

-- the state after these commands
abbrev pub state_after : List Command → State → State
state_after [] s = s
state_after (c ∷ cs) s = state_after cs (after_command c s)

-- the records that they give
abbrev pub records_by : List Command → State → List LaunchRecord
records_by [] s = []
records_by (c ∷ cs) s = records_of c s ++ records_by cs (after_command c s)

-- the state with more entries and contexts
abbrev pub grown : State → List Entry → List Context → State
grown s entries contexts = record s { entries = s.entries ++ entries; contexts = s.contexts ++ contexts }

-- A machine that was idle is as the start of the load and the first n of its commands leave it, where its make says
-- what its state is and what records it may hold.
pub record IsAfterIn {M : Type 0} (state_of : M → State) (holds : M → List LaunchRecord → Type 0) (load : Load) (n : ℕ)
    (machine : M) : Type 0 where
  pub some : n ≤ length (commands load)
  pub state : state_of machine ≡ state_after (take n (commands load)) (started load.platform.kind)
  pub held : holds machine (records_by (take n (commands load)) (started load.platform.kind))

-- a launch machine is so
abbrev pub IsAfter : {L : Type 0} → launches.Ghosts L → Load → ℕ → L → Type 0
IsAfter g load n machine = IsAfterIn g.state g.holds load n machine

-- A machine has carried out these commands, and so many of its spares are used.
pub record Did {C M : Type 0} (g : carriers.Ghosts C M) (cs : List Command) (pages contexts : ℕ) (old new : M) : Type 0 where
  pub state : g.state new ≡ state_after cs (g.state old)
  pub held : (records : List LaunchRecord) → g.holds old records → g.holds new (records ++ records_by cs (g.state old))
  pub spare_pages : (g.spares new).pages + pages ≡ (g.spares old).pages
  pub spare_contexts : (g.spares new).contexts + contexts ≡ (g.spares old).contexts
  pub counted : g.faults new ≡ g.faults old

-- A fault has stopped it behind a front of these commands.
pub record Stopped {C M : Type 0} (g : carriers.Ghosts C M) (cs : List Command) (old new : M) : Type 0 where
  pub front : List Command
  pub back : List Command
  pub split : front ++ back ≡ cs
  pub state : g.state new ≡ state_after front (g.state old)
  pub held : (records : List LaunchRecord) → g.holds old records → g.holds new (records ++ records_by front (g.state old))
  pub rose : Rose (g.faults old) (g.faults new)
  pub counted : g.faults old ≤ g.faults new
