-- What contracts see of a SEV machine in memory.
use Rattle.std.specs.Prelude.{◌≡◌, ℕ, List, [], None, Some, map}
use Rattle.sha2.specs.Hashers.{Holds256}
use Rattle.sha2.specs.Sha256.{sha256}
use Rattle.igvm_headers.specs.declared.platform_kind.PlatformKind.TheVariants.{Native}
use Rattle.launch_platform.specs.declared.phase.Phase.TheVariants as phase
use Rattle.launch_platform.specs.Machine.{Spares}
use Rattle.sev_platform.specs.declared.sev_mem_launch.SevMemLaunch.{SevMemLaunch}
use Rattle.sev_platform.specs.declared.sev_mem_launch.Stage.{Stage}
use Rattle.sev_platform.specs.declared.running_sev_launch.RunningSevLaunch.{RunningSevLaunch}
use Rattle.sev_platform.specs.declared.sev_mem_launch.Stage.TheVariants.{Idle, Running, Ended}
use Rattle.sev_platform.specs.SevMachine.{SevState}
use Rattle.sev_platform.specs.SevCommands.{SevCommand, IsSevStep}
use Rattle.sev_platform.specs.SevPages.{sev_page}

-- the state of a launch that has begun
abbrev pub running_state : RunningSevLaunch → SevState
running_state launch = record {
  kind = launch.kind;
  phase = phase.Loading;
  entries = map sev_page launch.pages.entries;
  contexts = launch.pages.contexts;
  digest = None;
}

-- a launch that has begun has carried out a command
abbrev pub IsRunningStep : SevCommand → RunningSevLaunch → RunningSevLaunch → Type 0
IsRunningStep command old new =
    IsSevStep command (running_state old) (running_state new) old.pages.spares new.pages.spares
    (Holds256 old.hasher) (Holds256 new.hasher)

-- The state at a stage. Before a launch begins its kind says nothing.
abbrev pub stage_state : Stage → SevState
stage_state Idle = record { kind = Native; phase = phase.Idle; entries = []; contexts = []; digest = None }
stage_state (Running launch) = running_state launch
stage_state (Ended launch) = record {
  kind = launch.kind;
  phase = phase.Done;
  entries = map sev_page launch.pages.entries;
  contexts = launch.pages.contexts;
  digest = Some launch.digest;
}

-- the spares at a stage
abbrev pub stage_spares : Stage → Spares
stage_spares Idle = record { pages = 0; contexts = 0 }
stage_spares (Running launch) = launch.pages.spares
stage_spares (Ended launch) = launch.pages.spares

-- the bytes that may have been measured at a stage
abbrev pub StageHolds : Stage → List ℕ → Type 0
StageHolds Idle bytes = bytes ≡ []
StageHolds (Running launch) bytes = Holds256 launch.hasher bytes
StageHolds (Ended launch) bytes = launch.digest ≡ sha256 bytes

-- the machine's state
abbrev pub sev_mem_state : SevMemLaunch → SevState
sev_mem_state machine = stage_state machine.stage

-- the machine's spares
abbrev pub sev_mem_spares : SevMemLaunch → Spares
sev_mem_spares machine = stage_spares machine.stage

-- the bytes that the machine may have measured
abbrev pub SevMemHolds : SevMemLaunch → List ℕ → Type 0
SevMemHolds machine = StageHolds machine.stage

-- the machine has carried out a command
abbrev pub IsSevMemStep : SevCommand → SevMemLaunch → SevMemLaunch → Type 0
IsSevMemStep command old new =
    IsSevStep command (sev_mem_state old) (sev_mem_state new) (sev_mem_spares old) (sev_mem_spares new)
    (SevMemHolds old) (SevMemHolds new)
