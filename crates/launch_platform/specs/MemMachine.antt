-- What contracts see of a machine in memory.
use Rattle.std.specs.Prelude.{◌≡◌, List, [], None, Some, if◌then◌else◌}
use Rattle.igvm_headers.specs.declared.platform_kind.PlatformKind.TheVariants.{Native}
use Rattle.launch_platform.specs.declared.phase.Phase.TheVariants as phase
use Rattle.launch_platform.specs.declared.mem_launch.MemLaunch.{MemLaunch}
use Rattle.launch_platform.specs.declared.mem_launch.Stage.{Stage}
use Rattle.launch_platform.specs.declared.running_launch.RunningLaunch.{RunningLaunch}
use Rattle.launch_platform.specs.declared.mem_launch.Stage.TheVariants.{Idle, Running, Ended}
use Rattle.launch_platform.specs.Machine.{State, Spares, LaunchRecord, launch_digest}
use Rattle.launch_platform.specs.Commands.{Command, IsStep}
use Rattle.launch_platform.specs.Chains.{kind_of, ChainHolds}

-- the state of a launch that has begun
abbrev pub running_state : RunningLaunch → State
running_state launch = record {
  kind = kind_of launch.chain;
  phase = phase.Loading;
  entries = launch.pages.entries;
  contexts = launch.pages.contexts;
  digest = None;
}

-- a launch that has begun has carried out a command
abbrev pub IsRunningStep : Command → RunningLaunch → RunningLaunch → Type 0
IsRunningStep command old new =
    IsStep command (running_state old) (running_state new) old.pages.spares new.pages.spares
    (ChainHolds old.chain) (ChainHolds new.chain)

-- The state at a stage. Before a launch begins its kind says nothing.
abbrev pub stage_state : Stage → State
stage_state Idle = record { kind = Native; phase = phase.Idle; entries = []; contexts = []; digest = None }
stage_state (Running launch) = running_state launch
stage_state (Ended launch) = record {
  kind = launch.kind;
  phase = if launch.is_refused then phase.Refused else phase.Done;
  entries = launch.pages.entries;
  contexts = launch.pages.contexts;
  digest = Some launch.digest;
}

-- the spares at a stage
abbrev pub stage_spares : Stage → Spares
stage_spares Idle = record { pages = 0; contexts = 0 }
stage_spares (Running launch) = launch.pages.spares
stage_spares (Ended launch) = launch.pages.spares

-- the records that may have been measured at a stage
abbrev pub StageHolds : Stage → List LaunchRecord → Type 0
StageHolds Idle records = records ≡ []
StageHolds (Running launch) records = ChainHolds launch.chain records
StageHolds (Ended launch) records = launch.digest ≡ launch_digest launch.kind records

-- the machine's state
abbrev pub mem_state : MemLaunch → State
mem_state machine = stage_state machine.stage

-- the machine's spares
abbrev pub mem_spares : MemLaunch → Spares
mem_spares machine = stage_spares machine.stage

-- the records that the machine may have measured
abbrev pub MemHolds : MemLaunch → List LaunchRecord → Type 0
MemHolds machine = StageHolds machine.stage

-- the machine has carried out a command
abbrev pub IsMemStep : Command → MemLaunch → MemLaunch → Type 0
IsMemStep command old new =
    IsStep command (mem_state old) (mem_state new) (mem_spares old) (mem_spares new) (MemHolds old) (MemHolds new)
