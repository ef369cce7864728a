-- Parameters (`igvm_defs`, IGVM_VHT_VP_COUNT_PARAMETER and its kin): all of them, with the header type, the place among
-- all, and the name of each.
use Rattle.std.specs.Prelude.{ℕ, List, [], ◌∷◌, ◌==◌, Option, codes, find, bytes_eq}
use Rattle.igvm_headers.specs.declared.param_kind.ParamKind.{ParamKind}
use Rattle.igvm_headers.specs.declared.param_kind.ParamKind.TheVariants.{VpCount, Srat, Madt, MmioRanges, MemoryMap, CommandLine, Slit, Pptt, DeviceTree, EnvironmentInfo}

-- all parameters, in the order of their header types
abbrev pub param_kinds : List ParamKind
param_kinds =
    VpCount ∷ Srat ∷ Madt ∷ MmioRanges ∷ MemoryMap ∷ CommandLine ∷ Slit ∷ Pptt ∷ DeviceTree ∷ EnvironmentInfo ∷ []

-- the type of a parameter's header
abbrev pub param_type : ParamKind → ℕ
param_type VpCount = 0x307
param_type Srat = 0x308
param_type Madt = 0x309
param_type MmioRanges = 0x30A
param_type MemoryMap = 0x30C
param_type CommandLine = 0x30E
param_type Slit = 0x30F
param_type Pptt = 0x310
param_type DeviceTree = 0x312
param_type EnvironmentInfo = 0x313

-- the place of a parameter among all
abbrev pub param_number : ParamKind → ℕ
param_number VpCount = 0
param_number Srat = 1
param_number Madt = 2
param_number MmioRanges = 3
param_number MemoryMap = 4
param_number CommandLine = 5
param_number Slit = 6
param_number Pptt = 7
param_number DeviceTree = 8
param_number EnvironmentInfo = 9

-- the name that texts, lists and host descriptions have for a parameter
abbrev pub param_text : ParamKind → List ℕ
param_text VpCount = codes "vp_count"
param_text Srat = codes "srat"
param_text Madt = codes "madt"
param_text MmioRanges = codes "mmio_ranges"
param_text MemoryMap = codes "memory_map"
param_text CommandLine = codes "command_line"
param_text Slit = codes "slit"
param_text Pptt = codes "pptt"
param_text DeviceTree = codes "device_tree"
param_text EnvironmentInfo = codes "environment_info"

-- the parameter of a header's type
abbrev pub param_kind_of : ℕ → Option ParamKind
param_kind_of type = find (λ kind. param_type kind == type) param_kinds

-- the parameter of a name
abbrev pub param_kind_named : List ℕ → Option ParamKind
param_kind_named name = find (λ kind. bytes_eq (param_text kind) name) param_kinds
