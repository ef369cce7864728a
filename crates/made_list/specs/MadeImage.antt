-- What a made list's image is for: its platforms, and a host that it fits.
use Rattle.std.specs.Prelude.{ℕ, List, [], ◌∷◌, codes}
use Rattle.igvm_headers.specs.declared.param_kind.ParamKind.TheVariants.{CommandLine}
use Rattle.igvm_headers.specs.declared.platform_kind.PlatformKind.{PlatformKind}
use Rattle.igvm_headers.specs.declared.platform_kind.PlatformKind.TheVariants.{SevSnp, Tdx, Native}
use Rattle.platform_masks.specs.declared.platform.Platform.{Platform}
use Rattle.host_set.specs.Hosts.{HostValues, no_values, with_value}
use Rattle.host_set.specs.declared.range.PlanRange.{PlanRange}

-- the platform of a number, under a mask
abbrev pub numbered_platform : ℕ → ℕ → PlatformKind → Platform
numbered_platform number mask kind =
    record { number = number; mask = mask; kind = kind; highest_vtl = 0; version = 1; shared_gpa = 0 }

-- the platform of SEV-SNP
abbrev pub snp_platform : Platform
snp_platform = numbered_platform 0 1 SevSnp

-- the platform of TDX
abbrev pub tdx_platform : Platform
tdx_platform = numbered_platform 1 2 Tdx

-- the three platforms
abbrev pub made_platforms : List Platform
made_platforms = snp_platform ∷ tdx_platform ∷ numbered_platform 2 4 Native ∷ []

-- 4 GB of memory from address 0 on
abbrev pub trial_plan : List PlanRange
trial_plan = record { start = 0; bytes = 0x100000000 } ∷ []

-- a command line, and nothing else
abbrev pub trial_host : HostValues
trial_host = with_value CommandLine (codes "console=ttyS0") no_values
