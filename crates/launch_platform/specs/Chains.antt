-- The kind of a chain, and the records that it holds.
use Rattle.std.specs.Prelude.{List}
use Rattle.igvm_headers.specs.declared.platform_kind.PlatformKind.{PlatformKind}
use Rattle.igvm_headers.specs.declared.platform_kind.PlatformKind.TheVariants.{SevSnp, Tdx}
use Rattle.snp_chain.specs.Chain as snp
use Rattle.tdx_chain.specs.Held as tdx
use Rattle.launch_platform.specs.Machine.{LaunchRecord, infos, streams}
use Rattle.launch_platform.specs.declared.chain.Chain.{Chain}
use Rattle.launch_platform.specs.declared.chain.Chain.TheVariants as chain

-- the kind of platform that a chain is of
abbrev pub kind_of : Chain → PlatformKind
kind_of (chain.Snp c) = SevSnp
kind_of (chain.Tdx c) = Tdx

-- the chain holds those of these records that are of its kind
abbrev pub ChainHolds : Chain → List LaunchRecord → Type 0
ChainHolds (chain.Snp c) records = snp.Holds c (infos records)
ChainHolds (chain.Tdx c) records = tdx.Holds c (streams records)
